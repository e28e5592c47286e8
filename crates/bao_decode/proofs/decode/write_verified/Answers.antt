use Rattle.bao_decode.proofs.Copying.{flushed_unknown, second_unknown}
use Rattle.bao_decode.specs.Ranges.{part_bytes}
use Rattle.bao_decode.proofs.Decodings.{text_flushed_known, text_flushed_some, text_second}
use Rattle.bao_decode.proofs.decode.write_verified.Goals as goal

pub returns-in-Ok-clause-some : goal.returns-in-Ok-clause-some
returns-in-Ok-clause-some g c =
    let done = c.in-Ok.ensures.ok in
    text_flushed_some (part_bytes c.args.part.now) c.args.mode.now c.args.root.now.0 c.args.part.now (g.S.Source.contents c.args.source.now) (g.W.Write.contents c.args.out.now) (g.W.Write.contents c.text_pass.new.out)
    (g.W.Write.contents c.flushed.new.out) done.0 c.in-Ok.count c.flushed.result done.1 done.2 done.3 c.flushed.ensures.keeps c.flushed.ensures.ok

pub returns-in-Ok-clause-known : goal.returns-in-Ok-clause-known
returns-in-Ok-clause-known g c =
    let done = c.in-Ok.ensures.ok in
    text_flushed_known (part_bytes c.args.part.now) c.args.mode.now c.args.root.now.0 c.args.part.now (g.S.Source.contents c.args.source.now) (g.S.Source.faultless c.args.source.now) c.args.file c.args.path
    (g.W.Write.contents c.args.out.now) (g.W.Write.contents c.text_pass.new.out) (g.W.Write.contents c.flushed.new.out) done.0 c.in-Ok.count c.flushed.result done.1 done.2 done.3
    c.flushed.ensures.keeps c.flushed.ensures.ok c.flushed.ensures.err

pub returns-in-Ok-clause-fault : goal.returns-in-Ok-clause-fault
returns-in-Ok-clause-fault g c =
    flushed_unknown c.args.file c.args.path (g.W.Write.contents c.args.out.now) (g.W.Write.contents c.flushed.new.out) c.flushed.result c.flushed.ensures.err

pub returns-in-Err-clause-known : goal.returns-in-Err-clause-known
returns-in-Err-clause-known g c =
    text_second (part_bytes c.args.part.now) c.args.mode.now c.args.root.now.0 c.args.part.now (g.S.Source.contents c.args.source.now) (g.S.Source.faultless c.args.source.now) c.args.file c.args.path
    (g.W.Write.contents c.args.out.now) (g.W.Write.contents c.text_pass.new.out) c.in-Err.fault c.second_fault.result c.second_fault.ensures c.in-Err.ensures.err

pub returns-in-Err-clause-fault : goal.returns-in-Err-clause-fault
returns-in-Err-clause-fault g c =
    second_unknown c.args.file c.args.path (g.W.Write.contents c.args.out.now) (g.W.Write.contents c.text_pass.new.out) c.in-Err.fault c.second_fault.result c.second_fault.ensures

use Rattle.std.proofs.Common.{List, ℕ, Err}
use Rattle.bao_decode.proofs.Copying.{flushed_unknown}
use Rattle.bao_decode.proofs.Decodings.{text_after, text_first, text_flushed_known, text_flushed_some, text_second}
use Rattle.bao_decode.proofs.slicing.write_encoding.Goals as goal

pub returns-in-Err-clause-known : goal.returns-in-Err-clause-known
returns-in-Err-clause-known g c =
    text_first (λ (x : List ℕ). x) c.args.mode.now c.args.root.now.0 c.args.part.now (g.F.Forward.contents c.args.source.now) (g.F.Forward.faultless c.args.source.now) c.args.file c.args.path
    (g.W.Write.contents c.args.out.now) c.in-Err.fault c.first_fault.result c.first_fault.ensures c.in-Err.ensures.err

pub returns-in-Ok-encoding_pass-clause-some : goal.returns-in-Ok-encoding_pass-clause-some
returns-in-Ok-encoding_pass-clause-some g c =
    let done = c.in-Ok-encoding_pass.ensures.ok in
    text_flushed_some (λ (x : List ℕ). x) c.args.mode.now c.args.root.now.0 c.args.part.now (g.F.Forward.contents c.args.source.now) (g.W.Write.contents c.args.out.now) (g.W.Write.contents c.encoding_pass.new.out)
    (g.W.Write.contents c.flushed.new.out) done.0 c.in-Ok-encoding_pass.count c.flushed.result done.1 done.2 done.3 c.flushed.ensures.keeps c.flushed.ensures.ok

pub returns-in-Ok-encoding_pass-clause-known : goal.returns-in-Ok-encoding_pass-clause-known
returns-in-Ok-encoding_pass-clause-known g c =
    let done = c.in-Ok-encoding_pass.ensures.ok in
    text_after (λ (x : List ℕ). x) c.args.mode.now c.args.root.now.0 c.args.part.now (g.F.Forward.contents c.args.source.now) (g.F.Forward.faultless c.args.source.now) c.args.file c.args.path
    (g.W.Write.contents c.args.out.now) (g.W.Write.contents c.flushed.new.out) done.0 c.flushed.result done.1
    (text_flushed_known (λ (x : List ℕ). x) c.args.mode.now c.args.root.now.0 c.args.part.now (g.F.Forward.contents c.args.source.now) (g.F.Forward.faultless c.args.source.now) c.args.file c.args.path
    (g.W.Write.contents c.args.out.now) (g.W.Write.contents c.encoding_pass.new.out) (g.W.Write.contents c.flushed.new.out) done.0 c.in-Ok-encoding_pass.count c.flushed.result done.1 done.2 done.3
    c.flushed.ensures.keeps c.flushed.ensures.ok c.flushed.ensures.err)

pub returns-in-Ok-encoding_pass-clause-fault : goal.returns-in-Ok-encoding_pass-clause-fault
returns-in-Ok-encoding_pass-clause-fault g c =
    flushed_unknown c.args.file c.args.path (g.W.Write.contents c.args.out.now) (g.W.Write.contents c.flushed.new.out) c.flushed.result c.flushed.ensures.err

pub returns-clause-known : goal.returns-clause-known
returns-clause-known g c =
    let first = c.in-Ok-verify_pass.ensures.ok in
    text_after (λ (x : List ℕ). x) c.args.mode.now c.args.root.now.0 c.args.part.now (g.F.Forward.contents c.args.source.now) (g.F.Forward.faultless c.args.source.now) c.args.file c.args.path
    (g.W.Write.contents c.args.out.now) (g.W.Write.contents c.encoding_pass.new.out) first.0 (Err c.second_fault.result) first.1
    (text_second (λ (x : List ℕ). x) c.args.mode.now c.args.root.now.0 c.args.part.now (g.F.Forward.contents c.args.source.now) (g.F.Forward.faultless c.args.source.now) c.args.file c.args.path
    (g.W.Write.contents c.args.out.now) (g.W.Write.contents c.encoding_pass.new.out) c.in-Err-encoding_pass.fault c.second_fault.result c.second_fault.ensures c.in-Err-encoding_pass.ensures.err)

use Rattle.bao_decode.proofs.Copying.{first_unknown}
use Rattle.bao_decode.specs.Ranges.{part_bytes}
use Rattle.bao_decode.proofs.Decodings.{text_after, text_first}
use Rattle.bao_decode.proofs.decode.write_decoded.Goals as goal

pub returns-in-Err-clause-known : goal.returns-in-Err-clause-known
returns-in-Err-clause-known g c =
    text_first (part_bytes c.args.part.now) c.args.mode.now c.args.root.now.0 c.args.part.now (g.S.Source.contents c.args.source.now) (g.S.Source.faultless c.args.source.now) c.args.file c.args.path
    (g.W.Write.contents c.args.out.now) c.in-Err.fault c.first_fault.result c.first_fault.ensures c.in-Err.ensures.err

pub returns-in-Err-clause-fault : goal.returns-in-Err-clause-fault
returns-in-Err-clause-fault g c = first_unknown c.args.file c.args.path (g.W.Write.contents c.args.out.now) c.in-Err.fault c.first_fault.result c.first_fault.ensures

pub returns-clause-known : goal.returns-clause-known
returns-clause-known g c =
    text_after (part_bytes c.args.part.now) c.args.mode.now c.args.root.now.0 c.args.part.now (g.S.Source.contents c.args.source.now) (g.S.Source.faultless c.args.source.now) c.args.file c.args.path
    (g.W.Write.contents c.args.out.now) (g.W.Write.contents c.write_verified.new.out) c.in-Ok-verify_pass.ensures.ok.0 c.write_verified.result c.in-Ok-verify_pass.ensures.ok.1 c.write_verified.ensures.known

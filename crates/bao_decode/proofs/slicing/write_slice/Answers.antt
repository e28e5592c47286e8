use Rattle.bao_decode.proofs.Slicings.{short_first, slice_known}
use Rattle.std.proofs.Common.{ap}
use Rattle.bao_decode.proofs.slicing.write_slice.Goals as goal

pub returns-in-Err-clause-known : goal.returns-in-Err-clause-known
returns-in-Err-clause-known g c =
    short_first c.args.mode.now c.args.root.now.0 c.args.start c.args.len (g.S.Source.contents c.args.encoding.now) (g.S.Source.faultless c.args.encoding.now) c.args.file c.args.path
    (g.W.Write.contents c.args.out.now) c.in-Err.fault c.first_fault.result c.first_fault.ensures c.in-Err.ensures.fault

pub returns-clause-known : goal.returns-clause-known
returns-clause-known g c =
    let cut = c.in-Ok.cut in
    let same = c.in-Ok.ensures.same in
    slice_known c.args.mode.now c.args.root.now.0 c.args.start c.args.len (g.S.Source.contents c.args.encoding.now) (g.S.Source.contents cut.encoding.now) (g.S.Source.faultless cut.encoding.now)
    (g.S.Source.faultless c.args.encoding.now) cut.total cut.start cut.len c.args.file c.args.path (g.W.Write.contents c.args.out.now) (g.W.Write.contents c.write_encoding.new.out) c.write_encoding.result
    same.1 same.2 (ap g.S.Source.contents same.0) (ap g.S.Source.faultless same.0) c.in-Ok.ensures.claims c.write_encoding.ensures.known

use Rattle.std.proofs.Common.{length}
use Rattle.determined_program.proofs.Contents.{fills_agree}
use Rattle.determined_program.proofs.sources.fill_determined.Goals as goal

pub returns : goal.returns
returns g c =
    fills_agree (g.S.Source.contents c.args.ours.now) (g.T.Source.contents c.args.theirs.now) (g.S.Source.faultless c.args.ours.now) (g.T.Source.faultless c.args.theirs.now) c.args.at
    (length c.args.a.now) (length c.args.b.now) c.fill.new.buf c.fill-2.new.buf c.fill.result c.fill-2.result c.requires.same c.requires.size c.fill.auto.buf c.fill-2.auto.buf
    c.fill.ensures.given c.fill-2.ensures.given c.fill.ensures.fault c.fill-2.ensures.fault c.fill.ensures.lacks c.fill-2.ensures.lacks c.fill.ensures.some c.fill-2.ensures.some

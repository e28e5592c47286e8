use Rattle.determined_program.proofs.Contents.{ends_agree}
use Rattle.determined_program.proofs.sources.ends_at_determined.Goals as goal

pub returns : goal.returns
returns g c =
    ends_agree (g.S.Source.contents c.args.ours.now) (g.T.Source.contents c.args.theirs.now) (g.S.Source.faultless c.args.ours.now) (g.T.Source.faultless c.args.theirs.now) c.args.len
    c.ends_at.result c.ends_at-2.result c.requires c.ends_at.ensures.ends c.ends_at-2.ensures.ends c.ends_at.ensures.found c.ends_at-2.ensures.found

use Rattle.determined_program.proofs.Gaps.{one_lack}
use Rattle.determined_program.proofs.lacks.lack_of_determined.Goals as goal

pub returns : goal.returns
returns g c =
    one_lack g.S.Source.contents g.S.Source.faultless c.args.wanted.now c.args.sources.now c.requires c.args.most c.lack_of-one.result c.lack_of-other.result c.lack_of-one.ensures c.lack_of-other.ensures

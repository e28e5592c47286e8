use Rattle.determined_program.proofs.Damaged.{verdicts_agree}
use Rattle.determined_program.proofs.slicing.has_slice_determined.Goals as goal

pub returns : goal.returns
returns g c = λ outline bytes is also sure calm.
    verdicts_agree (g.S.Source.faultless c.args.outboard.now × g.S.Source.faultless c.args.copy.now) c.args.mode.now c.args.root.now.0 c.args.start c.args.len
    (g.S.Source.contents c.args.outboard.now) (g.S.Source.contents c.args.copy.now) outline bytes c.has_slice-one.result c.has_slice-other.result is also (sure, calm) c.has_slice-one.ensures c.has_slice-other.ensures

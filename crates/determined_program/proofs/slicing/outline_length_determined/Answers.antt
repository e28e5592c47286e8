use Rattle.determined_program.proofs.Damaged.{lengths_agree}
use Rattle.determined_program.proofs.slicing.outline_length_determined.Goals as goal

pub returns : goal.returns
returns g c = λ outline is long sure.
    lengths_agree (g.S.Source.faultless c.args.outboard.now) c.args.mode.now c.args.root.now.0 (g.S.Source.contents c.args.outboard.now) outline c.args.size
    c.outline_length.result c.outline_length-2.result is long sure c.outline_length.ensures c.outline_length-2.ensures

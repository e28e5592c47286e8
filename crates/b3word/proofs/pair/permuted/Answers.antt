use Rattle.std.proofs.Common.{refl}
use Rattle.b3word.specs.Compression.{permuted}
use Rattle.b3word.proofs.EightLanes.{below_two, spelled}
use Rattle.b3word.proofs.pair.permuted.Goals as goal

pub returns : goal.returns
unfolding permuted
returns c = below_two _
    (rw (spelled c.args.x c.fits-x.0, spelled c.args.y c.fits-y.0, spelled c.args.w c.fits-w.0) refl)
    (rw (spelled c.args.x c.fits-x.0, spelled c.args.y c.fits-y.0, spelled c.args.w c.fits-w.0) refl)

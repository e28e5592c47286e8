use Rattle.std.proofs.Common.{refl}
use Rattle.b3word.specs.Compression.{permuted}
use Rattle.b3word.proofs.FourLanes.{spelled_row}
use Rattle.b3word.proofs.compression.permuted.Goals as goal

pub returns : goal.returns
unfolding permuted
returns c = rw (spelled_row c.args.x c.fits-x.0, spelled_row c.args.y c.fits-y.0, spelled_row c.args.w c.fits-w.0) refl

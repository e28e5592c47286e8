use Rattle.std.proofs.Common.{refl}
use Rattle.b3word.proofs.FourLanes.{spelled_row}
use Rattle.b3word.proofs.compression.half_turned.Goals as goal

pub returns : goal.returns
returns c = rw (spelled_row c.args.v c.fits-v.0) refl

use Rattle.std.proofs.Common.{refl}
use Rattle.b3word.proofs.EightLanes.{spelled}
use Rattle.b3word.proofs.pair.turned.Goals as goal

pub returns : goal.returns
returns c = rw (spelled c.args.v c.fits-v.0) refl

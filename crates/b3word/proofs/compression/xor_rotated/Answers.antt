use Rattle.b3word.proofs.FourLanes.{shifts_rotate}
use Rattle.b3word.proofs.compression.xor_rotated.Goals as goal

pub returns : goal.returns
returns c = shifts_rotate c.args.n c.requires.0 c.requires.1 c.args.a c.fits-a.0 c.args.b c.fits-b.0

use Rattle.std.proofs.Common.{refl}
use Rattle.b3word.proofs.EightLanes.{spelled}
use Rattle.b3word.proofs.lanes.by_words.Goals as goal

pub returns-clause-front : goal.returns-clause-front
returns-clause-front c = rw (spelled c.args.a c.fits-a.0) refl

pub returns-clause-back : goal.returns-clause-back
returns-clause-back c = rw (spelled c.args.a c.fits-a.0) refl

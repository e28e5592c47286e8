use Rattle.store_core.proofs.Determined as determined
use Rattle.store_core.proofs.law.state_determines.Goals as goal

pub returns : goal.returns
returns c = determined.state_determines

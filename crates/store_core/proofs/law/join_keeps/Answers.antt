use Rattle.store_core.proofs.Joining as joining
use Rattle.store_core.proofs.law.join_keeps.Goals as goal

pub returns-clause-join : goal.returns-clause-join
returns-clause-join c = joining.join_keeps

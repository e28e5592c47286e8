use Rattle.store_core.proofs.Accepting as accepting
use Rattle.store_core.proofs.ServingLaws as serving
use Rattle.store_core.proofs.law.served_binds.Goals as goal

pub returns-clause-parent : goal.returns-clause-parent
returns-clause-parent c = serving.held_parent_binds

pub returns-clause-text : goal.returns-clause-text
returns-clause-text c = serving.served_nodes_bind

pub returns-clause-accepted : goal.returns-clause-accepted
returns-clause-accepted c = accepting.served_accepted

use Rattle.store_core.proofs.Adding.{committed_add_up}
use Rattle.store_core.proofs.Origins as origins
use Rattle.store_core.proofs.law.held_is_committed.Goals as goal

pub returns-clause-committed : goal.returns-clause-committed
returns-clause-committed c = origins.held_is_committed

pub returns-clause-once : goal.returns-clause-once
returns-clause-once c = origins.committed_once

pub returns-clause-sum : goal.returns-clause-sum
returns-clause-sum c = committed_add_up

pub returns-clause-settled : goal.returns-clause-settled
returns-clause-settled c = origins.record_is_settled

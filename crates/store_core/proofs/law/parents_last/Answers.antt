use Rattle.store_core.proofs.ParentOrigins as origins
use Rattle.store_core.proofs.law.parents_last.Goals as goal

pub returns-clause-last : goal.returns-clause-last
returns-clause-last c = origins.parent_lasts

pub returns-clause-stored : goal.returns-clause-stored
returns-clause-stored c = origins.parent_is_stored

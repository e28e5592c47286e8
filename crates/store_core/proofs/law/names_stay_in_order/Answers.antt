use Rattle.store_core.proofs.Ordering.{join_keeps_order, least_is_one, order_is_one}
use Rattle.store_core.proofs.law.names_stay_in_order.Goals as goal

pub returns-clause-join : goal.returns-clause-join
returns-clause-join c = join_keeps_order

pub returns-clause-least : goal.returns-clause-least
returns-clause-least c = least_is_one

pub returns-clause-one : goal.returns-clause-one
returns-clause-one c = order_is_one

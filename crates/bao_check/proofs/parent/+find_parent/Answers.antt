use Rattle.std.proofs.Common.{arith}
use Rattle.bao_check.proofs.Descents.{few_chunks}
use Rattle.bao_check.proofs.Presence.{parent_far}
use Rattle.bao_check.proofs.parent.+find_parent.Goals as goal

pub parent_of_left-requires-clause-range : goal.parent_of_left-requires-clause-range
parent_of_left-requires-clause-range t c = grind (arith, few_chunks)

pub returns-then-m-number-3 : goal.returns-then-m-number-3
returns-then-m-number-3 t c = grind (arith, parent_far)

use Rattle.std.proofs.Common.{◌≡◌, ℕ, ◌+◌, ◌<◌, ◌≤◌, true}
use Rattle.bao_plan.specs.Sets.{has_bit}
use Rattle.bao_plan.proofs.sets.ones_from.Given as goal

abbrev pub invariant-loop-count : goal.invariant-loop-count
invariant-loop-count l = (k : ℕ) → l.j ≤ k → k < l.j + l.count → has_bit l.mask k ≡ true

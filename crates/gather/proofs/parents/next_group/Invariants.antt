use Rattle.gather.proofs.Common.{◌≡◌, ◌≤◌, ◌<◌, ℕ, false, slice_index_or}
use Rattle.gather.proofs.parents.next_group.Given as goal

abbrev pub invariant-loop-group : goal.invariant-loop-group
invariant-loop-group l = (other : ℕ) → l.fn.from ≤ other → other < l.group → slice_index_or l.groups other false ≡ false

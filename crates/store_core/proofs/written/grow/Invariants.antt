use Rattle.std.proofs.Common.{◌≡◌, ℕ, ◌-◌, false, get_or, length}
use Rattle.store_core.proofs.written.grow.Given as goal

abbrev pub invariant-loop-written : goal.invariant-loop-written
invariant-loop-written l = (k : ℕ) → get_or l.written.items k false ≡ get_or l.initial.written.items k false

abbrev pub decreases-loop-written : goal.decreases-loop-written
decreases-loop-written l = l.len - length l.written.items

use Rattle.std.proofs.Common.{◌≡◌, ◌-◌, ℕ, length}
use Rattle.store_core.specs.Slots.{parent_among}
use Rattle.store_core.proofs.parents.make_room.Given as goal

abbrev pub invariant-loop-parents : goal.invariant-loop-parents
invariant-loop-parents l = (m : ℕ) → parent_among l.parents.items m ≡ parent_among l.initial.parents.items m

abbrev pub decreases-loop-parents : goal.decreases-loop-parents
decreases-loop-parents l = l.len - length l.parents.items

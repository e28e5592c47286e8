use Rattle.std.proofs.Common.{◌≡◌, ◌≤◌, ◌-◌, ℕ, max, length}
use Rattle.store_core.specs.Slots.{slot_at}
use Rattle.store_core.proofs.slot.grow.Given as goal

abbrev pub invariant-loop-slots : goal.invariant-loop-slots
invariant-loop-slots l = ((c : ℕ) → slot_at l.slots.items c ≡ slot_at l.initial.slots.items c) × (length l.slots.items ≤ max l.len (length l.initial.slots.items))

abbrev pub decreases-loop-slots : goal.decreases-loop-slots
decreases-loop-slots l = l.len - length l.slots.items

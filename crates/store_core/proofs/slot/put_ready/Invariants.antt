use Rattle.store_core.specs.declared.slot.Slot.{Slot}
use Rattle.store_core.specs.declared.slot.Slot.TheVariants.{Free}
use Rattle.std.proofs.Common.{◌≡◌, ◌≤◌, ℕ}
use Rattle.store_core.specs.Slots.{slot_at}
use Rattle.store_core.proofs.Putting.{IsPutBelow}
use Rattle.store_core.proofs.slot.put_ready.Given as goal

abbrev pub invariant-loop-j : goal.invariant-loop-j
invariant-loop-j l = IsPutBelow Slot Free l.group l.mask l.j (λ k. slot_at l.initial.ready k) l.initial.slots l.slots
    × ((k : ℕ) → l.j ≤ k → slot_at l.ready k ≡ slot_at l.initial.ready k)

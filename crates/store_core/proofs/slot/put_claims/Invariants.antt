use Rattle.store_core.specs.declared.slot.Slot.{Slot}
use Rattle.store_core.specs.declared.slot.Slot.TheVariants.{Free}
use Rattle.store_core.specs.Slots.{claimed_slot}
use Rattle.store_core.proofs.Putting.{IsPutBelow}
use Rattle.store_core.proofs.slot.put_claims.Given as goal

abbrev pub invariant-loop-j : goal.invariant-loop-j
invariant-loop-j l = IsPutBelow Slot Free l.group l.mask l.j (λ j. claimed_slot l.seat) l.initial.slots l.slots

use Rattle.std.proofs.Common.{◌%◌, length, nat_lt, ◌&&◌}
use Rattle.store_core.specs.Masks.{has_bit}
use Rattle.store_core.specs.Slots.{picks, slot_at}
use Rattle.store_core.proofs.Choosing.{IsMaskUpTo}
use Rattle.store_core.proofs.slot.chosen.Given as goal

abbrev pub invariant-loop-j : goal.invariant-loop-j
invariant-loop-j l = IsMaskUpTo l.group l.mask l.j (λ c. has_bit l.among (c % 64) && (nat_lt c (length l.slots) && picks l.pick c (slot_at l.slots c)))

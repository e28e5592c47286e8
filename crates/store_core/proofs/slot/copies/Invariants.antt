use Rattle.store_core.specs.Slots.{AreCopies}
use Rattle.store_core.proofs.slot.copies.Given as goal

abbrev pub invariant-loop-j : goal.invariant-loop-j
invariant-loop-j l = AreCopies l.base l.piece l.group l.mask l.j l.ready.items

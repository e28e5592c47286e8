use Rattle.std.proofs.Common.{◌≡◌, ℕ, ◌<◌, None, slice_index_or}
use Rattle.bao_windows.specs.declared.window.Slot.{Slot}
use Rattle.bao_windows.proofs.window.first_fault.Given as goal

abbrev pub invariant-loop-slot : goal.invariant-loop-slot
invariant-loop-slot l = (i : ℕ) (d : Slot) → i < l.slot-index → (slice_index_or l.window i d).fault ≡ None

use Rattle.std.proofs.Common.{◌≡◌, ℕ, None, length, slice_index_or}
use Rattle.b3par.proofs.pool.empty_slots.Given as goal

abbrev pub invariant-slots : goal.invariant-slots
invariant-slots l = record {
  len : length l.slots.items ≡ l.counter;
  empty : (i : ℕ) → slice_index_or l.slots.items i None ≡ None;
}

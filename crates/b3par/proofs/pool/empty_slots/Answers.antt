use Rattle.std.proofs.Common.{rules, ◌≡◌, None, ℕ, slice_index_or, sym, subst}
use Rattle.b3par.proofs.Placed.{none_more}
use Rattle.b3par.proofs.pool.empty_slots.Goals as goal

pub slots-preserved : goal.slots-preserved
slots-preserved c = record {
  len = search rules;
  empty = subst (λ xs. (i : ℕ) → slice_index_or xs i None ≡ None) (sym c.in_ok-push.ensures.items) (none_more c.slots.slots.items c.slots.invariant.empty);
}

-- What a holder of the code stands for.
use Rattle.std.specs.Prelude.{◌≡◌, ℕ, ◌<◌, true, List, Option, None, Some, slice_get}
use Rattle.bao_plan.specs.declared.holder.Holder.{Holder}
use Rattle.bao_plan.specs.Sets.{contains}
use Rattle.bao_plan.specs.States.{HolderState, unknown}

abbrev pub seen : Holder → HolderState
seen x = record {
  refused = λ c. contains x.refused.runs.items c;
  absent = λ c. contains x.absent.runs.items c;
  asked = λ c. contains x.asked.runs.items c;
  in_row = x.in_row;
  later = x.later;
  rank = x.rank;
}

abbrev pub seen_or : Option Holder → HolderState
seen_or None = unknown
seen_or (Some x) = seen x

abbrev pub seen_at : List Holder → ℕ → HolderState
seen_at holders h = seen_or (slice_get holders h)

-- it is asked only for chunks below this one
pub record IsAskedBelow (end : ℕ) (x : Holder) : Type 0 where
  pub below : (c : ℕ) → contains x.asked.runs.items c ≡ true → c < end

use Rattle.std.proofs.Common.{◌≡◌, ℕ, ◌∙◌, List, [], ◌%◌, false, true, refl, ap, sym}
use Rattle.bao_plan.specs.declared.runs.Run.{Run}
use Rattle.bao_plan.specs.Sets.{contains}
use Rattle.bao_plan.proofs.Bits.{has_bit-zero}
use Rattle.bao_plan.proofs.PlanLemmas.{holder_is}
use Rattle.bao_plan.proofs.holder.Holder.new.Goals as goal

none_in : (k : ℕ) (runs : List Run) → runs ≡ [] → contains runs k ≡ false
none_in k runs is = ap (λ rs. contains rs k) is ∙ has_bit-zero (k % 64)

pub returns-clause-seen : goal.returns-clause-seen
returns-clause-seen c =
    holder_is _ _ (λ k. none_in k c.new.result.runs.items c.new.ensures) (λ k. none_in k c.new-2.result.runs.items c.new-2.ensures) (λ k. none_in k c.new-3.result.runs.items c.new-3.ensures) refl refl refl

pub returns-clause-below : goal.returns-clause-below
returns-clause-below c = λ end. record { below = λ k is. absurd (let h : true ≡ false = sym is ∙ none_in k c.new-3.result.runs.items c.new-3.ensures in cc) }

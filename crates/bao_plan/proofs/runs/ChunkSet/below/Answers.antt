use Rattle.std.proofs.Common.{◌≡◌, ◌∙◌, ◌/◌, ◌+◌, ap, refl, ◌++◌, ◌∷◌, []}
use Rattle.bao_plan.specs.Sets.{contains}
use Rattle.bao_plan.proofs.RunLemmas.{contains_below, run}
use Rattle.bao_plan.proofs.runs.ChunkSet.below.Goals as goal

pub returns : goal.returns
returns c = λ k.
    let whole = c.args.end / 64 in
    let mask = c.mask_below-mask.result in
    let is : c.push-2.new.self.items ≡ run whole 18446744073709551615 ∷ run (whole + 1) mask ∷ [] =
    c.in_ok-push-2.ensures.items ∙ (ap (λ rs. rs ++ run (whole + 1) mask ∷ []) c.in_ok-push.ensures.items ∙ ap (λ rs. (rs ++ run whole 18446744073709551615 ∷ []) ++ run (whole + 1) mask ∷ []) c.new-runs.ensures.items) in
    ap (λ rs. contains rs k) is ∙ contains_below whole mask c.args.end k refl c.mask_below-mask.ensures

use Rattle.std.proofs.Common.{◌≡◌, ◌∙◌, ◌-◌, suc, ap, sym, arith, slice_get}
use Rattle.std.proofs.lemmas.Bool.{leb-true}
use Rattle.std.specs.List.{remove}
use Rattle.bao_plan.specs.Sets.{mask_at}
use Rattle.bao_plan.proofs.RunLemmas.{next_empty}
use Rattle.bao_plan.proofs.runs.is_empty.Goals as goal

pub returns-in-Some : goal.returns-in-Some
returns-in-Some c = λ is g.
    let runs = c.args.runs.now in
    let i : c.args.index ≡ suc (c.args.index - 1) = omega arith in
    ap (λ n. mask_at (remove runs n) g) i
    ∙ next_empty runs (c.args.index - 1) g c.in-Some.before c.args.run (sym c.nth.ensures ∙ c.in-Some.is) (sym (ap (slice_get runs) i) ∙ c.requires) (leb-true _ _ is)

use Rattle.std.proofs.Common.{◌∙◌, ap, sym, slice_get, add-one}
use Rattle.std.proofs.lemmas.Bool.{leb-true, eqb-true}
use Rattle.bao_plan.proofs.RunLemmas.{next_same, last_empty}
use Rattle.bao_plan.proofs.runs.is_as_next.Goals as goal

pub returns-then-run-next : goal.returns-then-run-next
returns-then-run-next c = λ is g.
    next_same c.args.runs.now c.args.index g c.args.run c.in-Some.next c.requires (sym (ap (slice_get c.args.runs.now) (add-one c.args.index)) ∙ (sym c.nth.ensures ∙ c.in-Some.is)) (leb-true _ _ is) c.if-run-next.true

pub returns-in-None : goal.returns-in-None
returns-in-None c = λ is g.
    last_empty c.args.runs.now c.args.index g c.args.run c.requires (sym (ap (slice_get c.args.runs.now) (add-one c.args.index)) ∙ (sym c.nth.ensures ∙ c.in-None.is)) (eqb-true _ _ is)

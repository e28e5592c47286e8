use Rattle.std.proofs.Common.{◌/◌, arith, inl, inr, sym, ◌∙◌}
use Rattle.std.proofs.lemmas.Bool.{cases_lt}
use Rattle.bao_plan.specs.Sets.{contains}
use Rattle.bao_plan.proofs.Any.{no_bit, some_bit}
use Rattle.bao_plan.proofs.plan.Plan.is_done.Goals as goal

pub runs-preserved : goal.runs-preserved
runs-preserved c = λ k below. elim (cases_lt (k / 64) c.runs.group) [
  | inl before ↦ c.runs.invariant k before
  | inr here ↦ no_bit c.runs.group c.run_at-run.result (contains c.args.self.now.missing.runs.items) c.run_at-run.ensures (sym c.is_some_bit.ensures ∙ c.if-is_some_bit.false) k here below
]

pub returns-then-is_some_bit : goal.returns-then-is_some_bit
returns-then-is_some_bit c =
    let f = some_bit c.run_at-run.result.mask c.runs.group (contains c.args.self.now.missing.runs.items) (λ k here. c.run_at-run.ensures.bits k (omega (arith, here)) (omega (arith, here, c.run_at-run.ensures.ahead))) (sym c.is_some_bit.ensures ∙ c.if-is_some_bit.true) in
    (λ h. absurd (cc), λ none. sym (none f.0) ∙ f.2)

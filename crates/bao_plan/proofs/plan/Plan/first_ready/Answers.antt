use Rattle.std.proofs.Common.{◌/◌, inl, inr}
use Rattle.std.proofs.lemmas.Bool.{cases_lt}
use Rattle.bao_plan.specs.Plans.{state_of}
use Rattle.bao_plan.specs.States.{is_ready}
use Rattle.bao_plan.proofs.Any.{no_bit}
use Rattle.bao_plan.proofs.plan.Plan.first_ready.Goals as goal

pub runs-preserved : goal.runs-preserved
runs-preserved c = λ k below. elim (cases_lt (k / 64) c.runs.group) [
  | inl before ↦ c.runs.invariant k before
  | inr here ↦ no_bit c.runs.group c.ready-run.result (is_ready (state_of c.args.self.now) c.args.holder c.args.now c.args.overtakes) c.ready-run.ensures c.in-None.ensures k here below
]

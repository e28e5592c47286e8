use Rattle.std.proofs.Common.{◌≡◌, false}
use Rattle.bao_plan.specs.Events.{is_decided}
use Rattle.bao_plan.specs.Plans.{state_of}
use Rattle.bao_plan.proofs.plan.Plan.is_decided.Given as goal

abbrev pub invariant-loop-i : goal.invariant-loop-i
invariant-loop-i l = is_decided (state_of l.self) l.holder l.first l.i ≡ false

use Rattle.std.proofs.Common.{◌<◌}
use Rattle.bao_plan.proofs.plan.Plan.due.Given as goal

abbrev pub invariant-loop-unit : goal.invariant-loop-unit
invariant-loop-unit l = l.now < l.due

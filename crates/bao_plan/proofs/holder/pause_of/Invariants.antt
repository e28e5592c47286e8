use Rattle.std.proofs.Common.{◌≡◌, ◌≤◌}
use Rattle.bao_plan.specs.Events.{doubled}
use Rattle.bao_plan.proofs.holder.pause_of.Given as goal

abbrev pub invariant-loop-n : goal.invariant-loop-n
invariant-loop-n l = record { value : l.pause ≡ doubled l.fn.policy l._n; most : l.pause ≤ l.longest }

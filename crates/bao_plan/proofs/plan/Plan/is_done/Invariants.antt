use Rattle.std.proofs.Common.{◌≡◌, ℕ, ◌/◌, ◌<◌, ◌-◌, false}
use Rattle.bao_plan.specs.Plans.{state_of}
use Rattle.bao_plan.proofs.plan.Plan.is_done.Given as goal

abbrev pub invariant-runs : goal.invariant-runs
invariant-runs l = (c : ℕ) → c / 64 < l.group → (state_of l.self).is_open c ≡ false

abbrev pub decreases-runs : goal.decreases-runs
decreases-runs l = l.groups - l.group

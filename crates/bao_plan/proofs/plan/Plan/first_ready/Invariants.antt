use Rattle.std.proofs.Common.{◌≡◌, ℕ, ◌/◌, ◌<◌, ◌-◌, false}
use Rattle.bao_plan.specs.Plans.{state_of}
use Rattle.bao_plan.specs.States.{is_ready}
use Rattle.bao_plan.proofs.plan.Plan.first_ready.Given as goal

abbrev pub invariant-runs : goal.invariant-runs
invariant-runs l = (c : ℕ) → c / 64 < l.group → is_ready (state_of l.self) l.holder l.now l.overtakes c ≡ false

abbrev pub decreases-runs : goal.decreases-runs
decreases-runs l = l.groups - l.group

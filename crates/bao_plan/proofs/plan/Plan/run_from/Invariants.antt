use Rattle.std.proofs.Common.{◌≡◌, ℕ, ◌*◌, ◌<◌, ◌≤◌, false, true}
use Rattle.bao_plan.specs.Plans.{state_of}
use Rattle.bao_plan.specs.States.{is_ready}
use Rattle.bao_plan.proofs.plan.Plan.run_from.Given as goal

abbrev pub invariant-loop-group : goal.invariant-loop-group
invariant-loop-group l = record {
  some : l.first < l.end;
  top : l.end ≤ 64 * l.group;
  ready : (c : ℕ) → l.first ≤ c → c < l.end → is_ready (state_of l.self) l.holder l.now l.overtakes c ≡ true;
  last : l.end < 64 * l.group → is_ready (state_of l.self) l.holder l.now l.overtakes l.end ≡ false;
}

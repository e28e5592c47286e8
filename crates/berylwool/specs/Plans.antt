-- What holds for the plan that a handle has, and what C sees of it.
use Rattle.std.specs.Prelude.{ℕ, ◌*◌, ◌-◌, ◌^◌, min, nat_eq, nat_lt, if◌then◌else◌, Option, Some}
use Rattle.bao_plan.specs.declared.policy.Next.{Next}
use Rattle.bao_plan.specs.declared.policy.Next.TheVariants.{Fetch, WaitUntil, Nothing}
use Rattle.bao_plan.specs.declared.policy.Outcome.{Outcome}
use Rattle.bao_plan.specs.declared.policy.Outcome.TheVariants.{Over, LaterBy, Cut}
use Rattle.bao_plan.specs.declared.policy.Policy.{Policy}
use Rattle.bao_plan.specs.Plans.{state_of}
use Rattle.bao_plan.specs.States.{State}
use Rattle.berylwool.specs.declared.owned.Held.{Held}
use Rattle.berylwool.specs.declared.owned.Held.TheVariants.{Plan}
use Rattle.berylwool.specs.declared.plan.BwPlanNext.{BwPlanNext}
use Rattle.berylwool.specs.declared.plan.BwPlanPolicy.{BwPlanPolicy}

-- the handle has a plan, and this holds for it
abbrev pub HasPlan : (State → Type 0) → Option Held → Type 0
HasPlan so (Some (Plan plan)) = so (state_of plan)
HasPlan so _ = ⊥

-- the handle has a plan before and after a call, and this holds for both
abbrev pub PlanDid : (State → State → Type 0) → Option Held → Option Held → Type 0
PlanDid so old new = HasPlan (λ s. HasPlan (so s) new) old

-- the status of a call, by the plan; 1202 if the handle has none
abbrev pub status_of : (State → ℕ) → Option Held → ℕ
status_of told (Some (Plan plan)) = told (state_of plan)
status_of told _ = 1202

-- the status of a call that names a holder, or a group, or both
abbrev pub at_holder : ℕ → State → ℕ
at_holder holder s = if nat_lt holder s.count then 0 else 1214

abbrev pub at_group : ℕ → State → ℕ
at_group group s = if nat_lt (64 * group) s.chunks then 0 else 803

abbrev pub at_place : ℕ → ℕ → State → ℕ
at_place holder group s = if nat_lt holder s.count then at_group group s else 1214

abbrev pub policy_of : BwPlanPolicy → Policy
policy_of shown = record { faults = shown.faults; pause = shown.pause_ms; longest_pause = shown.longest_pause_ms; patience = shown.patience_ms }

-- kind 1 is a request and 2 a wait
abbrev pub next_of : BwPlanNext → Next
next_of shown = if nat_eq shown.kind 1 then Fetch shown.first shown.count else if nat_eq shown.kind 2 then WaitUntil shown.until_ms else Nothing

-- 1 is an end after which the holder wants to be asked again later, and 2 one without a fault of the holder
abbrev pub outcome_of : ℕ → ℕ → Outcome
outcome_of shown later_ms = if nat_eq shown 1 then LaterBy later_ms else if nat_eq shown 2 then Cut else Over

-- later moments count as the last
abbrev pub moment_of : ℕ → ℕ
moment_of now_ms = min now_ms (2 ^ 63 - 1)

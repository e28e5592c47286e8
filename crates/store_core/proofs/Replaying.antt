-- The run of a schedule, step by step.
use Rattle.std.proofs.lemmas.Bool.Decides.{nat_tests}
use Rattle.std.proofs.Common.{◌≡◌, ℕ, zero, suc, ◌+◌, ◌<◌, arith, List, [], ◌∷◌, ◌++◌, length, take, slice_get, Option, Some, option_to_list, refl, sym, ap, subst, ◌∙◌}
use Rattle.std.proofs.lemmas.List.{get_or_past, take_more}
use Rattle.std.proofs.lemmas.Option.{get_or_from_slice_get}
use Rattle.bao_check.specs.declared.checked.Checked.{Checked}
use Rattle.holders.specs.declared.fixed.Fixed.{Fixed}
use Rattle.store_core.specs.declared.history.Event.{Event}
use Rattle.store_core.specs.declared.micro.MicroStep.{MicroStep}
use Rattle.store_core.specs.declared.micro.Reply.{Reply}
use Rattle.store_core.specs.declared.schedule.ScheduleRun.{ScheduleRun}
use Rattle.store_core.specs.Machine.{Machine, start}
use Rattle.store_core.specs.Replays.{BeginsLegally, LeavesStore}
use Rattle.store_core.specs.Schedules.{IsLegalStep, Runs, after_step, step_events}
use Rattle.store_core.specs.ScheduleRuns.{DoesStep, HasRun, IsFresh, IsLegalFor, IsStepped}
use Rattle.store_core.specs.States.{empty}
use Rattle.store_core.specs.Stores.{fixed_of, state_of}
use Rattle.store_core.proofs.Running.{start_empty, start_served}

-- the run took the first i steps
abbrev pub IsInRun : Fixed → List Checked → List MicroStep → ℕ → List Reply → ScheduleRun → Type 0
IsInRun fixed pieces steps i replies run = (history : List Event) × (m : Machine) × HasRun fixed pieces (take i steps) replies history m run

-- a new one
pub fresh : (fixed : Fixed) (run : ScheduleRun) → fixed_of run.store ≡ fixed → state_of run.store ≡ empty → run.players.items ≡ [] → run.written.items ≡ [] → IsFresh fixed run
fresh fixed run same new nobody unwritten pieces = grind (arith, nat_tests, start_empty, start_served, get_or_past)

pub run_more : (fixed : Fixed) (pieces : List Checked) (steps : List MicroStep) (i : ℕ) (replies more : List Reply) (old new : ScheduleRun) (step : MicroStep) (reply : Option Reply)
    → i < length steps → slice_get steps i ≡ Some step → IsInRun fixed pieces steps i replies old → DoesStep pieces old new step reply
    → more ≡ replies ++ option_to_list reply → IsInRun fixed pieces steps (i + 1) more new
run_more fixed pieces steps i replies more old new step reply below found (history, m, has) does same =
    let done : IsStepped fixed pieces (take i steps) replies history m step reply new = does fixed (take i steps) replies history m has in
    let steps_are : take i steps ++ step ∷ [] ≡ take (i + 1) steps =
    ap (λ (x : MicroStep). take i steps ++ x ∷ []) (sym (get_or_from_slice_get steps i step step found)) ∙ sym (take_more steps i step below) in
    let later : List Event = history ++ step_events fixed m step reply in
    let next : Machine = after_step fixed pieces m step reply in (
      later,
      next,
      subst (λ (xs : List Reply). HasRun fixed pieces (take (i + 1) steps) xs later next new) (sym same)
          (subst (λ (xs : List MicroStep). HasRun fixed pieces xs (replies ++ option_to_list reply) later next new) steps_are done.has),
    )

-- the replay that it is in the end
pub run_done : (run : ScheduleRun) → LeavesStore run run.store
run_done run fixed pieces steps replies history m has = (
  record {
    history = history;
    last = m;
    runs = has.runs;
    fixed_is = has.fixed_is;
    words = has.stands.state;
    legal = has.legal;
    events = has.stands.state ∙ sym has.events;
  },
  refl,
)

-- where some step is legal after those before it, the first one is
first_legal : (fixed : Fixed) (pieces : List Checked) (steps : List MicroStep) (i : ℕ) (replies : List Reply) (history : List Event) (m : Machine) (step : MicroStep)
    → slice_get steps i ≡ Some step → Runs fixed pieces start (take i steps) replies history m → IsLegalStep fixed pieces m step → BeginsLegally fixed pieces steps
first_legal fixed pieces [] i replies history m step found runs legal = grind (arith, nat_tests)
first_legal fixed pieces (first ∷ steps) zero replies history m step found runs legal = grind (arith, nat_tests)
first_legal fixed pieces (first ∷ steps) (suc i) replies history m step found runs legal = record { step = first; is = refl; legal = runs.3 }

pub begins_legally : (fixed : Fixed) (pieces : List Checked) (steps : List MicroStep) (i : ℕ) (replies : List Reply) (run : ScheduleRun) (step : MicroStep)
    → slice_get steps i ≡ Some step → IsInRun fixed pieces steps i replies run → IsLegalFor pieces run step → BeginsLegally fixed pieces steps
begins_legally fixed pieces steps i replies run step found (history, m, has) legal = grind (arith, nat_tests, first_legal)

-- a step that was made was legal
pub stepped_legally : (fixed : Fixed) (pieces : List Checked) (steps : List MicroStep) (i : ℕ) (replies : List Reply) (old new : ScheduleRun) (step : MicroStep) (reply : Option Reply)
    → slice_get steps i ≡ Some step → IsInRun fixed pieces steps i replies old → DoesStep pieces old new step reply → BeginsLegally fixed pieces steps
stepped_legally fixed pieces steps i replies old new step reply found (history, m, has) does = grind (arith, nat_tests, first_legal)

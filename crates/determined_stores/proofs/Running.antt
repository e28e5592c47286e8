-- Two schedules on their way that took the same steps, and take the same step.
use Rattle.std.proofs.Common.{◌≡◌, List, [], ◌∷◌, ◌++◌, Option, None, Some, option_to_list, Result, Ok, Err, IfOk, refl, sym, ap, subst, ◌∙◌}
use Rattle.bao_check.specs.declared.checked.Checked.{Checked}
use Rattle.store_core.specs.declared.fault.StepFault.{StepFault}
use Rattle.store_core.specs.declared.fault.StepFault.TheVariants.{Illegal, Memory}
use Rattle.holders.specs.declared.fixed.Fixed.{Fixed}
use Rattle.store_core.specs.declared.micro.MicroStep.{MicroStep}
use Rattle.store_core.specs.declared.micro.Reply.{Reply}
use Rattle.store_core.specs.declared.schedule.ScheduleRun.{ScheduleRun}
use Rattle.store_core.specs.declared.store.Store.{Store}
use Rattle.store_core.specs.Machine.{Machine, start, store_of}
use Rattle.store_core.specs.Replays.{LeavesStore}
use Rattle.store_core.specs.ScheduleRuns.{DoesRefuse, DoesStep, HasRun, IsFresh, IsLegalFor, IsStepped}
use Rattle.store_core.specs.Schedules.{IsLegalStep, IsReply, after_step, step_events}
use Rattle.store_core.specs.Stores.{IsSame}
use Rattle.store_core.proofs.OneRun.{runs_are_one}
use Rattle.determined_texts.specs.Agreeing.{AgreeOrLack}
use Rattle.determined_stores.specs.Runs.{TookTheSame}

fresh_same : (fixed : Fixed) (pieces : List Checked) (one other : ScheduleRun) → IsFresh fixed one → IsFresh fixed other → TookTheSame pieces one other
fresh_same fixed pieces one other a b = record { fixed = fixed; steps = []; replies = []; history = []; last = start; first = a pieces; second = b pieces }

pub fresh_agree : {E : Type 0} (fixed : Fixed) (pieces : List Checked) (r s : Result ScheduleRun E) → IfOk r (IsFresh fixed) → IfOk s (IsFresh fixed)
    → IfOk r (λ a. IfOk s (λ b. TookTheSame pieces a b))
fresh_agree fixed pieces (Ok a) (Ok b) p q = fresh_same fixed pieces a b p q
fresh_agree fixed pieces (Ok a) (Err e) p q = tt
fresh_agree fixed pieces (Err e) s p q = tt

one_of : (r s : Option Reply) → option_to_list r ++ [] ≡ option_to_list s ++ [] → r ≡ s
one_of None None e = refl
one_of None (Some s) e = cc
one_of (Some r) None e = cc
one_of (Some r) (Some s) e = let same : r ≡ s = cc in ap (λ (x : Reply). Some x) same

one_reply : (fixed : Fixed) (pieces : List Checked) (m : Machine) (step : MicroStep) (r s : Option Reply) → IsLegalStep fixed pieces m step → IsReply fixed m step r → IsReply fixed m step s
    → r ≡ s
one_reply fixed pieces m step r s legal a b =
    one_of r s (runs_are_one fixed pieces m (step ∷ []) (option_to_list r ++ []) (option_to_list s ++ []) (step_events fixed m step r ++ []) (step_events fixed m step s ++ [])
    (after_step fixed pieces m step r) (after_step fixed pieces m step s)
    (r, [], [], legal, a, refl, refl, (refl, refl, refl)) (s, [], [], legal, b, refl, refl, (refl, refl, refl))).0

module _ (pieces : List Checked) (step : MicroStep) (a b a' b' : ScheduleRun) (same : TookTheSame pieces a b) where
  legal_for : (run : ScheduleRun) → HasRun same.fixed pieces same.steps same.replies same.history same.last run → IsLegalFor pieces run step
      → IsLegalStep same.fixed pieces same.last step
  legal_for run has legal = subst (λ (f : Fixed). IsLegalStep f pieces same.last step) has.fixed_is (legal same.last has.served has.stands)

  refused_for : (run : ScheduleRun) → HasRun same.fixed pieces same.steps same.replies same.history same.last run → DoesRefuse pieces run step
      → ¬ IsLegalStep same.fixed pieces same.last step
  refused_for run has refuses legal = refuses same.last has.served has.stands (subst (λ (f : Fixed). IsLegalStep f pieces same.last step) (sym has.fixed_is) legal)

  stepped : (run run' : ScheduleRun) (reply : Option Reply) → HasRun same.fixed pieces same.steps same.replies same.history same.last run → DoesStep pieces run run' step reply
      → IsStepped same.fixed pieces same.steps same.replies same.history same.last step reply run'
  stepped run run' reply has did = did same.fixed same.steps same.replies same.history same.last has

  pub steps_agree : (r s : Result (Option Reply) StepFault) → IfOk r (λ x. DoesStep pieces a a' step x) → IfOk s (λ y. DoesStep pieces b b' step y)
      → (r ≡ Err Illegal → DoesRefuse pieces a step) → (s ≡ Err Illegal → DoesRefuse pieces b step)
      → (r ≡ Err Memory → IsLegalFor pieces a step) → (s ≡ Err Memory → IsLegalFor pieces b step)
      → AgreeOrLack Memory (λ x y. (x ≡ y) × TookTheSame pieces a' b') r s
  steps_agree (Ok x) (Ok y) did too bad worse poor poorer =
      let one = stepped a a' x same.first did in
      let other = stepped b b' y same.second too in
      let is : x ≡ y = one_reply same.fixed pieces same.last step x y one.legal one.right other.right in (
        is,
        record {
          fixed = same.fixed;
          steps = same.steps ++ step ∷ [];
          replies = same.replies ++ option_to_list x;
          history = same.history ++ step_events same.fixed same.last step x;
          last = after_step same.fixed pieces same.last step x;
          first = one.has;
          second = subst (λ (z : Option Reply). HasRun same.fixed pieces (same.steps ++ step ∷ []) (same.replies ++ option_to_list z)
              (same.history ++ step_events same.fixed same.last step z) (after_step same.fixed pieces same.last step z) b') (sym is) other.has;
        },
      )
  steps_agree (Ok x) (Err Memory) did too bad worse poor poorer = refl
  steps_agree (Ok x) (Err Illegal) did too bad worse poor poorer =
      absurd (refused_for b same.second (worse refl) (stepped a a' x same.first did).legal)
  steps_agree (Err Memory) (Ok y) did too bad worse poor poorer = refl
  steps_agree (Err Illegal) (Ok y) did too bad worse poor poorer =
      absurd (refused_for a same.first (bad refl) (stepped b b' y same.second too).legal)
  steps_agree (Err Memory) (Err Memory) did too bad worse poor poorer = refl
  steps_agree (Err Illegal) (Err Illegal) did too bad worse poor poorer = refl
  steps_agree (Err Memory) (Err Illegal) did too bad worse poor poorer =
      absurd (refused_for b same.second (worse refl) (legal_for a same.first (poor refl)))
  steps_agree (Err Illegal) (Err Memory) did too bad worse poor poorer =
      absurd (refused_for a same.first (bad refl) (legal_for b same.second (poorer refl)))

pub stores_same : (pieces : List Checked) (a b : ScheduleRun) (one other : Store) → TookTheSame pieces a b → LeavesStore a one → LeavesStore b other → IsSame one other
stores_same pieces a b one other same left also =
    let x = left same.fixed pieces same.steps same.replies same.history same.last same.first in
    let y = also same.fixed pieces same.steps same.replies same.history same.last same.second in
    record {
      fixed = y.0.fixed_is ∙ sym x.0.fixed_is;
      state = y.0.words ∙ ap (λ (m : Machine). store_of m) (y.1 ∙ sym x.1) ∙ sym x.0.words;
    }

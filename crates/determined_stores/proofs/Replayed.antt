-- A schedule replayed twice.
use Rattle.std.proofs.Common.{◌≡◌, ◌↔◌, inl, inr, ℕ, zero, suc, List, [], ◌∷◌, ◌++◌, take, Option, option_to_list, Result, Ok, Err, IfOk, refl, sym, ap, subst, ◌∙◌}
use Rattle.bao_check.specs.declared.checked.Checked.{Checked}
use Rattle.store_core.specs.declared.fault.ReplayFault.{ReplayFault}
use Rattle.store_core.specs.declared.fault.ReplayFault.TheVariants.{Memory, Illegal, Capacity}
use Rattle.holders.specs.declared.fixed.Fixed.{Fixed}
use Rattle.store_core.specs.declared.micro.MicroStep.{MicroStep}
use Rattle.store_core.specs.declared.micro.Reply.{Reply}
use Rattle.store_core.specs.declared.store.Store.{Store}
use Rattle.store_core.specs.declared.history.Event.{Event}
use Rattle.store_core.specs.Machine.{Machine, start, store_of}
use Rattle.store_core.specs.Replays.{IsIllegalAt, IsIllegalFrom, IsReplayed}
use Rattle.store_core.specs.Schedules.{IsLegalStep, IsReply, Runs, after_step, step_events}
use Rattle.store_core.specs.Stores.{IsSame}
use Rattle.store_core.proofs.OneRun.{runs_are_one}
use Rattle.determined_texts.specs.Agreeing.{AgreeButFor}

-- the machine after a step doesn't depend on which right reply it is
one_step : (fixed : Fixed) (pieces : List Checked) (m : Machine) (step : MicroStep) (r s : Option Reply) → IsLegalStep fixed pieces m step → IsReply fixed m step r → IsReply fixed m step s
    → after_step fixed pieces m step r ≡ after_step fixed pieces m step s
one_step fixed pieces m step r s legal a b =
    (runs_are_one fixed pieces m (step ∷ []) (option_to_list r ++ []) (option_to_list s ++ []) (step_events fixed m step r ++ []) (step_events fixed m step s ++ [])
    (after_step fixed pieces m step r) (after_step fixed pieces m step s)
    (r, [], [], legal, a, refl, refl, (refl, refl, refl)) (s, [], [], legal, b, refl, refl, (refl, refl, refl))).2

-- the first of the steps isn't legal, and yet it ran
first_illegal : (fixed : Fixed) (pieces : List Checked) (m : Machine) (step : MicroStep) (steps : List MicroStep) → IsLegalStep fixed pieces m step
    → IsIllegalFrom fixed pieces m (step ∷ steps) zero → ⊥
first_illegal fixed pieces m step steps legal bad =
    let is : step ≡ bad.step = cc in
    bad.illegal (subst (λ (x : MicroStep). IsLegalStep fixed pieces bad.last x) is (subst (λ (y : Machine). IsLegalStep fixed pieces y step) (sym bad.runs.2) legal))

-- a later one isn't
later_illegal : (fixed : Fixed) (pieces : List Checked) (m : Machine) (step : MicroStep) (steps : List MicroStep) (reply : Option Reply) (i : ℕ) → IsLegalStep fixed pieces m step → IsReply fixed m step reply
    → IsIllegalFrom fixed pieces m (step ∷ steps) (suc i) → IsIllegalFrom fixed pieces (after_step fixed pieces m step reply) steps i
later_illegal fixed pieces m step steps reply i legal right bad = record {
  replies = bad.runs.1;
  history = bad.runs.2;
  last = bad.last;
  runs = subst (λ (y : Machine). Runs fixed pieces y (take i steps) bad.runs.1 bad.runs.2 bad.last) (one_step fixed pieces m step bad.runs.0 reply legal bad.runs.4 right) bad.runs.7;
  step = bad.step;
  is = bad.is;
  illegal = bad.illegal;
}

pub runs_legal : (fixed : Fixed) (pieces : List Checked) (m : Machine) (steps : List MicroStep) (i : ℕ) (replies : List Reply) (history : List Event) (last : Machine)
    → Runs fixed pieces m steps replies history last → IsIllegalFrom fixed pieces m steps i → ⊥
runs_legal fixed pieces m [] i replies history last runs bad = let no = bad.is in cc
runs_legal fixed pieces m (step ∷ steps) zero replies history last runs bad = first_illegal fixed pieces m step steps runs.3 bad
runs_legal fixed pieces m (step ∷ steps) (suc i) replies history last runs bad =
    runs_legal fixed pieces (after_step fixed pieces m step runs.0) steps i runs.1 runs.2 last runs.7 (later_illegal fixed pieces m step steps runs.0 i runs.3 runs.4 bad)

pub illegal_one : (fixed : Fixed) (pieces : List Checked) (m : Machine) (steps : List MicroStep) (i j : ℕ) → IsIllegalFrom fixed pieces m steps i → IsIllegalFrom fixed pieces m steps j → i ≡ j
illegal_one fixed pieces m [] i j bad worse = let no = bad.is in cc
illegal_one fixed pieces m (step ∷ steps) zero zero bad worse = refl
illegal_one fixed pieces m (step ∷ steps) zero (suc j) bad worse = absurd (first_illegal fixed pieces m step steps worse.runs.3 bad)
illegal_one fixed pieces m (step ∷ steps) (suc i) zero bad worse = absurd (first_illegal fixed pieces m step steps bad.runs.3 worse)
illegal_one fixed pieces m (step ∷ steps) (suc i) (suc j) bad worse =
    let reply : Option Reply = bad.runs.0 in
    ap suc (illegal_one fixed pieces (after_step fixed pieces m step reply) steps i j (later_illegal fixed pieces m step steps reply i bad.runs.3 bad.runs.4 bad)
    (later_illegal fixed pieces m step steps reply j bad.runs.3 bad.runs.4 worse))

-- the same replies, and stores that stand for the same
same_replays : (fixed : Fixed) (pieces : List Checked) (steps : List MicroStep) (xs ys : List Reply) (a b : Store) → IsReplayed fixed pieces steps xs a → IsReplayed fixed pieces steps ys b
    → (xs ≡ ys) × IsSame a b
same_replays fixed pieces steps xs ys a b one other =
    let same = runs_are_one fixed pieces start steps xs ys one.history other.history one.last other.last one.runs other.runs in (
      same.0,
      record { fixed = other.fixed_is ∙ sym one.fixed_is; state = other.words ∙ ap (λ (m : Machine). store_of m) (sym same.2) ∙ sym one.words },
    )

pub replays_agree : {V : Type 0} (items : V → List Reply) (fixed : Fixed) (pieces : List Checked) (steps : List MicroStep) (P : Type 0) (r s : Result (V × Store) ReplayFault)
    → (r ≡ Err Capacity ↔ P) → (s ≡ Err Capacity ↔ P)
    → IfOk r (λ x. IsReplayed fixed pieces steps (items x.0) x.1) → IfOk s (λ x. IsReplayed fixed pieces steps (items x.0) x.1)
    → ((i : ℕ) → r ≡ Err (Illegal i) → IsIllegalAt fixed pieces steps i) → ((i : ℕ) → s ≡ Err (Illegal i) → IsIllegalAt fixed pieces steps i)
    → AgreeButFor Memory (λ x y. (items x.0 ≡ items y.0) × IsSame x.1 y.1) r s
replays_agree items fixed pieces steps P (Ok x) (Ok y) p q done also bad worse = same_replays fixed pieces steps (items x.0) (items y.0) x.1 y.1 done also
replays_agree items fixed pieces steps P (Ok x) (Err Memory) p q done also bad worse = refl
replays_agree items fixed pieces steps P (Ok x) (Err (Illegal i)) p q done also bad worse =
    absurd (runs_legal fixed pieces start steps i (items x.0) done.history done.last done.runs (worse i refl))
replays_agree items fixed pieces steps P (Ok x) (Err Capacity) p q done also bad worse = let no : Ok x ≡ Err Capacity = p.1 (q.0 refl) in cc
replays_agree items fixed pieces steps P (Err Memory) (Ok y) p q done also bad worse = refl
replays_agree items fixed pieces steps P (Err (Illegal i)) (Ok y) p q done also bad worse =
    absurd (runs_legal fixed pieces start steps i (items y.0) also.history also.last also.runs (bad i refl))
replays_agree items fixed pieces steps P (Err Capacity) (Ok y) p q done also bad worse = let no : Ok y ≡ Err Capacity = q.1 (p.0 refl) in cc
replays_agree items fixed pieces steps P (Err Memory) (Err f) p q done also bad worse = inr (inl refl)
replays_agree items fixed pieces steps P (Err e) (Err Memory) p q done also bad worse = inr (inr refl)
replays_agree items fixed pieces steps P (Err (Illegal i)) (Err (Illegal j)) p q done also bad worse =
    inl (ap (λ k. Illegal k) (illegal_one fixed pieces start steps i j (bad i refl) (worse j refl)))
replays_agree items fixed pieces steps P (Err (Illegal i)) (Err Capacity) p q done also bad worse = let no : Err (Illegal i) ≡ Err Capacity = p.1 (q.0 refl) in cc
replays_agree items fixed pieces steps P (Err Capacity) (Err (Illegal j)) p q done also bad worse = let no : Err (Illegal j) ≡ Err Capacity = q.1 (p.0 refl) in cc
replays_agree items fixed pieces steps P (Err Capacity) (Err Capacity) p q done also bad worse = inl refl

use Rattle.std.proofs.Common.{◌≡◌, ◌&&◌, nat_lt, not, true, false, Bool, refl, sym, ap, ◌∙◌, arith, inl, inr}
use Rattle.std.specs.List.{list_any}
use Rattle.std.proofs.lemmas.Bool.{and_cases, lt-ltb, cases_Bool, both_ways, not-false}
use Rattle.bao_plan.specs.Histories.{denies, refuses, run}
use Rattle.bao_plan.specs.Laws.{Enough}
use Rattle.bao_plan.specs.States.{State, is_left_out, is_undecided, may_have, start}
use Rattle.bao_plan.proofs.Histories.{absent_is, refused_is}
use Rattle.bao_plan.proofs.Rows.{left_out_is, policy_run}
use Rattle.bao_plan.proofs.law.one_is_enough.Goals as goal

-- the second of two is false where the first is true
second_false : (a b : Bool) → (a && b) ≡ false → a ≡ true → b ≡ false
second_false true b h is = h
second_false false b h is = absurd (let e : false ≡ true = is in cc)

first_false : (a b : Bool) → (a && not b) ≡ false → b ≡ false → a ≡ false
first_false true true h is = absurd (let e : true ≡ false = is in cc)
first_false true false h is = absurd (let e : true ≡ false = h in cc)
first_false false b h is = refl

second_true : (a b : Bool) → (a && b) ≡ false → b ≡ true → a ≡ false
second_true true true h is = absurd (let e : true ≡ false = h in cc)
second_true true false h is = absurd (let e : false ≡ true = is in cc)
second_true false b h is = refl

each : Enough
each policy n events h now c right below is =
    let s : State = run (start policy n) events in
    let x = s.holder h in
    elim (cases_Bool (is_left_out policy x)) [
      | inl out ↦ inl out
      | inr is_in ↦ (elim (cases_Bool (x.asked c)) [
        | inl asked ↦ inr (inl asked)
        | inr unasked ↦ (let unwanted = right.1 c (ap (λ p. is_left_out p x) (policy_run (start policy n) events) ∙ is_in) in
            let has_not = second_false (s.is_open c) (may_have x c) (first_false (is_undecided s h c) (x.asked c) (second_true (is_undecided s h c && not (x.asked c)) (nat_lt c s.end) unwanted (lt-ltb c s.end below)) unasked) is in
            elim (and_cases (not (x.refused c)) (not (x.absent c)) has_not) [
              | inl refused ↦ inr (inr (inl (sym (refused_is policy n events h c) ∙ not-false (x.refused c) refused)))
              | inr absent ↦ inr (inr (inr (absent_is policy n events h c (not-false (x.absent c) absent))))
            ])
      ])
    ]

pub returns-clause-each : goal.returns-clause-each
returns-clause-each c = λ policy n events h now k right below is. each policy n events h now k right below is

pub returns-clause-one : goal.returns-clause-one
returns-clause-one c = λ policy n events h now right unasked unrefused undenied few k below.
    let s : State = run (start policy n) events in
    elim (cases_Bool (s.is_open k)) [
      | inr closed ↦ closed
      | inl lacking ↦ absurd (elim (each policy n events h now k right below lacking) [
        | inl out ↦ (let many = left_out_is policy n events h out in omega (arith, many, few))
        | inr rest ↦ (elim rest [
          | inl asked ↦ both_ways ((s.holder h).asked k) (unasked k) asked
          | inr more ↦ (elim more [
            | inl refused ↦ both_ways (list_any (refuses h k) events) (unrefused k) refused
            | inr denied ↦ both_ways (list_any (denies h k) events) (undenied k) denied
          ])
        ])
      ])
    ]

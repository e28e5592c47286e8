-- What is left to do: it falls with every request that ends.
use Rattle.std.proofs.Common.{◌≡◌, ◌⊎◌, ℕ, ◌+◌, ◌-◌, ◌<◌, ◌≤◌, nat_le, Bool, true, false, not, ◌&&◌, ◌||◌, cond, refl, sym, ap, ◌∙◌, arith, inl, inr, subst}
use Rattle.std.proofs.lemmas.Bool.Decides.{nat_tests}
use Rattle.std.proofs.lemmas.Bool.{and_cases, and_left, and_parts, and_from, and_right, cases_Bool, leb-false, leb-true, le-leb, lt-leb, not-true, not-false, not_from_false, not_from_true, or_cases, or_from, or_left, or_right}
use Rattle.bao_plan.specs.declared.policy.Policy.{Policy}
use Rattle.bao_plan.specs.declared.policy.Outcome.{Outcome}
use Rattle.bao_plan.specs.Events.{after_chunks, after_request, is_cut, row_after}
use Rattle.bao_plan.specs.Sets.{any_below, in_range, is_some_bit}
use Rattle.bao_plan.specs.States.{HolderState, is_left_out, may_have}
use Rattle.bao_plan.proofs.Any.{any_found}
use Rattle.bao_plan.proofs.Counting.{count_below, count_le, count_lt, count_most}

-- whether a holder may still be asked for a chunk, or is asked for it now
pub is_due : Policy → (ℕ → Bool) → HolderState → ℕ → Bool
is_due policy lacking x c = x.asked c || (not (is_left_out policy x) && (lacking c && may_have x c))

-- what is left to do with a holder: its chunks, and its failures
pub worth : Policy → ℕ → (ℕ → Bool) → HolderState → ℕ
worth policy n lacking x = count_below n (is_due policy lacking x) + (policy.faults - x.in_row)

due_asked : (policy : Policy) (lacking : ℕ → Bool) (x : HolderState) (c : ℕ) → x.asked c ≡ true → is_due policy lacking x c ≡ true
unfolding is_due
due_asked policy lacking x c is = or_left (x.asked c) _ is

due_free : (policy : Policy) (lacking : ℕ → Bool) (x : HolderState) (c : ℕ) → is_left_out policy x ≡ false → lacking c ≡ true → may_have x c ≡ true → is_due policy lacking x c ≡ true
unfolding is_due
due_free policy lacking x c is_in is has = or_right (x.asked c) _ (and_from _ _ (not_from_false _ is_in) (and_from _ _ is has))

due_cases : (policy : Policy) (lacking : ℕ → Bool) (x : HolderState) (c : ℕ) → is_due policy lacking x c ≡ true
    → (x.asked c ≡ true) ⊎ ((is_left_out policy x ≡ false) × (lacking c ≡ true) × (may_have x c ≡ true))
unfolding is_due
due_cases policy lacking x c due = elim (or_cases (x.asked c) (not (is_left_out policy x) && (lacking c && may_have x c)) due) [
  | inl asked ↦ inl asked
  | inr free ↦ (let a = and_parts (not (is_left_out policy x)) (lacking c && may_have x c) free in
      let b = and_parts (lacking c) (may_have x c) a.1 in
      inr (not-true _ a.0, b.0, b.1))
]

due_not : (policy : Policy) (lacking : ℕ → Bool) (x : HolderState) (c : ℕ) → x.asked c ≡ false → (is_left_out policy x ≡ true) ⊎ ((lacking c && may_have x c) ≡ false) → is_due policy lacking x c ≡ false
unfolding is_due
due_not policy lacking x c unasked why = or_from (x.asked c) _ unasked (elim why [
  | inl out ↦ and_left _ _ (not_from_true _ out)
  | inr none ↦ and_right _ _ none
])

-- A holder of which less is to be asked, and that has failed as often, is worth no more.
pub worth_le : (policy : Policy) (n : ℕ) (lacking lacking' : ℕ → Bool) (x y : HolderState) → ((c : ℕ) → c < n → is_due policy lacking' y c ≡ true → is_due policy lacking x c ≡ true) → x.in_row ≤ y.in_row
    → worth policy n lacking' y ≤ worth policy n lacking x
unfolding worth
worth_le policy n lacking lacking' x y less row = let count = count_le n (is_due policy lacking' y) (is_due policy lacking x) less in omega (arith, count, row)

-- less is lacking
pub worth_fewer : (policy : Policy) (n : ℕ) (lacking lacking' : ℕ → Bool) (x : HolderState) → ((c : ℕ) → lacking' c ≡ true → lacking c ≡ true) → worth policy n lacking' x ≤ worth policy n lacking x
worth_fewer policy n lacking lacking' x fewer = worth_le policy n lacking lacking' x x (λ c below due. elim (due_cases policy lacking' x c due) [
  | inl asked ↦ due_asked policy lacking x c asked
  | inr free ↦ due_free policy lacking x c free.0 (fewer c free.1) free.2
]) (omega arith)

-- it is asked for chunks that it may have
pub worth_asked : (policy : Policy) (n : ℕ) (lacking : ℕ → Bool) (x y : HolderState) → y.in_row ≡ x.in_row → ((c : ℕ) → may_have y c ≡ may_have x c)
    → ((c : ℕ) → y.asked c ≡ true → (x.asked c ≡ true) ⊎ ((is_left_out policy x ≡ false) × (lacking c ≡ true) × (may_have x c ≡ true))) → worth policy n lacking y ≤ worth policy n lacking x
worth_asked policy n lacking x y row same asked =
    let out : is_left_out policy y ≡ is_left_out policy x = ap (nat_le policy.faults) row in
    worth_le policy n lacking lacking x y (λ c below due. elim (due_cases policy lacking y c due) [
      | inl is ↦ (elim (asked c is) [
        | inl before ↦ due_asked policy lacking x c before
        | inr free ↦ due_free policy lacking x c free.0 free.1 free.2
      ])
      | inr free ↦ due_free policy lacking x c (sym out ∙ free.0) free.1 (sym (same c) ∙ free.2)
    ]) (omega (arith, row))

-- it may have less
pub worth_lost : (policy : Policy) (n : ℕ) (lacking : ℕ → Bool) (x y : HolderState) → y.in_row ≡ x.in_row → ((c : ℕ) → y.asked c ≡ x.asked c) → ((c : ℕ) → may_have y c ≡ true → may_have x c ≡ true) → worth policy n lacking y ≤ worth policy n lacking x
worth_lost policy n lacking x y row asked less =
    let out : is_left_out policy y ≡ is_left_out policy x = ap (nat_le policy.faults) row in
    worth_le policy n lacking lacking x y (λ c below due. elim (due_cases policy lacking y c due) [
      | inl is ↦ due_asked policy lacking x c (sym (asked c) ∙ is)
      | inr free ↦ due_free policy lacking x c (sym out ∙ free.0) free.1 (less c free.2)
    ]) (omega (arith, row))

-- it may have whatever it is
pub worth_most : (policy : Policy) (n : ℕ) (lacking : ℕ → Bool) (x : HolderState) → worth policy n lacking x ≤ n + policy.faults
unfolding worth
worth_most policy n lacking x = let count = count_most n (is_due policy lacking x) in omega (arith, count)

pub worth_news : (policy : Policy) (n : ℕ) (lacking : ℕ → Bool) (x y : HolderState) → y.in_row ≡ x.in_row → worth policy n lacking y ≤ worth policy n lacking x + n
unfolding worth
worth_news policy n lacking x y row = let count = count_most n (is_due policy lacking y) in omega (arith, count, row)

-- its row of failures is another one
worth_row : (policy : Policy) (n : ℕ) (lacking : ℕ → Bool) (x y : HolderState) → is_left_out policy x ≡ false → ((c : ℕ) → y.asked c ≡ x.asked c) → ((c : ℕ) → may_have y c ≡ may_have x c)
    → worth policy n lacking y ≤ worth policy n lacking x + policy.faults
unfolding worth
worth_row policy n lacking x y is_in asked same =
    let count = count_le n (is_due policy lacking y) (is_due policy lacking x) (λ c below due. elim (due_cases policy lacking y c due) [
      | inl is ↦ due_asked policy lacking x c (sym (asked c) ∙ is)
      | inr free ↦ due_free policy lacking x c is_in free.1 (sym (same c) ∙ free.2)
    ]) in
    omega (arith, count)

-- it gave chunks, and its row of failures may have ended
gave_cases : (policy : Policy) (n : ℕ) (lacking : ℕ → Bool) (x : HolderState) (b o : Bool) → is_left_out policy x ≡ o
    → worth policy n lacking (record x { in_row = cond (b && not o) 0 x.in_row }) ≤ worth policy n lacking x + cond b policy.faults 0
gave_cases policy n lacking x true true out = omega arith
gave_cases policy n lacking x true false is_in = worth_row policy n lacking x (record x { in_row = 0 }) is_in (λ c. refl) (λ c. refl)
gave_cases policy n lacking x false o is = omega arith

pub worth_gave : (policy : Policy) (n : ℕ) (lacking : ℕ → Bool) (x : HolderState) (taken : ℕ)
    → worth policy n lacking (after_chunks policy taken x) ≤ worth policy n lacking x + cond (is_some_bit taken) policy.faults 0
worth_gave policy n lacking x taken = gave_cases policy n lacking x (is_some_bit taken) (is_left_out policy x) refl

-- its request ended
row_grows : (policy : Policy) (x : HolderState) (failed : Bool) → x.in_row ≤ row_after policy x failed
row_grows policy x failed = elim (failed && not (is_left_out policy x)) as (λ b. x.in_row ≤ cond b (x.in_row + 1) x.in_row) [ true ↦ omega arith | false ↦ omega arith ]

row_fails : (policy : Policy) (x : HolderState) → is_left_out policy x ≡ false → row_after policy x true ≡ x.in_row + 1
row_fails policy x is_in = ap (λ b. cond (not b) (x.in_row + 1) x.in_row) is_in

stays_in : (policy : Policy) (x y : HolderState) → x.in_row ≤ y.in_row → is_left_out policy y ≡ false → is_left_out policy x ≡ false
stays_in policy x y row is_in = lt-leb policy.faults x.in_row (omega (arith, row, leb-false policy.faults y.in_row is_in))

stays_out : (policy : Policy) (x y : HolderState) → x.in_row ≤ y.in_row → is_left_out policy x ≡ true → is_left_out policy y ≡ true
stays_out policy x y row out = le-leb policy.faults y.in_row (omega (arith, row, leb-true policy.faults x.in_row out))

-- a request that ends: y is x without those chunks under way, and with a row that is no shorter
pub record Frees (x y : HolderState) (first count : ℕ) : Type 0 where
  pub row : x.in_row ≤ y.in_row
  pub asked : (c : ℕ) → y.asked c ≡ (x.asked c && not (in_range first count c))
  pub same : (c : ℕ) → may_have y c ≡ may_have x c

freed_less : (policy : Policy) (lacking : ℕ → Bool) (x y : HolderState) (first count : ℕ) → Frees x y first count → (c : ℕ) → is_due policy lacking y c ≡ true → is_due policy lacking x c ≡ true
freed_less policy lacking x y first count frees c due = elim (due_cases policy lacking y c due) [
  | inl is ↦ due_asked policy lacking x c (and_parts (x.asked c) (not (in_range first count c)) (sym (frees.asked c) ∙ is)).0
  | inr free ↦ due_free policy lacking x c (stays_in policy x y frees.row free.0) free.1 (sym (frees.same c) ∙ free.2)
]

freed_le : (policy : Policy) (n : ℕ) (lacking : ℕ → Bool) (x y : HolderState) (first count : ℕ) → Frees x y first count → worth policy n lacking y ≤ worth policy n lacking x
freed_le policy n lacking x y first count frees = worth_le policy n lacking lacking x y (λ c below. freed_less policy lacking x y first count frees c) frees.row

-- strictly, where a chunk of it is not to be asked for again
freed_lt : (policy : Policy) (n : ℕ) (lacking : ℕ → Bool) (x y : HolderState) (first count c : ℕ) → Frees x y first count → c < n → x.asked c ≡ true → in_range first count c ≡ true
    → (is_left_out policy y ≡ true) ⊎ ((lacking c && may_have x c) ≡ false) → worth policy n lacking y + 1 ≤ worth policy n lacking x
unfolding worth
freed_lt policy n lacking x y first count c frees below asked here why =
    let unasked : y.asked c ≡ false = frees.asked c ∙ and_right (x.asked c) (not (in_range first count c)) (not_from_true _ here) in
    let undue : is_due policy lacking y c ≡ false = due_not policy lacking y c unasked (elim why [
      | inl out ↦ inl out
      | inr none ↦ inr (ap (λ b. lacking c && b) (frees.same c) ∙ none)
    ]) in
    let count = count_lt n (is_due policy lacking y) (is_due policy lacking x) c below undue (due_asked policy lacking x c asked) (λ k within. freed_less policy lacking x y first count frees k) in
    omega (arith, count, frees.row)

-- and where it was a failure
freed_failed : (policy : Policy) (n : ℕ) (lacking : ℕ → Bool) (x y : HolderState) (first count : ℕ) → Frees x y first count → is_left_out policy x ≡ false → y.in_row ≡ x.in_row + 1 → worth policy n lacking y + 1 ≤ worth policy n lacking x
unfolding worth
freed_failed policy n lacking x y first count frees is_in row =
    let count = count_le n (is_due policy lacking y) (is_due policy lacking x) (λ c below. freed_less policy lacking x y first count frees c) in
    omega (arith, count, row, leb-false policy.faults x.in_row is_in)

first_in : (first count : ℕ) → 0 < count → in_range first count first ≡ true
first_in first count some = grind (arith, nat_tests)

place_in : (first count i : ℕ) → i < count → in_range first count (first + i) ≡ true
place_in first count i below = grind (arith, nat_tests)

pub worth_ended : (policy : Policy) (n : ℕ) (lacking : ℕ → Bool) (x : HolderState) (first count : ℕ) (outcome : Outcome) (now : ℕ) (failed : Bool) → 0 < count
    → ((c : ℕ) → in_range first count c ≡ true → x.asked c ≡ true) → ((c : ℕ) → x.asked c ≡ true → c < n)
    → failed ≡ (not (any_below count (λ i. not (lacking (first + i) && may_have x (first + i)))) && not (is_cut outcome))
    → worth policy n lacking (after_request policy x first count outcome now failed) + cond (is_cut outcome) 0 1 ≤ worth policy n lacking x
worth_ended policy n lacking x first count outcome now failed some asked within is =
    let y : HolderState = after_request policy x first count outcome now failed in
    let frees : Frees x y first count = record { row = row_grows policy x failed; asked = λ c. refl; same = λ c. refl } in
    elim (cases_Bool (is_cut outcome)) [
      | inl cut ↦ (let least = freed_le policy n lacking x y first count frees in subst (λ b. worth policy n lacking y + cond b 0 1 ≤ worth policy n lacking x) (sym cut) (omega (arith, least)))
      | inr uncut ↦ subst (λ b. worth policy n lacking y + cond b 0 1 ≤ worth policy n lacking x) (sym uncut) (elim (cases_Bool (is_left_out policy x)) [
        | inl out ↦ freed_lt policy n lacking x y first count first frees (within first (asked first (first_in first count some))) (asked first (first_in first count some)) (first_in first count some)
            (inl (stays_out policy x y frees.row out))
        | inr is_in ↦ (elim (cases_Bool failed) [
          | inl bad ↦ freed_failed policy n lacking x y first count frees is_in (ap (row_after policy x) bad ∙ row_fails policy x is_in)
          | inr good ↦ (let decided : any_below count (λ i. not (lacking (first + i) && may_have x (first + i))) ≡ true =
              not-false _ (elim (and_cases _ _ (sym is ∙ good)) [ inl d ↦ d | inr cut ↦ absurd (let h : true ≡ false = sym (not_from_false _ uncut) ∙ cut in cc) ]) in
              let f = any_found count (λ i. not (lacking (first + i) && may_have x (first + i))) decided in
              let here = place_in first count f.0 f.1 in
              freed_lt policy n lacking x y first count (first + f.0) frees (within _ (asked _ here)) (asked _ here) here (inr (not-true _ f.2)))
        ])
      ])
    ]

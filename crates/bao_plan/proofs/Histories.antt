-- What the events of a history leave in the state.
use Rattle.std.proofs.Common.{◌≡◌, ℕ, ◌+◌, ◌/◌, ◌%◌, ◌≤◌, ◌==◌, max, min, if◌then◌else◌, Bool, true, false, not, ◌&&◌, ◌||◌, cond, List, [], ◌∷◌, ◌++◌, nat_lt, subst, refl, sym, ap, ◌∙◌, arith, inl, inr}
use Rattle.std.specs.List.{list_any, count_by}
use Rattle.std.proofs.lemmas.List.Sums.{sum_by-cons}
use Rattle.std.proofs.lemmas.Bool.{and_parts, or_cases, or_left, or_right, cases_eq, eq-eqb, ne_eqb}
use Rattle.bao_plan.specs.declared.policy.Policy.{Policy}
use Rattle.bao_plan.specs.declared.policy.Next.TheVariants.{Fetch, WaitUntil, Nothing}
use Rattle.bao_plan.specs.declared.policy.Outcome.TheVariants.{LaterBy}
use Rattle.bao_plan.specs.Events.{Event, IsRight, after_request, happens, pause_after, put, row_after}
use Rattle.bao_plan.specs.Events.Event.{Added, Asked, Kept, Refused, Lacks, Has, Forgiven, Limited, Ranked, Ended}
use Rattle.bao_plan.specs.Histories.{IsHistory, counts, denies, keeps, refuses, run}
use Rattle.bao_plan.specs.Sets.{has_bit, in_mask}
use Rattle.bao_plan.specs.States.{HolderState, State, start}

pub put_same : (f : ℕ → HolderState) (h : ℕ) (x : HolderState) → put f h x h ≡ x
put_same f h x = ap (λ b. cond b x (f h)) (eq-eqb h h refl)

pub put_other : (f : ℕ → HolderState) (h : ℕ) (x : HolderState) (k : ℕ) → (k ≡ h → ⊥) → put f h x k ≡ f k
put_other f h x k other = ap (λ b. cond b x (f k)) (ne_eqb k h other)

or-false : (b : Bool) → (b || false) ≡ b
or-false true = refl
or-false false = refl

-- what doesn't change at a holder that is put, stays
pub put_keeps : {A : Type 0} (v : HolderState → A) (f : ℕ → HolderState) (h : ℕ) (x : HolderState) (k : ℕ) → v x ≡ v (f h) → v (put f h x k) ≡ v (f k)
put_keeps v f h x k same = elim (cases_eq k h) [
  | inl e ↦ ap (λ n. v (put f h x n)) e ∙ (ap v (put_same f h x) ∙ (same ∙ sym (ap (λ n. v (f n)) e)))
  | inr other ↦ ap v (put_other f h x k other)
]

-- and what is changed at it is changed where its number is named
put_or : (v : HolderState → Bool) (f : ℕ → HolderState) (h : ℕ) (x : HolderState) (k : ℕ) (b : Bool) → v x ≡ (v (f h) || b) → v (put f h x k) ≡ (v (f k) || ((k == h) && b))
put_or v f h x k b is = elim (cases_eq k h) [
  | inl e ↦ ap (λ n. v (put f h x n)) e ∙ (ap v (put_same f h x) ∙ (is ∙ (sym (ap (λ n. v (f n) || b) e) ∙ sym (ap (λ t. v (f k) || (t && b)) (eq-eqb k h e)))))
  | inr other ↦ ap v (put_other f h x k other) ∙ (sym (or-false (v (f k))) ∙ sym (ap (λ t. v (f k) || (t && b)) (ne_eqb k h other)))
]

or_assoc : (a b c : Bool) → ((a || b) || c) ≡ (a || (b || c))
or_assoc true b c = refl
or_assoc false b c = refl

-- which chunks are refused
refused_step : (s : State) (e : Event) (h c : ℕ) → ((happens s e).holder h).refused c ≡ ((s.holder h).refused c || refuses h c e)
refused_step s Added h c = sym (or-false _)
refused_step s (Asked k now (Fetch first count)) h c = put_keeps (λ x. x.refused c) s.holder k _ h refl ∙ sym (or-false _)
refused_step s (Limited end) h c = sym (or-false _)
refused_step s (Asked k now (WaitUntil t)) h c = sym (or-false _)
refused_step s (Asked k now Nothing) h c = sym (or-false _)
refused_step s (Kept k group mask taken) h c = put_keeps (λ x. x.refused c) s.holder k _ h refl ∙ sym (or-false _)
refused_step s (Refused k group mask) h c = put_or (λ x. x.refused c) s.holder k _ h (in_mask group mask c) refl
refused_step s (Lacks k group mask) h c = put_keeps (λ x. x.refused c) s.holder k _ h refl ∙ sym (or-false _)
refused_step s (Has k group mask) h c = put_keeps (λ x. x.refused c) s.holder k _ h refl ∙ sym (or-false _)
refused_step s (Forgiven k) h c = put_keeps (λ x. x.refused c) s.holder k _ h refl ∙ sym (or-false _)
refused_step s (Ranked k rank) h c = put_keeps (λ x. x.refused c) s.holder k _ h refl ∙ sym (or-false _)
refused_step s (Ended k first count outcome now failed) h c = put_keeps (λ x. x.refused c) s.holder k _ h refl ∙ sym (or-false _)

refused_run : (s : State) (es : List Event) (h c : ℕ) → ((run s es).holder h).refused c ≡ ((s.holder h).refused c || list_any (refuses h c) es)
refused_run s [] h c = sym (or-false _)
refused_run s (e ∷ es) h c = refused_run (happens s e) es h c ∙ (ap (λ b. b || list_any (refuses h c) es) (refused_step s e h c) ∙ or_assoc ((s.holder h).refused c) (refuses h c e) (list_any (refuses h c) es))

pub refused_is : (policy : Policy) (n : ℕ) (es : List Event) (h c : ℕ) → ((run (start policy n) es).holder h).refused c ≡ list_any (refuses h c) es
refused_is policy n es h c = refused_run (start policy n) es h c

-- what holds of a holder that is put, and of the others
pub at_put : (P : HolderState → Type 0) (f : ℕ → HolderState) (k : ℕ) (x : HolderState) (h : ℕ) → (h ≡ k → P x) → ((h ≡ k → ⊥) → P (f h)) → P (put f k x h)
at_put P f k x h named unnamed = elim (cases_eq h k) [
  | inl e ↦ subst P (sym (ap (λ b. cond b x (f h)) (eq-eqb h k e))) (named e)
  | inr ne ↦ subst P (sym (ap (λ b. cond b x (f h)) (ne_eqb h k ne))) (unnamed ne)
]

-- which chunks a holder said that it lacks, at most
absent_step : (s : State) (e : Event) (h c : ℕ) → ((happens s e).holder h).absent c ≡ true → ((s.holder h).absent c || denies h c e) ≡ true
absent_step s Added h c is = or_left _ _ is
absent_step s (Asked k now (Fetch first count)) h c is = or_left _ _ (sym (put_keeps (λ x. x.absent c) s.holder k _ h refl) ∙ is)
absent_step s (Limited end) h c is = or_left _ _ is
absent_step s (Asked k now (WaitUntil t)) h c is = or_left _ _ is
absent_step s (Asked k now Nothing) h c is = or_left _ _ is
absent_step s (Kept k group mask taken) h c is = or_left _ _ (sym (put_keeps (λ x. x.absent c) s.holder k _ h refl) ∙ is)
absent_step s (Refused k group mask) h c is = or_left _ _ (sym (put_keeps (λ x. x.absent c) s.holder k _ h refl) ∙ is)
absent_step s (Lacks k group mask) h c is = sym (put_or (λ x. x.absent c) s.holder k _ h (in_mask group mask c) refl) ∙ is
absent_step s (Has k group mask) h c is = or_left _ _ (at_put (λ x. x.absent c ≡ true → (s.holder h).absent c ≡ true) s.holder k _ h
    (λ e was. ap (λ n. (s.holder n).absent c) e ∙ (and_parts _ _ was).0) (λ _ was. was) is)
absent_step s (Forgiven k) h c is = or_left _ _ (sym (put_keeps (λ x. x.absent c) s.holder k _ h refl) ∙ is)
absent_step s (Ranked k rank) h c is = or_left _ _ (sym (put_keeps (λ x. x.absent c) s.holder k _ h refl) ∙ is)
absent_step s (Ended k first count outcome now failed) h c is = or_left _ _ (sym (put_keeps (λ x. x.absent c) s.holder k _ h refl) ∙ is)

absent_run : (s : State) (es : List Event) (h c : ℕ) → ((run s es).holder h).absent c ≡ true → ((s.holder h).absent c || list_any (denies h c) es) ≡ true
absent_run s [] h c is = or_left _ _ is
absent_run s (e ∷ es) h c is =
    let old = (s.holder h).absent c in
    let now = denies h c e in
    let rest = list_any (denies h c) es in
    elim (or_cases (((happens s e).holder h).absent c) rest (absent_run (happens s e) es h c is)) [
      | inl before ↦ (elim (or_cases old now (absent_step s e h c before)) [
        | inl first ↦ or_left old (now || rest) first
        | inr here ↦ or_right old (now || rest) (or_left now rest here)
      ])
      | inr later ↦ or_right old (now || rest) (or_right now rest later)
    ]

pub absent_is : (policy : Policy) (n : ℕ) (es : List Event) (h c : ℕ) → ((run (start policy n) es).holder h).absent c ≡ true → list_any (denies h c) es ≡ true
absent_is policy n es h c is = absent_run (start policy n) es h c is

-- which chunks are lacking
and-true : (b : Bool) → b ≡ (b && true)
and-true true = refl
and-true false = refl

neither : (o a b : Bool) → ((o && not a) && not b) ≡ (o && not (a || b))
neither true true b = refl
neither true false b = refl
neither false a b = refl

open_step : (s : State) (e : Event) (c : ℕ) → (happens s e).is_open c ≡ (s.is_open c && not (keeps c e))
open_step s Added c = and-true _
open_step s (Asked k now (Fetch first count)) c = and-true _
open_step s (Limited end) c = and-true _
open_step s (Asked k now (WaitUntil t)) c = and-true _
open_step s (Asked k now Nothing) c = and-true _
open_step s (Kept k group mask taken) c = refl
open_step s (Refused k group mask) c = and-true _
open_step s (Lacks k group mask) c = and-true _
open_step s (Has k group mask) c = and-true _
open_step s (Forgiven k) c = and-true _
open_step s (Ranked k rank) c = and-true _
open_step s (Ended k first count outcome now failed) c = and-true _

open_run : (s : State) (es : List Event) (c : ℕ) → (run s es).is_open c ≡ (s.is_open c && not (list_any (keeps c) es))
open_run s [] c = and-true _
open_run s (e ∷ es) c = open_run (happens s e) es c ∙ (ap (λ b. b && not (list_any (keeps c) es)) (open_step s e c) ∙ neither (s.is_open c) (keeps c e) (list_any (keeps c) es))

pub open_is : (policy : Policy) (n : ℕ) (es : List Event) (c : ℕ) → (run (start policy n) es).is_open c ≡ (nat_lt c n && not (list_any (keeps c) es))
open_is policy n es c = open_run (start policy n) es c

-- each event of a history is right where it stands
pub right_at : (s : State) (xs : List Event) (e : Event) (ys : List Event) → IsHistory s (xs ++ e ∷ ys) → IsRight (run s xs) e
right_at s [] e ys h = h.0
right_at s (x ∷ xs) e ys h = right_at (happens s x) xs e ys h.1

-- how often a chunk is counted
split : (m o : Bool) → cond (m && o) 1 0 + cond (o && not m) 1 0 ≡ cond o 1 0
split true true = refl
split true false = refl
split false true = refl
split false false = refl

one_of : (b : Bool) → 0 + cond b 1 0 ≡ cond b 1 0
one_of true = refl
one_of false = refl

counted_mask : (group mask taken c : ℕ) (o : Bool) → (c / 64 ≡ group → has_bit taken (c % 64) ≡ (has_bit mask (c % 64) && o)) → cond (in_mask group taken c) 1 0 + cond (o && not (in_mask group mask c)) 1 0 ≡ cond o 1 0
counted_mask group mask taken c o bits = elim (cases_eq (c / 64) group) [
  | inl here ↦ ap (λ b. cond (b && has_bit taken (c % 64)) 1 0 + cond (o && not (b && has_bit mask (c % 64))) 1 0) (eq-eqb (c / 64) group here)
      ∙ (ap (λ b. cond b 1 0 + cond (o && not (has_bit mask (c % 64))) 1 0) (bits here) ∙ split (has_bit mask (c % 64)) o)
  | inr there ↦ ap (λ b. cond (b && has_bit taken (c % 64)) 1 0 + cond (o && not (b && has_bit mask (c % 64))) 1 0) (ne_eqb (c / 64) group there)
      ∙ (ap (λ b. 0 + cond b 1 0) (sym (and-true o)) ∙ one_of o)
]

counted_step : (s : State) (e : Event) (c : ℕ) → IsRight s e → cond (counts c e) 1 0 + cond ((happens s e).is_open c) 1 0 ≡ cond (s.is_open c) 1 0
counted_step s Added c right = one_of _
counted_step s (Asked k now (Fetch first count)) c right = one_of _
counted_step s (Limited end) c right = one_of _
counted_step s (Asked k now (WaitUntil t)) c right = one_of _
counted_step s (Asked k now Nothing) c right = one_of _
counted_step s (Kept k group mask taken) c right = counted_mask group mask taken c (s.is_open c) (right.1.bits c)
counted_step s (Refused k group mask) c right = one_of _
counted_step s (Lacks k group mask) c right = one_of _
counted_step s (Has k group mask) c right = one_of _
counted_step s (Forgiven k) c right = one_of _
counted_step s (Ranked k rank) c right = one_of _
counted_step s (Ended k first count outcome now failed) c right = one_of _

pub counted_run : (s : State) (es : List Event) (c : ℕ) → IsHistory s es → count_by (counts c) es + cond ((run s es).is_open c) 1 0 ≡ cond (s.is_open c) 1 0
counted_run s [] c history = one_of _
counted_run s (e ∷ es) c history =
    let here = counted_step s e c history.0 in
    let rest = counted_run (happens s e) es c history.1 in
    let more : count_by (counts c) (e ∷ es) ≡ cond (counts c e) 1 0 + count_by (counts c) es = sum_by-cons (λ x. cond (counts c x) 1 0) e es in
    let all : count_by (counts c) es + cond ((run s (e ∷ es)).is_open c) 1 0 ≡ cond ((happens s e).is_open c) 1 0 = rest in
    omega (arith, here, all, more)

-- the moment before which a holder isn't asked goes up alone
later_step : (s : State) (e : Event) (h : ℕ) → (s.holder h).later ≤ ((happens s e).holder h).later
later_step s Added h = omega arith
later_step s (Asked k now (Fetch first count)) h = subst (λ m. (s.holder h).later ≤ m) (sym (put_keeps (λ x. x.later) s.holder k _ h refl)) (omega arith)
later_step s (Limited end) h = omega arith
later_step s (Asked k now (WaitUntil t)) h = omega arith
later_step s (Asked k now Nothing) h = omega arith
later_step s (Kept k group mask taken) h = subst (λ m. (s.holder h).later ≤ m) (sym (put_keeps (λ x. x.later) s.holder k _ h refl)) (omega arith)
later_step s (Refused k group mask) h = subst (λ m. (s.holder h).later ≤ m) (sym (put_keeps (λ x. x.later) s.holder k _ h refl)) (omega arith)
later_step s (Lacks k group mask) h = subst (λ m. (s.holder h).later ≤ m) (sym (put_keeps (λ x. x.later) s.holder k _ h refl)) (omega arith)
later_step s (Has k group mask) h = subst (λ m. (s.holder h).later ≤ m) (sym (put_keeps (λ x. x.later) s.holder k _ h refl)) (omega arith)
later_step s (Forgiven k) h = subst (λ m. (s.holder h).later ≤ m) (sym (put_keeps (λ x. x.later) s.holder k _ h refl)) (omega arith)
later_step s (Ranked k rank) h = subst (λ m. (s.holder h).later ≤ m) (sym (put_keeps (λ x. x.later) s.holder k _ h refl)) (omega arith)
later_step s (Ended k first count outcome now failed) h = at_put (λ x. (s.holder h).later ≤ x.later) s.holder k _ h
    (λ e. subst (λ n. (s.holder h).later ≤ max (s.holder n).later (now + pause_after s.policy outcome (if failed then row_after s.policy (s.holder n) failed else 0))) e (omega arith)) (λ _. omega arith)

later_run : (s : State) (es : List Event) (h : ℕ) → (s.holder h).later ≤ ((run s es).holder h).later
later_run s [] h = omega arith
later_run s (e ∷ es) h = let here = later_step s e h in let rest = later_run (happens s e) es h in omega (arith, here, rest)

pub run_append : (s : State) (xs ys : List Event) → run s (xs ++ ys) ≡ run (run s xs) ys
run_append s [] ys = refl
run_append s (x ∷ xs) ys = run_append (happens s x) xs ys

pub left_alone : (s : State) (before between : List Event) (h first count ms moment : ℕ) (failed : Bool)
    → moment + min (run s before).policy.longest_pause ms ≤ ((run s (before ++ Ended h first count (LaterBy ms) moment failed ∷ between)).holder h).later
left_alone s before between h first count ms moment failed =
    let e = Ended h first count (LaterBy ms) moment failed in
    let t = run s before in
    let rest = later_run (happens t e) between h in
    let at : ((happens t e).holder h).later ≡ max (t.holder h).later (moment + min t.policy.longest_pause ms) = ap (λ (x : HolderState). x.later) (put_same t.holder h (after_request t.policy (t.holder h) first count (LaterBy ms) moment failed)) in
    subst (λ (u : State). moment + min t.policy.longest_pause ms ≤ (u.holder h).later) (sym (run_append s before (e ∷ between))) (omega (arith, rest, at))

-- a history goes on with an event that is right after it
pub history_more : (s : State) (es : List Event) (e : Event) → IsHistory s es → IsRight (run s es) e → IsHistory s (es ++ e ∷ [])
history_more s [] e history right = (right, tt)
history_more s (x ∷ xs) e history right = (history.0, history_more (happens s x) xs e history.1 right)

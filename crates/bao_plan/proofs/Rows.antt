-- A holder is left out only after its failures in a row.
use Rattle.std.proofs.Common.{◌≡◌, ℕ, ◌+◌, ◌<◌, ◌≤◌, Bool, true, false, not, ◌&&◌, cond, List, [], ◌∷◌, refl, sym, ap, ◌∙◌, arith, inl, inr, subst}
use Rattle.std.proofs.lemmas.Bool.{cases_lt, eq-eqb, leb-true, lt-leb, ne_eqb}
use Rattle.bao_plan.specs.declared.policy.Policy.{Policy}
use Rattle.bao_plan.specs.declared.policy.Next.TheVariants.{Fetch, WaitUntil, Nothing}
use Rattle.bao_plan.specs.Events.{Event, after_chunks, happens, row_after}
use Rattle.bao_plan.specs.Events.Event.{Added, Asked, Kept, Refused, Lacks, Has, Forgiven, Limited, Ranked, Ended}
use Rattle.bao_plan.specs.Histories.{longest_row, next_row, run}
use Rattle.bao_plan.specs.Sets.{is_some_bit}
use Rattle.bao_plan.specs.States.{HolderState, State, is_left_out, start}
use Rattle.bao_plan.proofs.Histories.{at_put, put_keeps}

pub policy_step : (s : State) (e : Event) → (happens s e).policy ≡ s.policy
policy_step s Added = refl
policy_step s (Asked k now (Fetch first count)) = refl
policy_step s (Limited end) = refl
policy_step s (Asked k now (WaitUntil t)) = refl
policy_step s (Asked k now Nothing) = refl
policy_step s (Kept k group mask taken) = refl
policy_step s (Refused k group mask) = refl
policy_step s (Lacks k group mask) = refl
policy_step s (Has k group mask) = refl
policy_step s (Forgiven k) = refl
policy_step s (Ranked k rank) = refl
policy_step s (Ended k first count outcome now failed) = refl

pub policy_run : (s : State) (es : List Event) → (run s es).policy ≡ s.policy
policy_run s [] = refl
policy_run s (e ∷ es) = policy_run (happens s e) es ∙ policy_step s e

-- the row of one that isn't left out, after it gave chunks or failed, or others did
kept_row : (policy : Policy) (x : HolderState) (taken r : ℕ) → x.in_row ≤ r → r < policy.faults → (after_chunks policy taken x).in_row ≤ cond (is_some_bit taken) 0 r
kept_row policy x taken r below few =
    let is_in : is_left_out policy x ≡ false = lt-leb policy.faults x.in_row (omega arith) in
    elim (is_some_bit taken) as (λ b. cond (b && not (is_left_out policy x)) 0 x.in_row ≤ cond b 0 r) [
      | true ↦ subst (λ t. cond (not t) 0 x.in_row ≤ 0) (sym is_in) (omega arith)
      | false ↦ below
    ]

ended_row : (policy : Policy) (x : HolderState) (failed : Bool) (r : ℕ) → x.in_row ≤ r → row_after policy x failed ≤ cond failed (r + 1) r
ended_row policy x true r below = elim (is_left_out policy x) as (λ t. cond (not t) (x.in_row + 1) x.in_row ≤ r + 1) [ true ↦ omega arith | false ↦ omega arith ]
ended_row policy x false r below = below

row_step : (s : State) (e : Event) (h r : ℕ) → (s.holder h).in_row ≤ r → r < s.policy.faults → ((happens s e).holder h).in_row ≤ next_row h r e
row_step s Added h r below few = below
row_step s (Asked k now (Fetch first count)) h r below few = subst (λ m. m ≤ r) (sym (put_keeps (λ x. x.in_row) s.holder k _ h refl)) below
row_step s (Limited end) h r below few = below
row_step s (Asked k now (WaitUntil t)) h r below few = below
row_step s (Asked k now Nothing) h r below few = below
row_step s (Kept k group mask taken) h r below few = at_put (λ x. x.in_row ≤ next_row h r (Kept k group mask taken)) s.holder k _ h
    (λ e. subst (λ b. (after_chunks s.policy taken (s.holder k)).in_row ≤ cond (b && is_some_bit taken) 0 r) (sym (eq-eqb h k e))
    (kept_row s.policy (s.holder k) taken r (subst (λ n. (s.holder n).in_row ≤ r) e below) few))
    (λ ne. subst (λ b. (s.holder h).in_row ≤ cond (b && is_some_bit taken) 0 r) (sym (ne_eqb h k ne)) below)
row_step s (Refused k group mask) h r below few = subst (λ m. m ≤ r) (sym (put_keeps (λ x. x.in_row) s.holder k _ h refl)) below
row_step s (Lacks k group mask) h r below few = subst (λ m. m ≤ r) (sym (put_keeps (λ x. x.in_row) s.holder k _ h refl)) below
row_step s (Has k group mask) h r below few = subst (λ m. m ≤ r) (sym (put_keeps (λ x. x.in_row) s.holder k _ h refl)) below
row_step s (Forgiven k) h r below few = at_put (λ x. x.in_row ≤ r) s.holder k _ h (λ _. omega arith) (λ _. below)
row_step s (Ranked k rank) h r below few = subst (λ m. m ≤ r) (sym (put_keeps (λ x. x.in_row) s.holder k _ h refl)) below
row_step s (Ended k first count outcome now failed) h r below few = at_put (λ x. x.in_row ≤ next_row h r (Ended k first count outcome now failed)) s.holder k _ h
    (λ e. subst (λ b. row_after s.policy (s.holder k) failed ≤ cond (b && failed) (r + 1) r) (sym (eq-eqb h k e))
    (ended_row s.policy (s.holder k) failed r (subst (λ n. (s.holder n).in_row ≤ r) e below)))
    (λ ne. subst (λ b. (s.holder h).in_row ≤ cond (b && failed) (r + 1) r) (sym (ne_eqb h k ne)) below)

row_run : (s : State) (es : List Event) (h r : ℕ) → (s.holder h).in_row ≤ r → is_left_out s.policy ((run s es).holder h) ≡ true → s.policy.faults ≤ longest_row h r es
row_run s [] h r below out = omega (arith, leb-true s.policy.faults (s.holder h).in_row out)
row_run s (e ∷ es) h r below out = elim (cases_lt r s.policy.faults) [
  | inl few ↦ (let p = policy_step s e in
      let rest : (happens s e).policy.faults ≤ longest_row h (next_row h r e) es = row_run (happens s e) es h (next_row h r e) (row_step s e h r below few) (ap (λ q. is_left_out q ((run (happens s e) es).holder h)) p ∙ out) in
      let same : (happens s e).policy.faults ≡ s.policy.faults = ap (λ (q : Policy). q.faults) p in
      omega (arith, rest, same))
  | inr many ↦ omega (arith, many)
]

pub left_out_is : (policy : Policy) (n : ℕ) (es : List Event) (h : ℕ) → is_left_out policy ((run (start policy n) es).holder h) ≡ true → policy.faults ≤ longest_row h 0 es
left_out_is policy n es h out = row_run (start policy n) es h 0 (omega arith) out

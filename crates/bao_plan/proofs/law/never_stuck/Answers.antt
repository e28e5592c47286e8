use Rattle.std.proofs.Common.{◌≡◌, ℕ, zero, suc, ◌<◌, ◌≤◌, ◌&&◌, not, true, false, nat_le, nat_lt, inl, inr, arith}
use Rattle.std.proofs.lemmas.Bool.{and_from, and_parts, both_ways, cases_Bool, leb-true, ltb-true, not-true, not_from_false, or_left}
use Rattle.bao_plan.specs.declared.policy.Next.{Next}
use Rattle.bao_plan.specs.declared.policy.Next.TheVariants.{Fetch, WaitUntil, Nothing}
use Rattle.bao_plan.specs.Events.{IfFetch, IsRightAnswer}
use Rattle.bao_plan.specs.Laws.{NeverStuck}
use Rattle.bao_plan.specs.States.{State, has_better, is_better, is_late, is_left_out, is_ready, is_under_way, is_wanted, may_have}
use Rattle.bao_plan.proofs.Any.{any_found, any_none_of}
use Rattle.bao_plan.proofs.law.never_stuck.Goals as goal

-- who has a chunk ready is asked
asked_now : (s : State) (h now c : ℕ) → is_left_out s.policy (s.holder h) ≡ false → (s.holder h).later ≤ now → is_wanted s h c ≡ true → is_ready s h now true c ≡ true
    → (answer : Next) → IsRightAnswer s h now answer → IfFetch answer (λ first count. Unit {0})
asked_now s h now c is_in later wanted ready (Fetch first count) right = tt
asked_now s h now c is_in later wanted ready (WaitUntil t) right = both_ways (is_ready s h now true c) (right.not_now later c) ready
asked_now s h now c is_in later wanted ready Nothing right = both_ways (is_wanted s h c) (right c is_in) wanted

-- a chunk that nobody is asked for, and no better holder may have, is ready
ready_free : (s : State) (h now c : ℕ) → ((k d : ℕ) → (s.holder k).asked d ≡ false) → is_wanted s h c ≡ true → has_better s (s.holder h).rank now c ≡ false → is_ready s h now true c ≡ true
ready_free s h now c idle wanted better =
    let free : is_under_way s c ≡ false = any_none_of s.count (λ k. (s.holder k).asked c) (λ k within. idle k c) in
    and_from _ _ (and_from _ _ wanted (or_left (not (is_under_way s c)) (true && is_late s now c) (not_from_false _ free))) (not_from_false _ better)

-- a better one that may be asked for the chunk
record Better (s : State) (h now c : ℕ) : Type 0 where
  k : ℕ
  within : k < s.count
  lower : (s.holder k).rank < (s.holder h).rank
  is_in : is_left_out s.policy (s.holder k) ≡ false
  later : (s.holder k).later ≤ now
  wanted : is_wanted s k c ≡ true

better_one : (s : State) (h now c : ℕ) → ((k d : ℕ) → (s.holder k).asked d ≡ false) → is_wanted s h c ≡ true → has_better s (s.holder h).rank now c ≡ true → Better s h now c
better_one s h now c idle wanted worse =
    let rank = (s.holder h).rank in
    let f = any_found s.count (λ k. is_better s.policy now rank (s.holder k) && may_have (s.holder k) c) worse in
    let k = f.0 in
    let x = s.holder k in
    let both = and_parts (is_better s.policy now rank x) (may_have x c) f.2 in
    let three = and_parts (nat_lt x.rank rank && not (is_left_out s.policy x)) (nat_le x.later now) both.0 in
    let two = and_parts (nat_lt x.rank rank) (not (is_left_out s.policy x)) three.0 in
    let lacking = (and_parts (s.is_open c) (may_have (s.holder h) c) (and_parts _ _ (and_parts _ _ wanted).0).0).0 in
    record {
      k = k;
      within = f.1;
      lower = ltb-true x.rank rank two.0;
      is_in = not-true _ two.1;
      later = leb-true x.later now three.1;
      wanted = and_from _ _ (and_from _ _ (and_from (s.is_open c) (may_have x c) lacking both.1) (not_from_false _ (idle k c))) (and_parts _ _ wanted).1;
    }

-- of those that may give the chunk now, one of the lowest rank is asked
lowest : (most : ℕ) (s : State) (h now c : ℕ) → (s.holder h).rank ≤ most → h < s.count → ((k d : ℕ) → (s.holder k).asked d ≡ false)
    → is_left_out s.policy (s.holder h) ≡ false → (s.holder h).later ≤ now → is_wanted s h c ≡ true
    → (k : ℕ) × (k < s.count) × ((answer : Next) → IsRightAnswer s k now answer → IfFetch answer (λ first count. Unit {0}))
lowest zero s h now c ranked within idle is_in later wanted = elim (cases_Bool (has_better s (s.holder h).rank now c)) [
  | inr best ↦ (h, within, asked_now s h now c is_in later wanted (ready_free s h now c idle wanted best))
  | inl worse ↦ (let b = better_one s h now c idle wanted worse in absurd (omega (arith, b.lower)))
]
lowest (suc most) s h now c ranked within idle is_in later wanted = elim (cases_Bool (has_better s (s.holder h).rank now c)) [
  | inr best ↦ (h, within, asked_now s h now c is_in later wanted (ready_free s h now c idle wanted best))
  | inl worse ↦ (let b = better_one s h now c idle wanted worse in lowest most s b.k now c (omega (arith, b.lower)) b.within idle b.is_in b.later b.wanted)
]

stuck : NeverStuck
stuck s h now c = lowest (s.holder h).rank s h now c (omega arith)

pub returns : goal.returns
returns c = λ s h now k within idle is_in later wanted. stuck s h now k within idle is_in later wanted

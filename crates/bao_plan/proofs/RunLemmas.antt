-- Sets of chunks after a run is put in or taken out.
use Rattle.std.proofs.Common.{◌≡◌, ℕ, zero, suc, ◌+◌, ◌/◌, ◌%◌, ◌^◌, ◌<◌, ◌≤◌, ◌==◌, nat_lt, List, [], ◌∷◌, length, slice_get, slice_index_or, get_or, subst, ◌-◌, Option, Bor, None, Some, Bool, true, false, not, ◌&&◌, ◌||◌, cond, refl, sym, ap, ◌∙◌, arith, inl, inr, min, w64}
use Rattle.std.specs.List.{insert, remove}
use Rattle.std.proofs.lemmas.List.{get_or_default}
use Rattle.std.specs.List.Sorted.{IsNonDecreasingBy}
use Rattle.std.proofs.lemmas.List.Sorted.{IsNonDecreasingBy-insert}
use Rattle.std.proofs.lemmas.List.Edits.{get_or-insert_above, get_or-insert_at, get_or-insert_below, length-insert}
use Rattle.std.specs.Option.{IfSome, is_some, option_copied}
use Rattle.std.proofs.lemmas.Option.{slice_get_past, slice_get_read}
use Rattle.std.specs.Int.{bit_not}
use Rattle.std.specs.Int.Bits.{bit_and, bit_or}
use Rattle.std.proofs.lemmas.Bool.Decides.{nat_tests}
use Rattle.std.proofs.lemmas.Bool.{cases_eq, cases_lt, eq-eqb, ne_eqb}
use Rattle.bao_plan.specs.declared.runs.Run.{Run}
use Rattle.bao_plan.specs.Sets.{IsRunOf, contains, has_bit, in_mask, in_range, index_of, mask_at}
use Rattle.bao_plan.proofs.Bits.{has_bit-and, has_bit-not, has_bit-ones, has_bit-or, has_bit-zero}

abbrev pub run : ℕ → ℕ → Run
run end mask = record { end = end; mask = mask }

pub not_below : (m n : ℕ) → n ≤ m → nat_lt m n ≡ false
not_below m n le = grind (arith, nat_tests)

pub is_below : (m n : ℕ) → m < n → nat_lt m n ≡ true
is_below m n lt = grind (arith, nat_tests)

-- a run that ends at the group, with the mask of those that follow
split_head : (group g end m rest : ℕ) → group < end → cond (nat_lt g group) m (cond (nat_lt g end) m rest) ≡ cond (nat_lt g end) m rest
split_head group g end m rest below = grind (arith, nat_tests)

split_none : (group g z : ℕ) → cond (nat_lt g group) z z ≡ z
split_none group g z = grind (arith, nat_tests)

pub split_same : (runs : List Run) (group g : ℕ) → mask_at (insert runs (index_of runs group) (run group (mask_at runs group))) g ≡ mask_at runs g
split_same [] group g = split_none group g 0
split_same (r ∷ runs) group g = elim (cases_lt group r.end) [
  | inl below ↦ ap (λ b. mask_at (insert (r ∷ runs) (cond b 0 (suc (index_of runs group))) (run group (cond b r.mask (mask_at runs group)))) g) (is_below group r.end below)
      ∙ split_head group g r.end r.mask (mask_at runs g) below
  | inr past ↦ ap (λ b. mask_at (insert (r ∷ runs) (cond b 0 (suc (index_of runs group))) (run group (cond b r.mask (mask_at runs group)))) g) (not_below group r.end past)
      ∙ ap (λ m. cond (nat_lt g r.end) r.mask m) (split_same runs group g)
]

-- and then one of the group alone, with another mask
put_head : (group g end m mask rest : ℕ) → group < end → cond (nat_lt g group) m (cond (nat_lt g (group + 1)) mask (cond (nat_lt g end) m rest)) ≡ cond (g == group) mask (cond (nat_lt g end) m rest)
put_head group g end m mask rest below = grind (arith, nat_tests)

put_none : (group g mask z : ℕ) → cond (nat_lt g group) z (cond (nat_lt g (group + 1)) mask z) ≡ cond (g == group) mask z
put_none group g mask z = grind (arith, nat_tests)

put_behind : (group g end m mask rest : ℕ) → end ≤ group → cond (nat_lt g end) m (cond (g == group) mask rest) ≡ cond (g == group) mask (cond (nat_lt g end) m rest)
put_behind group g end m mask rest past = grind (arith, nat_tests)

pub put_here : (runs : List Run) (group g mask : ℕ)
    → mask_at (insert (insert runs (index_of runs group) (run group (mask_at runs group))) (suc (index_of runs group)) (run (group + 1) mask)) g ≡ cond (g == group) mask (mask_at runs g)
put_here [] group g mask = put_none group g mask 0
put_here (r ∷ runs) group g mask = elim (cases_lt group r.end) [
  | inl below ↦ ap (λ b. mask_at (insert (insert (r ∷ runs) (cond b 0 (suc (index_of runs group))) (run group (cond b r.mask (mask_at runs group)))) (suc (cond b 0 (suc (index_of runs group)))) (run (group + 1) mask)) g) (is_below group r.end below)
      ∙ put_head group g r.end r.mask mask (mask_at runs g) below
  | inr past ↦ ap (λ b. mask_at (insert (insert (r ∷ runs) (cond b 0 (suc (index_of runs group))) (run group (cond b r.mask (mask_at runs group)))) (suc (cond b 0 (suc (index_of runs group)))) (run (group + 1) mask)) g) (not_below group r.end past)
      ∙ (ap (λ m. cond (nat_lt g r.end) r.mask m) (put_here runs group g mask) ∙ put_behind group g r.end r.mask mask (mask_at runs g) past)
]

-- a run that ends no later than the one before it, or at 0
empty_head : (g end m next n rest : ℕ) → next ≤ end → cond (nat_lt g end) m rest ≡ cond (nat_lt g end) m (cond (nat_lt g next) n rest)
empty_head g end m next n rest le = grind (arith, nat_tests)

pub next_empty : (runs : List Run) (i g : ℕ) (x y : Run) → slice_get runs i ≡ Some x → slice_get runs (suc i) ≡ Some y → y.end ≤ x.end → mask_at (remove runs (suc i)) g ≡ mask_at runs g
next_empty [] i g x y is next le = absurd (cc)
next_empty (r ∷ []) zero g x y is next le = absurd (cc)
next_empty (r ∷ s ∷ runs) zero g x y is next le = let a : r ≡ x = cc in let b : s ≡ y = cc in
    empty_head g r.end r.mask s.end s.mask (mask_at runs g) (omega (arith, ap (λ (z : Run). z.end) a, ap (λ (z : Run). z.end) b, le))
next_empty (r ∷ runs) (suc i) g x y is next le = ap (λ m. cond (nat_lt g r.end) r.mask m) (next_empty runs i g x y is next le)

-- one with the mask of the next
same_head : (g end m next n rest : ℕ) → end ≤ next → m ≡ n → cond (nat_lt g next) n rest ≡ cond (nat_lt g end) m (cond (nat_lt g next) n rest)
same_head g end m next n rest le same = grind (arith, nat_tests)

pub next_same : (runs : List Run) (i g : ℕ) (x y : Run) → slice_get runs i ≡ Some x → slice_get runs (suc i) ≡ Some y → x.end ≤ y.end → x.mask ≡ y.mask → mask_at (remove runs i) g ≡ mask_at runs g
next_same [] i g x y is next le same = absurd (cc)
next_same (r ∷ []) zero g x y is next le same = absurd (cc)
next_same (r ∷ s ∷ runs) zero g x y is next le same = let a : r ≡ x = cc in let b : s ≡ y = cc in
    same_head g r.end r.mask s.end s.mask (mask_at runs g) (omega (arith, ap (λ (z : Run). z.end) a, ap (λ (z : Run). z.end) b, le)) (ap (λ (z : Run). z.mask) a ∙ (same ∙ sym (ap (λ (z : Run). z.mask) b)))
next_same (r ∷ runs) (suc i) g x y is next le same = ap (λ m. cond (nat_lt g r.end) r.mask m) (next_same runs i g x y is next le same)

-- the last one, of no chunk
pub last_empty : (runs : List Run) (i g : ℕ) (x : Run) → slice_get runs i ≡ Some x → slice_get runs (suc i) ≡ None → x.mask ≡ 0 → mask_at (remove runs i) g ≡ mask_at runs g
last_empty [] i g x is next none = absurd (cc)
last_empty (r ∷ []) zero g x is next none = let a : r ≡ x = cc in grind (arith, nat_tests)
last_empty (r ∷ s ∷ runs) zero g x is next none = absurd (cc)
last_empty (r ∷ runs) (suc i) g x is next none = ap (λ m. cond (nat_lt g r.end) r.mask m) (last_empty runs i g x is next none)

-- the run that has a group's mask has that of all groups up to its end
pub run_ahead : (runs : List Run) (group : ℕ) (x : Run) → slice_get runs (index_of runs group) ≡ Some x → group < x.end
run_ahead [] group x is = absurd (cc)
run_ahead (r ∷ runs) group x is = elim (cases_lt group r.end) [
  | inl below ↦ (let a : r ≡ x = (let h : Some r ≡ Some x = sym (ap (λ b. slice_get (r ∷ runs) (cond b 0 (suc (index_of runs group)))) (is_below group r.end below)) ∙ is in cc) in omega (arith, ap (λ (z : Run). z.end) a))
  | inr past ↦ run_ahead runs group x (sym (ap (λ b. slice_get (r ∷ runs) (cond b 0 (suc (index_of runs group)))) (not_below group r.end past)) ∙ is)
]

pub run_mask : (runs : List Run) (group g : ℕ) (x : Run) → slice_get runs (index_of runs group) ≡ Some x → group ≤ g → g < x.end → mask_at runs g ≡ x.mask
run_mask [] group g x is from below = absurd (cc)
run_mask (r ∷ runs) group g x is from to = elim (cases_lt group r.end) [
  | inl below ↦ (let a : r ≡ x = (let h : Some r ≡ Some x = sym (ap (λ b. slice_get (r ∷ runs) (cond b 0 (suc (index_of runs group)))) (is_below group r.end below)) ∙ is in cc) in
      ap (λ b. cond b r.mask (mask_at runs g)) (is_below g r.end (omega (arith, ap (λ (z : Run). z.end) a, to))) ∙ ap (λ (z : Run). z.mask) a)
  | inr past ↦ ap (λ b. cond b r.mask (mask_at runs g)) (not_below g r.end (omega arith))
      ∙ run_mask runs group g x (sym (ap (λ b. slice_get (r ∷ runs) (cond b 0 (suc (index_of runs group)))) (not_below group r.end past)) ∙ is) from to
]

pub none_mask : (runs : List Run) (group g : ℕ) → slice_get runs (index_of runs group) ≡ None → group ≤ g → mask_at runs g ≡ 0
none_mask [] group g is from = refl
none_mask (r ∷ runs) group g is from = elim (cases_lt group r.end) [
  | inl below ↦ absurd (let h : Some r ≡ None = sym (ap (λ b. slice_get (r ∷ runs) (cond b 0 (suc (index_of runs group)))) (is_below group r.end below)) ∙ is in cc)
  | inr past ↦ ap (λ b. cond b r.mask (mask_at runs g)) (not_below g r.end (omega arith))
      ∙ none_mask runs group g (sym (ap (λ b. slice_get (r ∷ runs) (cond b 0 (suc (index_of runs group)))) (not_below group r.end past)) ∙ is) from
]

-- and which run that is, found from the front
pub index_next : (r : Run) (runs : List Run) (group : ℕ) → r.end ≤ group → index_of (r ∷ runs) group ≡ suc (index_of runs group)
index_next r runs group past = ap (λ b. cond b 0 (suc (index_of runs group))) (not_below group r.end past)

pub index_found : (r : Run) (runs : List Run) (group : ℕ) → group < r.end → index_of (r ∷ runs) group ≡ 0
index_found r runs group below = ap (λ b. cond b 0 (suc (index_of runs group))) (is_below group r.end below)

pub index_is : (runs : List Run) (i group : ℕ) → i ≤ length runs → ((k : ℕ) (d : Run) → k < i → (slice_index_or runs k d).end ≤ group) → ((d : Run) → i < length runs → group < (slice_index_or runs i d).end) → index_of runs group ≡ i
index_is [] zero group most below above = refl
index_is [] (suc i) group most below above = absurd (omega arith)
index_is (r ∷ runs) zero group most below above = index_found r runs group (above r (omega arith))
index_is (r ∷ runs) (suc i) group most below above = index_next r runs group (below 0 r (omega arith)) ∙ ap suc (index_is runs i group (omega arith) (λ k d less. below (suc k) d (omega arith)) (λ d less. above d (omega arith)))

pub index_most : (runs : List Run) (group : ℕ) → index_of runs group ≤ length runs
index_most [] group = omega arith
index_most (r ∷ runs) group = elim (cases_lt group r.end) [
  | inl below ↦ omega (arith, index_found r runs group below)
  | inr past ↦ omega (arith, index_next r runs group past, index_most runs group)
]

-- what is before it ends no later than the group begins, and what is behind it ends later
pub before_index : (runs : List Run) (group k : ℕ) (d : Run) → k < index_of runs group → (slice_index_or runs k d).end ≤ group
before_index [] group k d less = absurd (omega arith)
before_index (r ∷ runs) group zero d less = elim (cases_lt group r.end) [
  | inl below ↦ absurd (omega (arith, index_found r runs group below))
  | inr past ↦ past
]
before_index (r ∷ runs) group (suc k) d less = elim (cases_lt group r.end) [
  | inl below ↦ absurd (omega (arith, index_found r runs group below))
  | inr past ↦ before_index runs group k d (omega (arith, index_next r runs group past))
]

pub at_index : (runs : List Run) (group : ℕ) (d : Run) → index_of runs group < length runs → group < (slice_index_or runs (index_of runs group) d).end
at_index [] group d less = absurd (omega arith)
at_index (r ∷ runs) group d less = elim (cases_lt group r.end) [
  | inl below ↦ subst (λ i. group < (slice_index_or (r ∷ runs) i d).end) (sym (index_found r runs group below)) below
  | inr past ↦ subst (λ i. group < (slice_index_or (r ∷ runs) i d).end) (sym (index_next r runs group past)) (at_index runs group d (omega (arith, index_next r runs group past)))
]

abbrev pub AreSorted : List Run → Type 0
AreSorted runs = IsNonDecreasingBy (λ (r : Run). r.end) runs

pub from_index : (runs : List Run) (group k : ℕ) (d : Run) → AreSorted runs → index_of runs group ≤ k → k < length runs → group < (slice_index_or runs k d).end
from_index runs group k d sorted from within = omega (arith, at_index runs group d (omega arith), sorted (index_of runs group) k d from within)

pub sorted_either : (b : Bool) (xs ys : List Run) → AreSorted xs → AreSorted ys → AreSorted (cond b xs ys)
sorted_either true xs ys x y = x
sorted_either false xs ys x y = y

-- what is before a run that ends no later than the group begins ends no later either, and what is behind one that ends later ends later
pub before_middle : (runs : List Run) (i k group : ℕ) (x d : Run) → AreSorted runs → x ≡ slice_index_or runs i x → x.end ≤ group → i < length runs → k ≤ i → (slice_index_or runs k d).end ≤ group
before_middle runs i k group x d sorted is past within le =
    omega (arith, ap (λ (z : Run). z.end) is, ap (λ (z : Run). z.end) (get_or_default runs k d x (omega arith)), sorted k i x le within)

pub from_middle : (runs : List Run) (i k group : ℕ) (x d : Run) → AreSorted runs → x ≡ slice_index_or runs i x → group < x.end → k < length runs → i ≤ k → group < (slice_index_or runs k d).end
from_middle runs i k group x d sorted is below within le =
    omega (arith, ap (λ (z : Run). z.end) is, ap (λ (z : Run). z.end) (get_or_default runs k d x within), sorted i k x le within)

-- the two runs that are put in for a group
pub sorted_begun : (runs : List Run) (group m : ℕ) → AreSorted runs → AreSorted (insert runs (index_of runs group) (run group m))
sorted_begun runs group m sorted = IsNonDecreasingBy-insert (λ (r : Run). r.end) runs (index_of runs group) (run group m) sorted (index_most runs group)
    (λ k d less. before_index runs group k d less) (λ k d from within. omega (arith, from_index runs group k d sorted from within))

k_is : (k i : ℕ) → i ≤ k → k < suc i → k ≡ i
k_is k i from less = omega arith

pub sorted_put : (runs : List Run) (group m mask : ℕ) → AreSorted runs → AreSorted (insert (insert runs (index_of runs group) (run group m)) (suc (index_of runs group)) (run (group + 1) mask))
sorted_put runs group m mask sorted =
    let i = index_of runs group in
    let most = index_most runs group in
    let len = length-insert runs i (run group m) most in
    IsNonDecreasingBy-insert (λ (r : Run). r.end) (insert runs i (run group m)) (suc i) (run (group + 1) mask) (sorted_begun runs group m sorted) (omega (arith, len, most))
    (λ k d less. elim (cases_lt k i) [
      | inl before ↦ omega (arith, ap (λ (z : Run). z.end) (get_or-insert_below runs i (run group m) d k before most), before_index runs group k d before)
      | inr here ↦ omega (arith, ap (λ (z : Run). z.end) (ap (λ n. get_or (insert runs i (run group m)) n d) (k_is k i here less) ∙ get_or-insert_at runs i (run group m) d most))
    ])
    (λ k d from within.
    let j : ℕ = k - 1 in
    let e : k ≡ j + 1 = omega (arith, from) in
    omega (
      arith,
      ap (λ (z : Run). z.end) (ap (λ n. get_or (insert runs i (run group m)) n d) e ∙ get_or-insert_above runs i (run group m) d j (omega (arith, from)) most),
      from_index runs group j d sorted (omega (arith, from)) (omega (arith, within, len, from)),
    ))

pub mask_found : (runs : List Run) (group : ℕ) (x : Run) → slice_get runs (index_of runs group) ≡ Some x → x.mask ≡ mask_at runs group
mask_found runs group x is = sym (run_mask runs group group x is (omega arith) (run_ahead runs group x is))

-- what a read of a list answers
pub nth_is : (runs : List Run) (i : ℕ) (r : Option (Bor Run)) → is_some r ≡ nat_lt i (length runs) → IfSome r (λ x. x.now ≡ slice_index_or runs i x.now) → option_copied r ≡ slice_get runs i
nth_is runs i None none is = sym (slice_get_past runs i (grind (arith, nat_tests)))
nth_is runs i (Some x) some is = sym (slice_get_read runs (length runs) i x.now refl (grind (arith, nat_tests)) is)

-- all groups below one, and of that one a mask
pub contains_below : (whole mask end c : ℕ) → whole ≡ end / 64 → ((k : ℕ) → k / 64 ≡ whole → has_bit mask (k % 64) ≡ nat_lt k end) → contains (run whole 18446744073709551615 ∷ run (whole + 1) mask ∷ []) c ≡ nat_lt c end
contains_below whole mask end c is part = elim (cases_lt (c / 64) whole) [
  | inl below ↦ ap (λ b. has_bit (cond b 18446744073709551615 (cond (nat_lt (c / 64) (whole + 1)) mask 0)) (c % 64)) (is_below (c / 64) whole below)
      ∙ (has_bit-ones 64 (c % 64) ∙ (is_below (c % 64) 64 (omega arith) ∙ sym (is_below c end (omega arith))))
  | inr from ↦ ap (λ b. has_bit (cond b 18446744073709551615 (cond (nat_lt (c / 64) (whole + 1)) mask 0)) (c % 64)) (not_below (c / 64) whole from)
      ∙ (elim (cases_lt (c / 64) (whole + 1)) [
        | inl here ↦ ap (λ b. has_bit (cond b mask 0) (c % 64)) (is_below (c / 64) (whole + 1) here) ∙ part c (omega arith)
        | inr past ↦ ap (λ b. has_bit (cond b mask 0) (c % 64)) (not_below (c / 64) (whole + 1) past) ∙ (has_bit-zero (c % 64) ∙ sym (not_below c end (omega arith)))
      ])
]

-- the masks of a range's groups
pub in_range_by : (first count c : ℕ) → (nat_lt c (first + count) && not (nat_lt c first)) ≡ in_range first count c
in_range_by first count c = grind (arith, nat_tests)

-- what two runs have
pub run_and : (group a b m n : ℕ) (p q : ℕ → Bool) → IsRunOf group (run a m) p → IsRunOf group (run b n) q → IsRunOf group (run (min a b) (bit_and m n)) (λ c. p c && q c)
run_and group a b m n p q x y = record {
  ahead = omega (arith, x.ahead, y.ahead);
  bits = λ c from to. has_bit-and m n (c % 64) ∙ (ap (λ t. t && has_bit n (c % 64)) (x.bits c from (omega arith)) ∙ ap (λ t. p c && t) (y.bits c from (omega arith)));
}

pub run_or : (group a b m n : ℕ) (p q : ℕ → Bool) → IsRunOf group (run a m) p → IsRunOf group (run b n) q → IsRunOf group (run (min a b) (bit_or m n)) (λ c. p c || q c)
run_or group a b m n p q x y = record {
  ahead = omega (arith, x.ahead, y.ahead);
  bits = λ c from to. has_bit-or m n (c % 64) ∙ (ap (λ t. t || has_bit n (c % 64)) (x.bits c from (omega arith)) ∙ ap (λ t. p c || t) (y.bits c from (omega arith)));
}

pub run_others : (group a m : ℕ) (p : ℕ → Bool) → m < 2 ^ 64 → IsRunOf group (run a m) p → IsRunOf group (run a (bit_not w64 m)) (λ c. not (p c))
run_others group a m p small x = record {
  ahead = x.ahead;
  bits = λ c from to. has_bit-not m (c % 64) small (omega arith) ∙ ap not (x.bits c from to);
}

pub run_is : (group : ℕ) (x : Run) (p q : ℕ → Bool) → ((c : ℕ) → p c ≡ q c) → IsRunOf group x p → IsRunOf group x q
run_is group x p q same is = record { ahead = is.ahead; bits = λ c from to. is.bits c from to ∙ same c }

-- an empty run, of a test that nothing passes that the run's test refuses
pub run_none : (group : ℕ) (x : Run) (p q : ℕ → Bool) → IsRunOf group x p → x.mask ≡ 0 → ((c : ℕ) → p c ≡ false → q c ≡ false) → IsRunOf group x q
run_none group x p q is none so = record {
  ahead = is.ahead;
  bits = λ c from to. ap (λ m. has_bit m (c % 64)) none ∙ (has_bit-zero (c % 64) ∙ sym (so c (sym (is.bits c from to) ∙ (ap (λ m. has_bit m (c % 64)) none ∙ has_bit-zero (c % 64)))));
}

-- a run of a test that is the same on its groups
pub run_within : (group : ℕ) (x : Run) (p q : ℕ → Bool) → IsRunOf group x p → ((c : ℕ) → group ≤ c / 64 → c / 64 < x.end → p c ≡ q c) → IsRunOf group x q
run_within group x p q is same = record { ahead = is.ahead; bits = λ c from to. is.bits c from to ∙ same c from to }

-- a set after the mask of a group was changed
pub masked_or : (old new : List Run) (group mask : ℕ) → ((g : ℕ) → mask_at new g ≡ cond (g == group) (bit_or (mask_at old group) mask) (mask_at old g)) → (c : ℕ) → contains new c ≡ (contains old c || in_mask group mask c)
masked_or old new group mask is c = grind (arith, nat_tests, is (c / 64), has_bit-or)

pub masked_and_not : (old new : List Run) (group mask : ℕ) → mask < 2 ^ 64 → ((g : ℕ) → mask_at new g ≡ cond (g == group) (bit_and (mask_at old group) (bit_not w64 mask)) (mask_at old g)) → (c : ℕ) → contains new c ≡ (contains old c && not (in_mask group mask c))
masked_and_not old new group mask small is c = grind (arith, nat_tests, is (c / 64), has_bit-and, has_bit-not)

pub masked_same : (old new : List Run) → ((g : ℕ) → mask_at new g ≡ mask_at old g) → (c : ℕ) → contains new c ≡ contains old c
masked_same old new is c = ap (λ m. has_bit m (c % 64)) (is (c / 64))

-- a range, group after group
pub masked_range : (first count group mask c : ℕ) → ((k : ℕ) → k / 64 ≡ group → has_bit mask (k % 64) ≡ in_range first count k) → in_mask group mask c ≡ ((c / 64 == group) && in_range first count c)
masked_range first count group mask c is = elim (cases_eq (c / 64) group) [
  | inl e ↦ ap (λ b. b && has_bit mask (c % 64)) (eq-eqb (c / 64) group e) ∙ (is c e ∙ sym (ap (λ b. b && in_range first count c) (eq-eqb (c / 64) group e)))
  | inr ne ↦ ap (λ b. b && has_bit mask (c % 64)) (ne_eqb (c / 64) group ne) ∙ sym (ap (λ b. b && in_range first count c) (ne_eqb (c / 64) group ne))
]

pub step_or : (b r : Bool) (q group : ℕ) → ((b || (r && nat_lt q group)) || ((q == group) && r)) ≡ (b || (r && nat_lt q (group + 1)))
step_or true r q group = refl
step_or false true q group = grind (arith, nat_tests)
step_or false false q group = grind (arith, nat_tests)

pub step_and_not : (b r : Bool) (q group : ℕ) → ((b && not (r && nat_lt q group)) && not ((q == group) && r)) ≡ (b && not (r && nat_lt q (group + 1)))
step_and_not false r q group = refl
step_and_not true true q group = grind (arith, nat_tests)
step_and_not true false q group = grind (arith, nat_tests)

pub range_none : (first count c : ℕ) → (in_range first count c && nat_lt (c / 64) (first / 64)) ≡ false
range_none first count c = grind (arith, nat_tests)

pub range_all : (first count end c : ℕ) → (c < first + count → c / 64 < end) → (in_range first count c && nat_lt (c / 64) end) ≡ in_range first count c
range_all first count end c is = grind (arith, nat_tests)

pub or-false : (b : Bool) → (b || false) ≡ b
or-false true = refl
or-false false = refl

pub and-true : (b : Bool) → (b && not false) ≡ b
and-true true = refl
and-true false = refl

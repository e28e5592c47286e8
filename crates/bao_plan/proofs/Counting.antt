-- How many numbers below n pass a test, and sums over the numbers below n.
use Rattle.std.proofs.Common.{◌≡◌, ℕ, zero, suc, ◌+◌, ◌<◌, ◌≤◌, Bool, true, false, refl, sym, ap, ◌∙◌, add-one, arith, inl, inr, subst}
use Rattle.std.proofs.lemmas.Bool.{cases_eq}

abbrev pub bit : Bool → ℕ
bit true = 1
bit false = 0

pub count_below : ℕ → (ℕ → Bool) → ℕ
count_below zero p = 0
count_below (suc n) p = count_below n p + bit (p n)

pub sum_below : ℕ → (ℕ → ℕ) → ℕ
sum_below zero f = 0
sum_below (suc n) f = sum_below n f + f n

bit_le : (a b : Bool) → (a ≡ true → b ≡ true) → bit a ≤ bit b
bit_le true b h = subst (λ t. 1 ≤ bit t) (sym (h refl)) (omega arith)
bit_le false b h = omega arith

pub count_le : (n : ℕ) (p q : ℕ → Bool) → ((c : ℕ) → c < n → p c ≡ true → q c ≡ true) → count_below n p ≤ count_below n q
unfolding count_below
count_le zero p q h = omega arith
count_le (suc n) p q h =
    let rest = count_le n p q (λ c below. h c (omega arith)) in
    let here = bit_le (p n) (q n) (h n (omega arith)) in
    omega (arith, rest, here)

bit_of : (b v : Bool) → b ≡ v → bit b ≡ bit v
bit_of b v e = ap bit e

-- strictly, where a number passes the one test and not the other
pub count_lt : (n : ℕ) (p q : ℕ → Bool) (i : ℕ) → i < n → p i ≡ false → q i ≡ true → ((c : ℕ) → c < n → p c ≡ true → q c ≡ true) → count_below n p + 1 ≤ count_below n q
unfolding count_below
count_lt zero p q i below unlike is h = absurd (omega arith)
count_lt (suc n) p q i below unlike is h = elim (cases_eq i n) [
  | inl e ↦ (let rest = count_le n p q (λ c within. h c (omega arith)) in
      let none = bit_of (p n) false (ap p (sym e) ∙ unlike) in
      let one = bit_of (q n) true (ap q (sym e) ∙ is) in
      omega (arith, rest, none, one))
  | inr other ↦ (let rest = count_lt n p q i (omega arith) unlike is (λ c within. h c (omega arith)) in
      let here = bit_le (p n) (q n) (h n (omega arith)) in
      omega (arith, rest, here))
]

bit_most : (b : Bool) → bit b ≤ 1
bit_most true = omega arith
bit_most false = omega arith

pub count_most : (n : ℕ) (p : ℕ → Bool) → count_below n p ≤ n
unfolding count_below
count_most zero p = omega arith
count_most (suc n) p = let rest = count_most n p in let here = bit_most (p n) in omega (arith, rest, here)

pub sum_none : (f : ℕ → ℕ) → sum_below 0 f ≡ 0
unfolding sum_below
sum_none f = refl

pub sum_more : (n : ℕ) (f : ℕ → ℕ) → sum_below (n + 1) f ≡ sum_below n f + f n
unfolding sum_below
sum_more n f = rw add-one refl

pub sum_le : (n : ℕ) (f g : ℕ → ℕ) → ((k : ℕ) → k < n → g k ≤ f k) → sum_below n g ≤ sum_below n f
unfolding sum_below
sum_le zero f g h = omega arith
sum_le (suc n) f g h = let rest = sum_le n f g (λ k below. h k (omega arith)) in let here = h n (omega arith) in omega (arith, rest, here)

-- where one of the numbers differs by that, and no other grows
pub sum_one : (n : ℕ) (f g : ℕ → ℕ) (h d e : ℕ) → h < n → ((k : ℕ) → (k ≡ h → ⊥) → g k ≤ f k) → g h + d ≤ f h + e → sum_below n g + d ≤ sum_below n f + e
unfolding sum_below
sum_one zero f g h d e below others here = absurd (omega arith)
sum_one (suc n) f g h d e below others here = elim (cases_eq h n) [
  | inl is ↦ (let rest = sum_le n f g (λ k within. others k (λ same. omega (arith, same, is, within))) in
      let last : g n + d ≤ f n + e = subst (λ m. g m + d ≤ f m + e) is here in
      omega (arith, rest, last))
  | inr other ↦ (let rest = sum_one n f g h d e (omega arith) others here in
      let last = others n (λ same. other (sym same)) in
      omega (arith, rest, last))
]

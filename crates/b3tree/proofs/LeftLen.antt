-- `left_len` is what `IsLeftLen` says, and nothing else is.
use Rattle.std.proofs.Common.{◌≡◌, ℕ, zero, suc, ◌+◌, ◌-◌, ◌*◌, ◌/◌, ◌^◌, ◌<◌, ◌≤◌, refl, ◌∙◌, arith, inl, inr, pow_pos}
use Rattle.std.proofs.lemmas.Bool.{cases_lt, lt-ltb, le-ltb}
use Rattle.std.proofs.Math.Pow.{pow_mono}
use Rattle.b3tree.specs.Tree.{IsLeftLen, largest_below, left_len}

-- a power of two is above its exponent
pow_above : (k : ℕ) → k < 2 ^ k
pow_above zero = omega arith
pow_above (suc k) = let before : k < 2 ^ k = pow_above k in omega arith

largest_below_taken : (n k : ℕ) → 1024 * 2 ^ suc k < n → largest_below n (suc k) ≡ 1024 * 2 ^ suc k
unfolding largest_below
largest_below_taken n k h = rw (lt-ltb _ _ h) refl

largest_below_left : (n k : ℕ) → n ≤ 1024 * 2 ^ suc k → largest_below n (suc k) ≡ largest_below n k
unfolding largest_below
largest_below_left n k h = rw (le-ltb _ _ h) refl

largest_below_zero : (n : ℕ) → largest_below n 0 ≡ 1024
unfolding largest_below
largest_below_zero n = refl

largest_below_form : (n k : ℕ) → (j : ℕ) × (largest_below n k ≡ 1024 * 2 ^ j)
largest_below_form n zero = (0, largest_below_zero n)
largest_below_form n (suc k) = elim (cases_lt (1024 * 2 ^ suc k) n) [
  | inl taken ↦ (suc k, largest_below_taken n k taken)
  | inr left ↦ let before = largest_below_form n k in (before.0, largest_below_left n k left ∙ before.1)
]

largest_below-lt : (n k : ℕ) → 1024 < n → largest_below n k < n
largest_below-lt n zero h = rw (largest_below_zero n) h
largest_below-lt n (suc k) h = elim (cases_lt (1024 * 2 ^ suc k) n) [
  | inl taken ↦ rw (largest_below_taken n k taken) taken
  | inr left ↦ rw (largest_below_left n k left) (largest_below-lt n k h)
]

largest_below_largest : (n k j : ℕ) → j ≤ k → 1024 * 2 ^ j < n → 1024 * 2 ^ j ≤ largest_below n k
largest_below_largest n zero j le h = let e : j ≡ 0 = omega arith in rw (largest_below_zero n, e) (omega arith)
largest_below_largest n (suc k) j le h = elim (cases_lt (1024 * 2 ^ suc k) n) [
  | inl taken ↦ let m : 2 ^ j ≤ 2 ^ suc k = pow_mono le in rw (largest_below_taken n k taken) (omega arith)
  | inr left ↦
      elim (cases_lt j (suc k)) [
        | inl lt ↦ rw (largest_below_left n k left) (largest_below_largest n k j (omega arith) h)
        | inr ge ↦
            let m : 2 ^ suc k ≤ 2 ^ j = pow_mono ge in
            absurd (omega arith)
      ]
]

-- the function has the property
pub left_len-IsLeftLen : (n : ℕ) → 1024 < n → IsLeftLen n (left_len n)
unfolding left_len
left_len-IsLeftLen n h = record {
  form = largest_below_form n n;
  below = largest_below-lt n n h;
  largest = λ k lt. largest_below_largest n n k (let above : k < 2 ^ k = pow_above k in omega arith) lt;
}

-- no two lengths have the property
pub IsLeftLen_unique : (n l m : ℕ) → IsLeftLen n l → IsLeftLen n m → l ≡ m
IsLeftLen_unique n l m a b =
    let down : l ≤ m = rw a.form.1 (b.largest a.form.0 (rw (← a.form.1) a.below)) in
    let up : m ≤ l = rw b.form.1 (a.largest b.form.0 (rw (← b.form.1) b.below)) in
    omega arith

-- two parts of one size
pub IsLeftLen_double : (k : ℕ) → IsLeftLen (1024 * 2 ^ k + 1024 * 2 ^ k) (1024 * 2 ^ k)
IsLeftLen_double k =
    let some : 0 < 2 ^ k = pow_pos k in
    record {
      form = (k, refl);
      below = omega arith;
      largest = λ j lt. elim (cases_lt k j) [
        | inl above ↦ let m : 2 ^ suc k ≤ 2 ^ j = pow_mono above in absurd (omega arith)
        | inr at ↦ let m : 2 ^ j ≤ 2 ^ k = pow_mono at in omega arith
      ];
    }

-- more than 2 ^ k chunks, and at most twice as many
pub IsLeftLen_power : (k n : ℕ) → 1024 * 2 ^ k < n → n ≤ 1024 * 2 ^ k + 1024 * 2 ^ k → IsLeftLen n (1024 * 2 ^ k)
IsLeftLen_power k n more most = record {
  form = (k, refl);
  below = more;
  largest = λ j lt. elim (cases_lt k j) [
    | inl above ↦ let m : 2 ^ suc k ≤ 2 ^ j = pow_mono above in absurd (omega arith)
    | inr at ↦ let m : 2 ^ j ≤ 2 ^ k = pow_mono at in omega arith
  ];
}

-- the shift by the logarithm of the whole chunks before the last byte
pub left_len_shifted : (n k : ℕ) → 1024 < n → 2 ^ k ≤ (n - 1) / 1024 → (n - 1) / 1024 < 2 * 2 ^ k → 1024 * 2 ^ k ≡ left_len n
left_len_shifted n k h low high =
    IsLeftLen_unique n (1024 * 2 ^ k) (left_len n)
    (record {
      form = (k, refl);
      below = omega arith;
      largest = λ j lt. elim (cases_lt k j) [
        | inl above ↦ let m : 2 ^ suc k ≤ 2 ^ j = pow_mono above in absurd (omega arith)
        | inr at ↦ let m : 2 ^ j ≤ 2 ^ k = pow_mono at in omega arith
      ];
    })
    (left_len-IsLeftLen n h)

-- A span and a mask are known by what is in them.
use Rattle.std.proofs.Common.{◌≡◌, ◌↔◌, ℕ, zero, suc, ◌^◌, ◌<◌, ◌≤◌, ◌==◌, Bool, refl, sym, ◌∙◌, arith}
use Rattle.std.specs.Int.{bit_at}
use Rattle.std.proofs.lemmas.Nat.Bits.{bit_at-lt, same_from_bits_below}

same_bit : (x y : ℕ) → x < 2 → y < 2 → (x == 1) ≡ (y == 1) → x ≡ y
same_bit zero zero h k e = refl
same_bit zero (suc zero) h k e = cc
same_bit (suc zero) zero h k e = cc
same_bit (suc zero) (suc zero) h k e = refl
same_bit (suc (suc x)) y h k e = absurd (omega (arith, h))
same_bit x (suc (suc y)) h k e = absurd (omega (arith, k))

pub one_mask : (test : ℕ → Bool) (m n : ℕ) → m < 2 ^ 64 → n < 2 ^ 64 → ((i : ℕ) → i < 64 → (bit_at m i == 1) ≡ test i) → ((i : ℕ) → i < 64 → (bit_at n i == 1) ≡ test i) → m ≡ n
one_mask test m n small low a b =
    same_from_bits_below 64 m n small low (λ i h. same_bit (bit_at m i) (bit_at n i) (bit_at-lt m i) (bit_at-lt n i) (a i h ∙ sym (b i h)))

-- the first of a span that isn't empty is in any that has the same in it
within : (P : ℕ → Type 0) (a b c d : ℕ) → a < b → c < d → ((i : ℕ) → P i ↔ ((a ≤ i) × (i < b))) → ((i : ℕ) → P i ↔ ((c ≤ i) × (i < d))) → (c ≤ a) × (b ≤ d)
within P a (suc b) c d some more p q =
    let first = (q a).0 ((p a).1 (omega arith, some)) in
    let last = (q b).0 ((p b).1 (omega (arith, some), omega arith)) in (first.0, omega (arith, last.1))
within P a zero c d some more p q = absurd (omega (arith, some))

pub one_span : (P : ℕ → Type 0) (a b c d : ℕ) → a < b → c < d → ((i : ℕ) → P i ↔ ((a ≤ i) × (i < b))) → ((i : ℕ) → P i ↔ ((c ≤ i) × (i < d))) → (a ≡ c) × (b ≡ d)
one_span P a b c d some more p q =
    let out = within P a b c d some more p q in
    let back = within P c d a b more some q p in (omega (arith, out.0, back.0), omega (arith, out.1, back.1))

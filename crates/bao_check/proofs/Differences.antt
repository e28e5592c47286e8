-- Words that differ nowhere.
use Rattle.std.proofs.Common.{◌≡◌, ◌≤◌, ℕ, zero, suc, List, [], ◌∷◌, slice_index, refl, sym, ap, ◌∙◌, arith}
use Rattle.std.specs.Int.Bits.{bit_or, bit_xor, xor_assoc, xor_self, xor_zero_r}
use Rattle.std.specs.Simd.Lanes.{fold_l}
use Rattle.std.proofs.lemmas.Nat.{le_or_l, le_or_r}

pub or_both : (c a b : ℕ) → c ≡ bit_or a b → c ≡ 0 → (a ≡ 0) × (b ≡ 0)
or_both c a b is none = (omega (arith, le_or_l a b), omega (arith, le_or_r a b))

pub xor_same : (c a b : ℕ) → c ≡ bit_xor a b → c ≡ 0 → a ≡ b
xor_same c a b is none_c =
    let none : bit_xor a b ≡ 0 = sym is ∙ none_c in
    sym (xor_zero_r a) ∙ sym (ap (bit_xor a) none) ∙ sym (xor_assoc a a b) ∙ ap (λ (x : ℕ). bit_xor x b) (xor_self a)

at_each : (f : ℕ → ℕ → ℕ) → ((a b : ℕ) → a ≤ f a b) → ((a b : ℕ) → b ≤ f a b) → (a x : ℕ) (xs : List ℕ) → f a x ≡ 0 → ((j : ℕ) → slice_index xs j ≡ 0) → (j : ℕ) → slice_index (x ∷ xs) j ≡ 0
at_each f l r a x xs is rest zero = omega (arith, r a x)
at_each f l r a x xs is rest (suc j) = rest j

-- a fold that never falls ends at 0 only where all is 0
pub fold_zero : (f : ℕ → ℕ → ℕ) → ((a b : ℕ) → a ≤ f a b) → ((a b : ℕ) → b ≤ f a b) → (a : ℕ) (xs : List ℕ) → fold_l f a xs ≡ 0 → (a ≡ 0) × ((j : ℕ) → slice_index xs j ≡ 0)
fold_zero f l r a [] is = (is, λ j. refl)
fold_zero f l r a (x ∷ xs) is =
    let h = fold_zero f l r (f a x) xs is in
    (omega (arith, l a x, h.0), at_each f l r a x xs h.0 h.1)

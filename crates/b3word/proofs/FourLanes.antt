-- Facts of each of four lanes.
use Rattle.std.proofs.Common.{◌≡◌, ℕ, ◌<◌, ◌-◌, ◌*◌, ◌/◌, ◌%◌, ◌^◌, List, [], ◌∷◌, length, slice_index, bit_or, bit_xor, arith, refl}
use Rattle.std.specs.Simd.Lanes.{zip2}
use Rattle.b3word.specs.Compression.{xor_rotated}
use Rattle.b3word.proofs.EightLanes.{below_four}

-- what holds of each list of four elements
pub four_lanes : (P : List ℕ → Type 0) → ((a b c d : ℕ) → P (a ∷ b ∷ c ∷ d ∷ [])) → (xs : List ℕ) → length xs ≡ 4 → P xs
four_lanes P p (a ∷ b ∷ c ∷ d ∷ []) h = p a b c d
four_lanes P p [] h = absurd (omega arith)
four_lanes P p (a ∷ []) h = absurd (omega arith)
four_lanes P p (a ∷ b ∷ []) h = absurd (omega arith)
four_lanes P p (a ∷ b ∷ c ∷ []) h = absurd (omega arith)
four_lanes P p (a ∷ b ∷ c ∷ d ∷ e ∷ xs) h = absurd (omega arith)

-- two shifts of each lane and an or are a rotation
abbrev Rotates : ℕ → List ℕ → List ℕ → Type 0
Rotates n a b = (j : ℕ) → j < 4
    → slice_index (zip2 bit_or
    (zip2 (λ x k. x / 2 ^ k) (zip2 bit_xor a b) (n ∷ n ∷ n ∷ n ∷ []))
    (zip2 (λ x k. x * 2 ^ k % 2 ^ 32) (zip2 bit_xor a b) ((32 - n) ∷ (32 - n) ∷ (32 - n) ∷ (32 - n) ∷ []))) j
    ≡ xor_rotated (slice_index a j) (slice_index b j) n

pub shifts_rotate : (n : ℕ) → 0 < n → n < 32 → (a : List ℕ) → length a ≡ 4 → (b : List ℕ) → length b ≡ 4 → Rotates n a b
shifts_rotate n low high =
    let right : n % 32 ≡ n = omega arith in
    let left : (32 - n) % 32 ≡ 32 - n = omega arith in
    four_lanes (λ a. (b : List ℕ) → length b ≡ 4 → Rotates n a b) (λ a0 a1 a2 a3.
    four_lanes (Rotates n (a0 ∷ a1 ∷ a2 ∷ a3 ∷ [])) (λ b0 b1 b2 b3.
    below_four _ (rw (right, left) refl) (rw (right, left) refl) (rw (right, left) refl) (rw (right, left) refl)))

-- a row by its words
pub spelled_row : (v : List ℕ) → length v ≡ 4 → v ≡ slice_index v 0 ∷ slice_index v 1 ∷ slice_index v 2 ∷ slice_index v 3 ∷ []
spelled_row = four_lanes _ (λ a b c d. refl)

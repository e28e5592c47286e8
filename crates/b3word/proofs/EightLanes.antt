-- Facts of each of eight lanes.
use Rattle.std.proofs.Common.{◌≡◌, ℕ, zero, suc, ◌<◌, ◌-◌, ◌*◌, ◌/◌, ◌%◌, ◌^◌, List, [], ◌∷◌, length, slice_index, slice_index_or, bit_or, bit_xor, arith, refl, sym}
use denote.Param.Members.{Mut, Called}
use Rattle.std.specs.Array.{IsMapOf}
use Rattle.std.specs.Simd.Lanes.{zip2}
use Rattle.b3word.specs.declared.input.Input.{Input}
use Rattle.b3word.specs.Compression.{xor_rotated}
use Rattle.b3word.specs.Lanes.{lane8}

-- what holds of each of the eight lanes
pub below_eight : (P : ℕ → Type 0) → P 0 → P 1 → P 2 → P 3 → P 4 → P 5 → P 6 → P 7 → (j : ℕ) → j < 8 → P j
below_eight P p0 p1 p2 p3 p4 p5 p6 p7 zero h = p0
below_eight P p0 p1 p2 p3 p4 p5 p6 p7 (suc zero) h = p1
below_eight P p0 p1 p2 p3 p4 p5 p6 p7 (suc (suc zero)) h = p2
below_eight P p0 p1 p2 p3 p4 p5 p6 p7 (suc (suc (suc zero))) h = p3
below_eight P p0 p1 p2 p3 p4 p5 p6 p7 (suc (suc (suc (suc zero)))) h = p4
below_eight P p0 p1 p2 p3 p4 p5 p6 p7 (suc (suc (suc (suc (suc zero))))) h = p5
below_eight P p0 p1 p2 p3 p4 p5 p6 p7 (suc (suc (suc (suc (suc (suc zero)))))) h = p6
below_eight P p0 p1 p2 p3 p4 p5 p6 p7 (suc (suc (suc (suc (suc (suc (suc zero))))))) h = p7
below_eight P p0 p1 p2 p3 p4 p5 p6 p7 (suc (suc (suc (suc (suc (suc (suc (suc n)))))))) h = absurd (omega arith)

-- and of each of the first four
pub below_four : (P : ℕ → Type 0) → P 0 → P 1 → P 2 → P 3 → (j : ℕ) → j < 4 → P j
below_four P p0 p1 p2 p3 zero h = p0
below_four P p0 p1 p2 p3 (suc zero) h = p1
below_four P p0 p1 p2 p3 (suc (suc zero)) h = p2
below_four P p0 p1 p2 p3 (suc (suc (suc zero))) h = p3
below_four P p0 p1 p2 p3 (suc (suc (suc (suc n)))) h = absurd (omega arith)

-- and of each half
pub below_two : (P : ℕ → Type 0) → P 0 → P 1 → (k : ℕ) → k < 2 → P k
below_two P p0 p1 zero h = p0
below_two P p0 p1 (suc zero) h = p1
below_two P p0 p1 (suc (suc n)) h = absurd (omega arith)

-- what holds of each list of eight elements
pub eight_lanes : {A : Type 0} (P : List A → Type 0) → ((a b c d e f g h : A) → P (a ∷ b ∷ c ∷ d ∷ e ∷ f ∷ g ∷ h ∷ []))
    → (xs : List A) → length xs ≡ 8 → P xs
eight_lanes P p (a ∷ b ∷ c ∷ d ∷ e ∷ f ∷ g ∷ h ∷ []) is = p a b c d e f g h
eight_lanes P p [] is = absurd (omega arith)
eight_lanes P p (a ∷ []) is = absurd (omega arith)
eight_lanes P p (a ∷ b ∷ []) is = absurd (omega arith)
eight_lanes P p (a ∷ b ∷ c ∷ []) is = absurd (omega arith)
eight_lanes P p (a ∷ b ∷ c ∷ d ∷ []) is = absurd (omega arith)
eight_lanes P p (a ∷ b ∷ c ∷ d ∷ e ∷ []) is = absurd (omega arith)
eight_lanes P p (a ∷ b ∷ c ∷ d ∷ e ∷ f ∷ []) is = absurd (omega arith)
eight_lanes P p (a ∷ b ∷ c ∷ d ∷ e ∷ f ∷ g ∷ []) is = absurd (omega arith)
eight_lanes P p (a ∷ b ∷ c ∷ d ∷ e ∷ f ∷ g ∷ h ∷ i ∷ xs) is = absurd (omega arith)

-- two shifts of each lane and an or are a rotation
abbrev Rotates : ℕ → List ℕ → List ℕ → Type 0
Rotates n a b = (j : ℕ) → j < 8
    → slice_index (zip2 bit_or
    (zip2 (λ x k. x / 2 ^ k) (zip2 bit_xor a b) (n ∷ n ∷ n ∷ n ∷ n ∷ n ∷ n ∷ n ∷ []))
    (zip2 (λ x k. x * 2 ^ k % 2 ^ 32) (zip2 bit_xor a b) ((32 - n) ∷ (32 - n) ∷ (32 - n) ∷ (32 - n) ∷ (32 - n) ∷ (32 - n) ∷ (32 - n) ∷ (32 - n) ∷ []))) j
    ≡ xor_rotated (slice_index a j) (slice_index b j) n

pub shifts_rotate : (n : ℕ) → 0 < n → n < 32 → (a : List ℕ) → length a ≡ 8 → (b : List ℕ) → length b ≡ 8 → Rotates n a b
shifts_rotate n low high =
    let right : n % 32 ≡ n = omega arith in
    let left : (32 - n) % 32 ≡ 32 - n = omega arith in
    eight_lanes (λ a. (b : List ℕ) → length b ≡ 8 → Rotates n a b) (λ a0 a1 a2 a3 a4 a5 a6 a7.
    eight_lanes (Rotates n (a0 ∷ a1 ∷ a2 ∷ a3 ∷ a4 ∷ a5 ∷ a6 ∷ a7 ∷ [])) (λ b0 b1 b2 b3 b4 b5 b6 b7.
    below_eight _ (rw (right, left) refl) (rw (right, left) refl) (rw (right, left) refl) (rw (right, left) refl) (rw (right, left) refl) (rw (right, left) refl) (rw (right, left) refl) (rw (right, left) refl)))

-- a vector by its lanes
abbrev pub row : List ℕ → List ℕ
row v = slice_index v 0 ∷ slice_index v 1 ∷ slice_index v 2 ∷ slice_index v 3 ∷ slice_index v 4 ∷ slice_index v 5 ∷ slice_index v 6 ∷ slice_index v 7 ∷ []

pub spelled : (v : List ℕ) → length v ≡ 8 → v ≡ row v
spelled = eight_lanes _ (λ a b c d e f g h. refl)

-- the lanes of eight rows
abbrev pub columns : List (List ℕ) → List (List ℕ)
columns rows =
    lane8 0 rows ∷ lane8 1 rows ∷ lane8 2 rows ∷ lane8 3 rows
    ∷ lane8 4 rows ∷ lane8 5 rows ∷ lane8 6 rows ∷ lane8 7 rows ∷ []

pub columns-column : (rows : List (List ℕ)) (j : ℕ) → j < 8 → slice_index_or (columns rows) j [] ≡ lane8 j rows
columns-column rows = below_eight _ refl refl refl refl refl refl refl refl

-- a lane of the columns is a row
pub columns-lane : (rows : List (List ℕ)) → ((j : ℕ) → j < 8 → length (slice_index_or rows j []) ≡ 8) → (j : ℕ) → j < 8
    → lane8 j (columns rows) ≡ slice_index_or rows j []
columns-lane rows eight =
    let lane : (j : ℕ) → j < 8 → row (slice_index_or rows j []) ≡ slice_index_or rows j [] = λ j h. sym (spelled (slice_index_or rows j []) (eight j h)) in
    below_eight _ (lane 0 (omega arith)) (lane 1 (omega arith)) (lane 2 (omega arith)) (lane 3 (omega arith))
    (lane 4 (omega arith)) (lane 5 (omega arith)) (lane 6 (omega arith)) (lane 7 (omega arith))

-- what stands past the end of a list of inputs
abbrev pub blank : Input
blank = record { h = []; m = []; t = 0; b = 0; d = 0 }

-- an element of what an array's `map` makes, where R holds of each call's argument and result
pub mapped-at : {F A B : Type 0} (g : Mut F (A × Unit {0}) B) (f : F) (R : A → B → Type 0) (xs : List A) (ys : List B) (d : A) (e : B) → IsMapOf g f xs ys 8
    → ((p : F) (x : A) (y : B) (q : F) → Called g p (x, tt) y q → R x y) → (j : ℕ) → j < 8 → R (slice_index_or xs j d) (slice_index_or ys j e)
mapped-at g f R xs ys d e items call j h =
    let at = items.at j d e h in
    call at.0 (slice_index_or xs j d) (slice_index_or ys j e) at.1 at.2

-- the same in each lane
pub splat-at : (x j : ℕ) → j < 8 → slice_index (x ∷ x ∷ x ∷ x ∷ x ∷ x ∷ x ∷ x ∷ []) j ≡ x
splat-at x = below_eight _ refl refl refl refl refl refl refl refl

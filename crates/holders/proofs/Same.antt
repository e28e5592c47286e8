-- Bytes that are the same, and a collision that more pieces name.
use Rattle.holders.proofs.Common.{◌≡◌, ◌⊎◌, zero, suc, ℕ, ◌+◌, ◌-◌, ◌<◌, List, length, Some, true, false, slice_get, slice_index, sym, subst, arith, inl, inr, below_more, ext_get_or, get_or_from_slice_get, Fixed, Piece}
use Rattle.holders.specs.Blobs.{HasCollision}
use Rattle.holders.proofs.Common.{bytes_eq, not, cases_Bool, bytes_eq-Decides}

-- the bytes read are the blob's up to some number, or there is a collision
pub both_same : (blob bytes : List ℕ) (P : Type 0) (n : ℕ) → ((i : ℕ) → i < n → slice_get blob (0 + i) ≡ Some (slice_index bytes i)) ⊎ P
    → (slice_get blob (0 + n) ≡ Some (slice_index bytes n)) ⊎ P → ((i : ℕ) → i < suc n → slice_get blob (0 + i) ≡ Some (slice_index bytes i)) ⊎ P
both_same blob bytes P n (inl before) (inl here) = inl (λ i below. below_more _ _ before here i (omega (arith, below)))
both_same blob bytes P n (inl before) (inr pair) = inr pair
both_same blob bytes P n (inr pair) here = inr pair

pub all_same : (blob bytes : List ℕ) (P : Type 0) (n : ℕ) → ((i : ℕ) → i < n → (slice_get blob (0 + i) ≡ Some (slice_index bytes i)) ⊎ P)
    → ((i : ℕ) → i < n → slice_get blob (0 + i) ≡ Some (slice_index bytes i)) ⊎ P
all_same blob bytes P zero each = inl (λ i below. absurd (omega (arith, below)))
all_same blob bytes P (suc n) each =
    both_same blob bytes P n (all_same blob bytes P n (λ i below. each i (omega (arith, below)))) (each n (omega arith))

pub same_bytes : (blob bytes : List ℕ) → length bytes ≡ length blob → ((i : ℕ) → i < length bytes → slice_get blob (0 + i) ≡ Some (slice_index bytes i)) → blob ≡ bytes
same_bytes blob bytes long each =
    ext_get_or 0 blob bytes (sym long) (λ i below.
    let here : 0 + i ≡ i = omega arith in
    get_or_from_slice_get blob i (slice_index bytes i) 0 (subst (λ (k : ℕ). slice_get blob k ≡ Some (slice_index bytes i)) here (each i (omega (arith, below, long)))))

pub pair_wider : (handed wider : Piece → Type 0) → ((piece : Piece) → handed piece → wider piece) → (fixed : Fixed) (blob : List ℕ) → HasCollision handed fixed blob
    → HasCollision wider fixed blob
pair_wider handed wider more fixed blob has = record { piece = has.piece; from = more has.piece has.from; accepted = has.accepted; pair = has.pair }

-- bytes that a test tells apart
pub differs : (xs ys : List ℕ) → true ≡ not (bytes_eq xs ys) → xs ≡ ys → ⊥
differs xs ys apart same = let alike : bytes_eq xs ys ≡ true = (bytes_eq-Decides xs ys).1 same in let no : true ≡ false = rw alike at apart in cc

-- and bytes that it doesn't
pub alike : (xs ys : List ℕ) → false ≡ not (bytes_eq xs ys) → xs ≡ ys
alike xs ys same = elim (cases_Bool (bytes_eq xs ys)) [
  | inl equal ↦ (bytes_eq-Decides xs ys).0 equal
  | inr other ↦ let no : false ≡ true = rw other at same in cc
]

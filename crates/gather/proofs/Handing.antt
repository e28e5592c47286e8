-- Holders that count no fault, and pieces that certify too large a length.
use Rattle.gather.proofs.Common.{◌≡◌, ℕ, ◌≤◌, List, [], ◌∷◌, refl, length, arith, inl, inr, sum_by, sum_by-cons, IsKeyed, accepted_binds, chunk_count, no_room_of, Fixed, Piece, IsBlob}
use Rattle.holders.specs.Blobs.{HasCollision, IsTooLarge}
use Rattle.gather.proofs.Binding.{are_longer}

-- no device of holders that count no fault fails
pub none_failed : {H : Type 0} (count : H → ℕ) → ((holder : H) → count holder ≡ 0) → (holders : List H) → sum_by count holders ≡ 0
none_failed count quiet [] = refl
none_failed count quiet (x ∷ holders) = omega (arith, sum_by-cons count x holders, quiet x, none_failed count quiet holders)

-- a piece that certifies too large a length, where there is room for the blob, exhibits a collision
pub large_pair : (handed : Piece → Type 0) (fixed : Fixed) (blob : List ℕ) → IsKeyed fixed.mode → IsBlob fixed blob → fixed.base ≡ 0 → chunk_count (length blob) ≤ fixed.capacity
    → IsTooLarge handed fixed → HasCollision handed fixed blob
large_pair handed fixed blob keyed is first room large = elim (are_longer accepted_binds handed fixed keyed large blob is) [
  | inl long ↦ absurd (omega (arith, no_room_of fixed (length blob) first long, room))
  | inr pair ↦ pair
]

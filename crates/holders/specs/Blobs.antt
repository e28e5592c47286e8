-- Blobs and the pieces that are accepted under their roots.
use Rattle.std.specs.Prelude.{◌≡◌, ◌⊎◌, ℕ, false, List, length}
use Rattle.b3tree.specs.Hashing.{hash}
use Rattle.b3tree.specs.Valid.{AreBytes}
use Rattle.b3tree.specs.declared.mode.Mode.{Mode}
use Rattle.b3tree.specs.declared.values.Hash.{Hash}
use Rattle.bao_check.specs.Inputs.{NamesCollision}
use Rattle.holders.specs.Pieces.{EndsBlob, IsAcceptedPiece, length_of, places_in}
use Rattle.holders.specs.Room.{has_room}
use Rattle.holders.specs.declared.fixed.Fixed.{Fixed}
use Rattle.holders.specs.declared.piece.Piece.{Piece}

-- the hash of the bytes is the store's root
pub record IsBlob (fixed : Fixed) (blob : List ℕ) : Type 0 where
  pub bytes : AreBytes blob
  pub root : hash fixed.mode blob ≡ fixed.root.0

-- the blob and the accepted slice have a collision: one input from each
abbrev pub CollidesWith : Fixed → List ℕ → Piece → Type 0
CollidesWith fixed blob piece = NamesCollision fixed.mode blob piece.text (places_in piece)

-- an accepted piece certifies a length that the store has no room for
pub record EndsTooFar (fixed : Fixed) (piece : Piece) : Type 0 where
  pub accepted : IsAcceptedPiece fixed piece
  pub ends : EndsBlob piece
  pub above : has_room fixed (length_of piece) ≡ false

-- one of the pieces that were handed over does
pub record IsTooLarge (handed : Piece → Type 0) (fixed : Fixed) : Type 0 where
  pub piece : Piece
  pub from : handed piece
  pub large : EndsTooFar fixed piece

-- A collision is exhibited, two different inputs with one chaining value, one of the blob's and one of an accepted piece's that was
-- handed over.
pub record HasCollision (handed : Piece → Type 0) (fixed : Fixed) (blob : List ℕ) : Type 0 where
  pub piece : Piece
  pub from : handed piece
  pub accepted : IsAcceptedPiece fixed piece
  pub pair : CollidesWith fixed blob piece

-- the store has no room for any blob with the root, or a collision is exhibited
abbrev pub AreLonger : (Piece → Type 0) → Fixed → Type 0
AreLonger handed fixed = (blob : List ℕ) → IsBlob fixed blob → (has_room fixed (length blob) ≡ false) ⊎ HasCollision handed fixed blob

-- there is no blob with the root, or a collision is exhibited
abbrev pub IsOfNone : (Piece → Type 0) → Fixed → Type 0
IsOfNone handed fixed = (blob : List ℕ) → IsBlob fixed blob → HasCollision handed fixed blob

-- the bytes are each blob's with the root, or a collision is exhibited
abbrev pub AreTheBlob : (Piece → Type 0) → Fixed → List ℕ → Type 0
AreTheBlob handed fixed bytes = (blob : List ℕ) → IsBlob fixed blob → (bytes ≡ blob) ⊎ HasCollision handed fixed blob

-- a store's root, mode and capacity, from the blob's first chunk on
abbrev pub fixed_as : Hash → Mode → ℕ → Fixed
fixed_as root mode capacity = record { root = root; mode = mode; capacity = capacity; base = 0 }

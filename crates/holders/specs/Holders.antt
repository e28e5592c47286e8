-- What a fetch does to the bytes that it appends to, and what holders hand over.
use Rattle.std.specs.Prelude.{◌≡◌, ℕ, List, ◌++◌, Some, length, slice_get}
use Rattle.holders.specs.declared.piece.Piece.{Piece}

-- one of these texts follows
pub record Appends (P : List ℕ → Type 0) (old new : List ℕ) : Type 0 where
  pub text : List ℕ
  pub is : new ≡ old ++ text
  pub given : P text

-- what a holder may give after a fetch it might have given before it
abbrev pub GivesNoMore : {H : Type 0} → (H → ℕ → ℕ → List ℕ → Type 0) → H → H → Type 0
GivesNoMore gives old new = (start len : ℕ) (text : List ℕ) → gives new start len text → gives old start len text

-- Each holder stands where it stood, and gives nothing that it might not have given before.
pub record AreLater {H : Type 0} (gives : H → ℕ → ℕ → List ℕ → Type 0) (old new : List H) : Type 0 where
  pub len : length new ≡ length old
  pub each : (place : ℕ) (holder : H) → slice_get old place ≡ Some holder
      → (later : H) × (slice_get new place ≡ Some later) × GivesNoMore gives holder later

-- the piece is a text that the holder may give as its slice
abbrev pub IsGiven : {H : Type 0} → (H → ℕ → ℕ → List ℕ → Type 0) → H → Piece → Type 0
IsGiven gives holder piece = gives holder piece.start piece.len piece.text

-- or that one of these holders may give
pub record IsHanded {H : Type 0} (gives : H → ℕ → ℕ → List ℕ → Type 0) (holders : List H) (piece : Piece) : Type 0 where
  pub place : ℕ
  pub holder : H
  pub there : slice_get holders place ≡ Some holder
  pub given : IsGiven gives holder piece

-- this piece, and no other
abbrev pub IsIt : Piece → Piece → Type 0
IsIt it piece = piece ≡ it

-- no piece
abbrev pub IsNone : Piece → Type 0
IsNone piece = ⊥

-- The bytes of a holder over a combined encoding in memory, and what it hands over.
use denote.Ref.{Bor}
use Rattle.std.specs.Prelude.{◌≡◌, ℕ, List}
use Rattle.bao_text.specs.Cut.{cut_text}
use Rattle.holders.specs.declared.encoded.Encoded.{Encoded}
use Rattle.holders.specs.Holders.{IsHanded}
use Rattle.holders.specs.declared.piece.Piece.{Piece}

-- a holder over bytes in memory
abbrev pub EncodedBytes : Type 0
EncodedBytes = Encoded (Bor (List ℕ))

abbrev pub encoding : EncodedBytes → List ℕ
encoding holder = holder.places.now

-- the slice as it is cut out of them
abbrev pub IsCut : EncodedBytes → ℕ → ℕ → List ℕ → Type 0
IsCut holder start len text = text ≡ cut_text (encoding holder) start len

-- a text gives what is cut out of it
abbrev pub cut_gives : List ℕ → ℕ → ℕ → List ℕ → Type 0
cut_gives text start len given = given ≡ cut_text text start len

-- the piece is a slice that is cut out of one of these texts
abbrev pub IsCutOf : List (List ℕ) → Piece → Type 0
IsCutOf texts = IsHanded cut_gives texts

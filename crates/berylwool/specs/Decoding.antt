-- What an accepted encoding has of the blob, byte by byte.
use Rattle.std.specs.Prelude.{◌≡◌, ℕ, ◌+◌, ◌-◌, ◌/◌, ◌%◌, ◌<◌, ◌≤◌, List, length, min, nat_lt, slice_get, Option, None, option_and_then, if◌then◌else◌}
use Rattle.bao_text.specs.Cut.{claimed}
use Rattle.holders.specs.declared.piece.Piece.{Piece}
use Rattle.holders.specs.Pieces.{chunk_bytes}

-- byte q of the blob, if the slice has it
abbrev pub byte_of : Piece → ℕ → Option ℕ
byte_of piece q = option_and_then (λ bytes. slice_get bytes (q % 1024)) (chunk_bytes piece (q / 1024))

-- These are the slice's bytes from byte `start` of the blob on: `most` of them, or those before the first that
-- the slice lacks.
pub record AreBytesOf (piece : Piece) (start most : ℕ) (bytes : List ℕ) : Type 0 where
  pub within : length bytes ≤ most
  pub are : (i : ℕ) → i < length bytes → byte_of piece (start + i) ≡ slice_get bytes i
  pub ends : length bytes < most → byte_of piece (start + length bytes) ≡ None

-- how many bytes of the blob are asked for: those of the range that are below the length that the encoding
-- claims
abbrev pub asked_size : List ℕ → ℕ → ℕ → ℕ
asked_size text start len = if nat_lt (length text) 8 then 0 else min (claimed text) (start + len) - start

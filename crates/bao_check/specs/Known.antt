-- Chunks that are hashed, several at once, before it is their turn to be verified.
use Rattle.std.specs.Prelude.{◌≡◌, ℕ, ◌+◌, ◌<◌, ◌≤◌, List, [], length, take, slice_index, slice_index_or, Option, Some, IfSome}
use Rattle.b3word.specs.Compression.{cv}
use Rattle.b3tree.specs.declared.mode.Mode.{Mode}
use Rattle.b3tree.specs.declared.values.Cv.{Cv}
use Rattle.b3tree.specs.Chunk.{last_chunk_input}
use Rattle.b3tree.specs.Pieces.{piece}
use Rattle.bao_check.specs.declared.known.Known.{Known}
use Rattle.bao_check.specs.declared.part.WaitingPart.{WaitingPart}
use Rattle.bao_check.specs.Waiting.{last_part}

-- the value of the whole chunk with this index that begins at this offset of the bytes
abbrev pub IsValueAt : Mode → ℕ → List ℕ → ℕ → List ℕ → Type 0
IsValueAt mode number bytes place value = value ≡ cv (last_chunk_input mode number (piece bytes place 1024))

-- the values are those of the chunks at these offsets, whose indices are consecutive
abbrev pub AreKnown : Mode → List ℕ → Known → Type 0
AreKnown mode bytes known =
    (k : ℕ) → k < length known.places.items → IsValueAt mode (known.first + k) bytes (slice_index known.places.items k) (slice_index_or known.values k [])

-- a whole chunk begins at each of the offsets
abbrev pub AreThere : List ℕ → List ℕ → Type 0
AreThere bytes places = (k : ℕ) → k < length places → slice_index places k + 1024 ≤ length bytes

-- if the next node is a whole chunk, this is its value
abbrev pub KnowsNext : Mode → List WaitingPart → List ℕ → Option Cv → Type 0
KnowsNext mode parts bytes known =
    IfSome known (λ value. (part : WaitingPart) → last_part parts ≡ Some part → part.len ≡ 1024 → value.0 ≡ cv (last_chunk_input mode part.number (take 1024 bytes)))

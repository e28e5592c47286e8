-- Which chunks of a plain copy are accepted beside an outline, and the first fault of those that aren't.
use Rattle.std.specs.Prelude.{◌≡◌, ℕ, ◌+◌, ◌-◌, ◌*◌, ◌^◌, ◌<◌, ◌≤◌, min, List, length, take, drop}
use Rattle.b3word.specs.declared.input.Input.{Input}
use Rattle.b3word.specs.Compression.{cv}
use Rattle.b3tree.specs.declared.mode.Mode.{Mode}
use Rattle.b3tree.specs.Bytes.{words_of}
use Rattle.b3tree.specs.Chunk.{last_chunk_input}
use Rattle.b3tree.specs.Hashing.{rooted}
use Rattle.bao_text.specs.Choice.{chunk_count}
use Rattle.bao_text.specs.Cut.{claimed}
use Rattle.bao_check.specs.declared.fault.CheckFault.{CheckFault}
use Rattle.bao_check.specs.declared.fault.CheckFault.TheVariants.{Short, Mismatch, Trailing, Memory, Reader}
use Rattle.bao_check.specs.Accepted.{outboard_nodes, places_of}
use Rattle.bao_check.specs.Beside.{bare_len}
use Rattle.bao_check.specs.declared.outline.Outline.{Outline}
use Rattle.bao_check.specs.Outline.{outline_claimed}
use Rattle.bao_check.specs.Pieces.{IsLeafValue}

-- The `count` chunks from chunk `first` on, at least one, are chunks of the length that the outline claims.
abbrev pub AreChunksOf : Outline → ℕ → ℕ → Type 0
AreChunksOf outline first count = (1 ≤ count) × (first + count ≤ chunk_count (outline_claimed outline))

-- the offset at which chunk k begins, if chunk `first` begins at 0
abbrev pub bare_at : ℕ → ℕ → ℕ
bare_at first k = 1024 * (k - first)

-- how many bytes chunk k of a blob of `total` bytes has
abbrev pub chunk_len : ℕ → ℕ → ℕ
chunk_len total k = min 1024 (total - 1024 * k)

-- the bytes of chunk k
abbrev pub bare_chunk : ℕ → ℕ → List ℕ → ℕ → List ℕ
bare_chunk total first chunks k = take (chunk_len total k) (drop (bare_at first k) chunks)

-- chunk k is complete
abbrev pub IsWhollyThere : ℕ → ℕ → List ℕ → ℕ → Type 0
IsWhollyThere total first chunks k = bare_at first k + chunk_len total k ≤ length chunks

-- The input has the outline's value for chunk k: the half of a parent that stands for the chunk, or the root if
-- the blob has only one chunk, and so no parent.
abbrev pub HasValue : List ℕ → List ℕ → ℕ → Input → Type 0
HasValue root outline k x =
    (chunk_count (claimed outline) ≡ 1 → cv (rooted x) ≡ words_of 8 root)
    × (1 < chunk_count (claimed outline) → IsLeafValue outline (places_of (outboard_nodes outline)) k (cv x))

-- chunk k's bytes have the outline's value
abbrev pub HasChunkValue : Mode → List ℕ → List ℕ → ℕ → List ℕ → ℕ → Type 0
HasChunkValue mode root outline first chunks k = HasValue root outline k (last_chunk_input mode k (bare_chunk (claimed outline) first chunks k))

-- chunk k is complete, and has the outline's value
abbrev pub IsGoodBare : Mode → List ℕ → List ℕ → ℕ → List ℕ → ℕ → Type 0
IsGoodBare mode root outline first chunks k = IsWhollyThere (claimed outline) first chunks k × HasChunkValue mode root outline first chunks k

-- all chunks from `first` up to and without `after` are complete and have the outline's value
abbrev pub AreGoodBare : Mode → List ℕ → List ℕ → ℕ → List ℕ → ℕ → Type 0
AreGoodBare mode root outline first chunks after = (k : ℕ) → first ≤ k → k < after → IsGoodBare mode root outline first chunks k

-- the `count` chunks from `first` on are good, and nothing follows them
pub record AreBare (mode : Mode) (root outline : List ℕ) (first count : ℕ) (chunks : List ℕ) : Type 0 where
  pub good : AreGoodBare mode root outline first chunks (first + count)
  pub ends : length chunks ≡ bare_len (claimed outline) (1024 * first) (1024 * count)

-- The first fault of chunks that aren't accepted, in their order, with the offset at which it begins: the first
-- chunk that is incomplete or doesn't have the outline's value, or else what follows the last.
abbrev pub IsBareFault : Mode → List ℕ → List ℕ → ℕ → ℕ → List ℕ → CheckFault → Type 0
IsBareFault mode root outline first count chunks (Short at) =
    (k : ℕ) × (first ≤ k) × (k < first + count) × (at ≡ bare_at first k) × AreGoodBare mode root outline first chunks k
    × ¬ IsWhollyThere (claimed outline) first chunks k
IsBareFault mode root outline first count chunks (Mismatch at) =
    (k : ℕ) × (first ≤ k) × (k < first + count) × (at ≡ bare_at first k) × AreGoodBare mode root outline first chunks k
    × IsWhollyThere (claimed outline) first chunks k × ¬ HasChunkValue mode root outline first chunks k
IsBareFault mode root outline first count chunks (Trailing at) =
    AreGoodBare mode root outline first chunks (first + count) × (at ≡ bare_len (claimed outline) (1024 * first) (1024 * count)) × (at < length chunks)
IsBareFault mode root outline first count chunks Memory = ⊥
IsBareFault mode root outline first count chunks Reader = ⊥

-- the length in bytes of the slice of so many chunks, or the greatest that a length can express
abbrev pub bare_part : ℕ → ℕ
bare_part count = min (1024 * count) (2 ^ 64 - 1)

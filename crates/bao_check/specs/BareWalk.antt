-- What is known during the walk down the tree over chunks beside an outline.
use Rattle.std.specs.Prelude.{◌≡◌, ◌↔◌, ℕ, ◌+◌, ◌<◌, ◌≤◌, List, Some, length, take, drop, slice_get}
use Rattle.b3word.specs.declared.input.Input.{Input}
use Rattle.b3word.specs.Compression.{cv}
use Rattle.b3tree.specs.Chunk.{last_chunk_input}
use Rattle.b3tree.specs.declared.values.Cv.{Cv}
use Rattle.bao_text.specs.Choice.{chunk_count, of_outboard}
use Rattle.bao_text.specs.Cut.{claimed}
use Rattle.bao_text.specs.Nodes.{Side, placed_nodes, subtree_nodes}
use Rattle.bao_check.specs.declared.asked.Asked.{Asked}
use Rattle.bao_check.specs.declared.bare.Bare.{Bare}
use Rattle.bao_check.specs.declared.bare.Eight.{Eight}
use Rattle.bao_check.specs.declared.fault.CheckFault.{CheckFault}
use Rattle.bao_check.specs.declared.fault.CheckFault.TheVariants.{Short, Mismatch, Trailing, Memory, Reader}
use Rattle.bao_check.specs.Accepted.{outboard_nodes, places_of}
use Rattle.bao_check.specs.Bare.{HasChunkValue, HasValue, IsGoodBare, IsWhollyThere, bare_at}
use Rattle.bao_check.specs.HasPart.{Inside}
use Rattle.bao_check.specs.Pieces.{IsLeafValue}
use Rattle.bao_check.specs.Walk.{Meets}

-- the last compression of so many bytes as chunk k
abbrev pub bare_input : Bare → ℕ → ℕ → Input
bare_input bare k len = last_chunk_input bare.mode k (take len (drop (bare_at bare.first k) bare.chunks.now))

-- the eight chunks are complete, and these are their values
pub record AreEight (bare : Bare) (eight : Eight) : Type 0 where
  pub there : bare_at bare.first eight.first + 8192 ≤ length bare.chunks.now
  pub from : bare.first ≤ eight.first
  pub values : (j : ℕ) (value : Cv) → slice_get eight.values j ≡ Some value → value.0 ≡ cv (bare_input bare (eight.first + j) 1024)

-- chunk k is complete, and has the value required of it
abbrev pub IsChunkGood : Bare → Asked → ℕ → ℕ → Type 0
IsChunkGood bare asked k len = (bare_at bare.first k + len ≤ length bare.chunks.now) × Meets asked (bare_input bare k len)

-- chunk k is incomplete, or doesn't have the value required of it, and this is its fault
abbrev pub ChunkStops : Bare → Asked → ℕ → ℕ → CheckFault → Type 0
ChunkStops bare asked k len (Short at) = (at ≡ bare_at bare.first k) × (length bare.chunks.now < bare_at bare.first k + len)
ChunkStops bare asked k len (Mismatch at) =
    (at ≡ bare_at bare.first k) × (bare_at bare.first k + len ≤ length bare.chunks.now) × ¬ Meets asked (bare_input bare k len)
ChunkStops bare asked k len (Trailing at) = ⊥
ChunkStops bare asked k len Memory = ⊥
ChunkStops bare asked k len Reader = ⊥

-- The walk reaches the subtree over n bytes from chunk `number` on, whose parents begin at offset `at` of the
-- outline, and `asked` is required of its top. A value that one of these parents has for a chunk is the
-- outline's. A single chunk has the value `asked` exactly if the outline has its value.
pub record Reaches (root outline : List ℕ) (asked : Asked) (number n : ℕ) (sides : List Side) (source at : ℕ) : Type 0 where
  pub inside : Inside (claimed outline) number n
  pub among : (k : ℕ) (value : List ℕ) → IsLeafValue outline (placed_nodes at (subtree_nodes (of_outboard (claimed outline)) number n sides source)) k value
      → IsLeafValue outline (places_of (outboard_nodes outline)) k value
  pub one : n ≤ 1024 → (x : Input) → HasValue root outline number x ↔ Meets asked x

-- chunk k is wanted, and belongs to the subtree
pub record IsWantedChunk (bare : Bare) (number n k : ℕ) : Type 0 where
  pub first : bare.first ≤ k
  pub after : k < bare.after
  pub from : number ≤ k
  pub below : k < number + chunk_count n

-- chunk k is complete, and has the outline's value
abbrev pub IsGoodChunk : Bare → List ℕ → ℕ → Type 0
IsGoodChunk bare root k = IsGoodBare bare.mode root bare.outline.now bare.first bare.chunks.now k

-- chunk k is incomplete, or doesn't have the outline's value, and this is its fault
abbrev pub IsBadChunk : Bare → List ℕ → ℕ → CheckFault → Type 0
IsBadChunk bare root k (Short at) = (at ≡ bare_at bare.first k) × ¬ IsWhollyThere (claimed bare.outline.now) bare.first bare.chunks.now k
IsBadChunk bare root k (Mismatch at) =
    (at ≡ bare_at bare.first k) × IsWhollyThere (claimed bare.outline.now) bare.first bare.chunks.now k
    × ¬ HasChunkValue bare.mode root bare.outline.now bare.first bare.chunks.now k
IsBadChunk bare root k (Trailing at) = ⊥
IsBadChunk bare root k Memory = ⊥
IsBadChunk bare root k Reader = ⊥

-- all wanted chunks of the subtree are good
abbrev pub PartPasses : Bare → List ℕ → ℕ → ℕ → Type 0
PartPasses bare root number n = (k : ℕ) → IsWantedChunk bare number n k → IsGoodChunk bare root k

-- the first wanted chunk of the subtree that isn't good has this fault
pub record PartStops (bare : Bare) (root : List ℕ) (number n : ℕ) (fault : CheckFault) : Type 0 where
  pub k : ℕ
  pub wanted : IsWantedChunk bare number n k
  pub good : (j : ℕ) → j < k → IsWantedChunk bare number n j → IsGoodChunk bare root j
  pub is : IsBadChunk bare root k fault

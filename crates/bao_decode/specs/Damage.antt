-- Which slices of a blob a plain copy has, beside an outboard encoding. Neither is checked as a whole.
use Rattle.std.specs.Prelude.{◌≡◌, ℕ, ◌+◌, ◌-◌, ◌*◌, ◌<◌, ◌≤◌, Bool, true, false, List, length, take, Option, Some, None, IfSome}
use Rattle.b3tree.specs.declared.mode.Mode.{Mode}
use Rattle.b3tree.specs.Bytes.{words_of}
use Rattle.b3tree.specs.Hashing.{root_hash, rooted}
use Rattle.b3tree.specs.Pieces.{piece}
use Rattle.b3tree.specs.Tree.{parent_input}
use Rattle.bao_text.specs.Choice.{chunk_count}
use Rattle.bao_text.specs.Cut.{claimed}
use Rattle.bao_text.specs.declared.kinds.Part.TheVariants.{Slice}
use Rattle.bao_decode.specs.TextPass.{HasPassed}
use Rattle.bao_decode.specs.Weaving.{cut_beside}

-- the hash of the root, a parent with these 64 bytes
unfoldable pub parent_hash : Mode → List ℕ → List ℕ
parent_hash mode parent = root_hash (rooted (parent_input mode (words_of 8 (take 32 parent)) (words_of 8 (piece parent 32 32))))

-- the bytes have the size of an outboard encoding, by the length that they claim, and their first parent, if there is one, is that of the root
pub record IsOutlineOf (mode : Mode) (root outline : List ℕ) : Type 0 where
  pub long : 8 ≤ length outline
  pub size : length outline ≡ 8 + 64 * (chunk_count (claimed outline) - 1)
  pub first : 1024 < claimed outline → parent_hash mode (piece outline 8 64) ≡ root

-- this is the length that such bytes claim; or none is known, so they aren't such, unless a read failed
abbrev pub JudgesOutline : Type 0 → Mode → List ℕ → List ℕ → Option ℕ → Type 0
JudgesOutline faultless mode root outline (Some total) = IsOutlineOf mode root outline × (total ≡ claimed outline)
JudgesOutline faultless mode root outline None = faultless → ¬ IsOutlineOf mode root outline

-- the slice (start, len) that is cut out of the two is accepted
abbrev pub HasSliceBeside : Mode → List ℕ → ℕ → ℕ → List ℕ → List ℕ → Type 0
HasSliceBeside mode root start len outline copy = HasPassed mode root (Slice start len) (cut_beside outline copy start len)

-- a verdict on that: `true` holds, and `false`, unless a read failed
abbrev pub JudgesSlice : Type 0 → Mode → List ℕ → ℕ → ℕ → List ℕ → List ℕ → Bool → Type 0
JudgesSlice faultless mode root start len outline copy true = HasSliceBeside mode root start len outline copy
JudgesSlice faultless mode root start len outline copy false = faultless → ¬ HasSliceBeside mode root start len outline copy

-- the same of two sources, where their bytes are known
abbrev pub JudgesSliceOf : Type 0 → Mode → List ℕ → ℕ → ℕ → Option (List ℕ) → Option (List ℕ) → Bool → Type 0
JudgesSliceOf faultless mode root start len outline copy had = IfSome outline (λ o. IfSome copy (λ c. JudgesSlice faultless mode root start len o c had))

-- The result of searching for two inputs that collide.
use Rattle.std.specs.Prelude.{◌≡◌, ℕ, ◌+◌, ◌*◌, ◌/◌, ◌<◌, List, length, take, drop, Bool, Option, None, Some}
use Rattle.b3word.specs.declared.input.Input.{Input}
use Rattle.b3tree.specs.declared.mode.Mode.{Mode}
use Rattle.bao_text.specs.Choice.{chunk_count}
use Rattle.bao_check.specs.Inputs.{Names, inputs_within}
use Rattle.bao_bind.specs.declared.pair.Pair.{Pair}

-- the inputs of the tree over s from chunk `first` on, the top one with ROOT if it is the root
abbrev pub part_inputs : Bool → Mode → ℕ → List ℕ → List Input
part_inputs top mode first s = inputs_within (length s / 1024) top mode first s

-- Either a collision is found, with one input from each list, or none is, and then `same` holds.
abbrev pub Finds : List Input → List Input → Type 0 → Option Pair → Type 0
Finds ours theirs same None = same
Finds ours theirs same (Some pair) = Names ours theirs pair.ours pair.theirs

-- A collision is found exactly if `same` doesn't hold.
abbrev pub FindsOnly : List Input → List Input → Type 0 → Option Pair → Type 0
FindsOnly ours theirs same None = same
FindsOnly ours theirs same (Some pair) = (¬ same) × Names ours theirs pair.ours pair.theirs

-- Chunk `number` of the tree over s from chunk `first` on is `bytes`; and if it is the last chunk of the n
-- bytes from chunk `from` on, s ends with it.
pub record TreeHasChunk (first : ℕ) (s : List ℕ) (from n number : ℕ) (bytes : List ℕ) : Type 0 where
  pub at : ℕ
  pub number_is : number ≡ first + at
  pub there : at < chunk_count (length s)
  pub bytes_are : take 1024 (drop (1024 * at) s) ≡ bytes
  pub last : number + 1 ≡ from + chunk_count n → 1024 * at + length bytes ≡ length s

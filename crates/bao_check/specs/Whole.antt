-- The encoding of a whole subtree, checked in lanes at once.
use Rattle.std.specs.Prelude.{◌≡◌, ℕ, ◌+◌, ◌-◌, ◌*◌, ◌≤◌, List, ◌++◌, length, take, drop, Bool, false, if◌then◌else◌}
use Rattle.b3word.specs.declared.input.Input.{Input}
use Rattle.b3tree.specs.declared.mode.Mode.{Mode}
use Rattle.b3tree.specs.declared.eight.EightParents.{EightParents}
use Rattle.b3tree.specs.declared.eight.FourParents.{FourParents}
use Rattle.b3tree.specs.declared.eight.Parts.{Parts}
use Rattle.b3tree.specs.Parents.{lane_parents}
use Rattle.b3tree.specs.Pieces.{piece}
use Rattle.b3tree.specs.Tree.{parent_input}
use Rattle.bao_text.specs.declared.choice.Choice.{Choice}
use Rattle.bao_text.specs.Nodes.{Side, left, right, subtree_nodes}
use Rattle.bao_check.specs.declared.asked.Asked.{Asked}
use Rattle.bao_check.specs.Accepted.{part_value}
use Rattle.bao_check.specs.Walk.{Meets, Passes}

-- the length in bytes of the encoding of so many whole chunks, a power of two, with or without the chunks
abbrev pub whole_len : Bool → ℕ → ℕ
whole_len kept chunks = if kept then 1088 * chunks - 64 else 64 * chunks - 64

-- the choice wants all of these chunks, or all parents above them
pub record HasWhole (kept : Bool) (choice : Choice) (number chunks : ℕ) : Type 0 where
  pub with_chunks : choice.chunks ≡ kept
  pub start : choice.start ≤ 1024 * number
  pub end : 1024 * number + 1024 * chunks ≤ choice.end

-- the encoding has these bytes at offset `at`
abbrev pub StandsAt : List ℕ → ℕ → List ℕ → Type 0
StandsAt text at bytes = (rest : List ℕ) × (drop at text ≡ bytes ++ rest)

-- The encoding is that of a whole subtree of so many chunks from chunk `number` on: if its last compression has
-- the value required, all its nodes are good.
pub record IsWholeText (kept : Bool) (mode : Mode) (number chunks : ℕ) (top : Input) (text : List ℕ) : Type 0 where
  pub size : length text ≡ whole_len kept chunks
  pub passes : (asked : Asked) (choice : Choice) (whole : List ℕ) (at : ℕ) (sides : List Side) (from : ℕ) → HasWhole kept choice number chunks → Meets asked top → StandsAt whole at text
      → Passes asked sides mode whole at (at + length text) (subtree_nodes choice number (1024 * chunks) sides from)

-- as `IsWholeText`, for a subtree of a larger one whose parent has this value for it
pub record IsWholeOf (kept : Bool) (mode : Mode) (number chunks : ℕ) (value : List ℕ) (text : List ℕ) : Type 0 where
  pub size : length text ≡ whole_len kept chunks
  pub passes : (choice : Choice) (whole : List ℕ) (at : ℕ) (sides : List Side) (from : ℕ) → HasWhole kept choice number chunks → StandsAt whole at text
      → Passes (record { top = false; value = record { 0 = value } }) sides mode whole at (at + length text) (subtree_nodes choice number (1024 * chunks) sides from)

-- the 64 bytes from offset `at` on are this parent
abbrev pub HasParentAt : List ℕ → ℕ → Parts → Type 0
HasParentAt text at parent = (part_value left (piece text at 64) ≡ parent.left.0) × (part_value right (piece text at 64) ≡ parent.right.0)

-- the upper parents of an encoding from offset `at` on, over four parts of `step` bytes
abbrev pub HasFour : List ℕ → ℕ → ℕ → FourParents → Type 0
HasFour text at step parents =
    HasParentAt text at parents.top × HasParentAt text (at + 64) parents.left × HasParentAt text (at + 128 + step * 2) parents.right

-- the upper parents of a whole encoding, over eight parts
abbrev pub HasEight : List ℕ → ℕ → EightParents → Type 0
HasEight text step parents = HasParentAt text 0 parents.top × HasFour text 64 step parents.left × HasFour text (256 + step * 4) step parents.right

-- the last compression over eight values
abbrev pub lane_top : Mode → (ℕ → List ℕ) → Input
lane_top mode values = parent_input mode (lane_parents mode values).top.left.0 (lane_parents mode values).top.right.0

-- the encoding of a whole subtree with the value required
abbrev pub IsWholeAsked : Bool → Asked → Mode → ℕ → ℕ → List ℕ → Type 0
IsWholeAsked kept asked mode number chunks text = (top : Input) × Meets asked top × IsWholeText kept mode number chunks top text

-- The bytes ahead begin with `len` bytes over which a walk succeeds, at any offset: they are the encoding of
-- the n bytes from chunk `number` on, and all its nodes are good.
pub record HasWholeAhead (asked : Asked) (choice : Choice) (mode : Mode) (number n len : ℕ) (ahead : List ℕ) : Type 0 where
  pub there : len ≤ length ahead
  pub passes : (text : List ℕ) (at : ℕ) → StandsAt text at (take len ahead) → (sides : List Side) (from : ℕ)
      → Passes asked sides mode text at (at + len) (subtree_nodes choice number n sides from)

-- What is known during the walk through an encoding, node by node.
use Rattle.std.specs.Prelude.{◌≡◌, ℕ, ◌+◌, ◌<◌, ◌≤◌, List, [], ◌∷◌, ◌++◌, length, take, drop, sum_by, true, Contains}
use Rattle.std.specs.List.{AllByRecursion}
use Rattle.b3word.specs.declared.input.Input.{Input}
use Rattle.b3word.specs.Compression.{cv}
use Rattle.b3tree.specs.declared.mode.Mode.{Mode}
use Rattle.b3tree.specs.Bytes.{words_of}
use Rattle.b3tree.specs.Chunk.{last_chunk_input}
use Rattle.b3tree.specs.Tree.{parent_input}
use Rattle.bao_text.specs.declared.choice.Choice.{Choice}
use Rattle.bao_text.specs.Nodes.{TreeNode, Side, left, placed_nodes, right, size, subtree_nodes}
use Rattle.bao_check.specs.declared.asked.Asked.{Asked}
use Rattle.bao_check.specs.declared.fault.CheckFault.{CheckFault}
use Rattle.bao_check.specs.declared.fault.CheckFault.TheVariants.{Short, Mismatch, Trailing, Memory, Reader}
use Rattle.bao_check.specs.Accepted.{bytes_at, end_of, input_at, part_value}
use Rattle.bao_check.specs.Inputs.{marked}

-- the input has the value required
abbrev pub Meets : Asked → Input → Type 0
Meets asked x = cv (marked asked.top x) ≡ asked.value.0

-- The node at a place of a subtree has the value required there: `asked` at the subtree's top, whose sides
-- these are, and below a parent the half of it that the node's last side names.
abbrev pub IsAskedIn : Asked → List Side → Mode → List ℕ → List (ℕ × TreeNode) → ℕ × TreeNode → Type 0
IsAskedIn asked sides mode text places place =
    (place.1.sides ≡ sides → Meets asked (input_at mode text place))
    × ((above : ℕ × TreeNode) (side : Side) → Contains places above → place.1.sides ≡ above.1.sides ++ side ∷ []
    → cv (input_at mode text place) ≡ part_value side (bytes_at text above))

-- the node at a place of a subtree is complete, and has the value required there
abbrev pub IsGoodIn : Asked → List Side → Mode → List ℕ → List (ℕ × TreeNode) → ℕ × TreeNode → Type 0
IsGoodIn asked sides mode text places place = (end_of place ≤ length text) × IsAskedIn asked sides mode text places place

-- all nodes of a subtree, which begin at `at`, are good
abbrev pub AreGood : Asked → List Side → Mode → List ℕ → ℕ → List TreeNode → Type 0
AreGood asked sides mode text at nodes = AllByRecursion (IsGoodIn asked sides mode text (placed_nodes at nodes)) (placed_nodes at nodes)

-- all nodes of a subtree before a place are good
pub record AreGoodUpTo (asked : Asked) (sides : List Side) (mode : Mode) (text : List ℕ) (places : List (ℕ × TreeNode)) (place : ℕ × TreeNode) : Type 0 where
  pub earlier : List (ℕ × TreeNode)
  pub later : List (ℕ × TreeNode)
  pub split : places ≡ earlier ++ place ∷ later
  pub good : AllByRecursion (IsGoodIn asked sides mode text places) earlier

-- The walk through a subtree's nodes, the first of which begins at `at`, succeeds: all nodes are good, and the
-- last ends at `end`.
pub record Passes (asked : Asked) (sides : List Side) (mode : Mode) (text : List ℕ) (at end : ℕ) (nodes : List TreeNode) : Type 0 where
  pub ends : end ≡ at + sum_by size nodes
  pub good : AreGood asked sides mode text at nodes

-- the fault of a node that is incomplete, or doesn't have the value required there
abbrev pub IsStop : Asked → List Side → Mode → List ℕ → List (ℕ × TreeNode) → ℕ × TreeNode → CheckFault → Type 0
IsStop asked sides mode text places place (Short at) = (at ≡ place.0) × (length text < end_of place)
IsStop asked sides mode text places place (Mismatch at) = (at ≡ place.0) × (end_of place ≤ length text) × ¬ IsAskedIn asked sides mode text places place
IsStop asked sides mode text places place (Trailing at) = ⊥
IsStop asked sides mode text places place Memory = ⊥
IsStop asked sides mode text places place Reader = ⊥

-- The walk through these places stops with this fault at a node that isn't good and ends at `end`; all before
-- it are good.
pub record Stops (asked : Asked) (sides : List Side) (mode : Mode) (text : List ℕ) (places : List (ℕ × TreeNode)) (fault : CheckFault) (end : ℕ) : Type 0 where
  pub place : ℕ × TreeNode
  pub good : AreGoodUpTo asked sides mode text places place
  pub ends : end ≡ end_of place
  pub is : IsStop asked sides mode text places place fault

-- The walk through the wanted nodes of the subtree over n bytes from chunk `number` on, which begin at offset
-- `at` of the encoding, succeeds, and ends at offset `end`.
pub record PassesIn (asked : Asked) (mode : Mode) (choice : Choice) (number n : ℕ) (text : List ℕ) (at end : ℕ) : Type 0 where
  pub within : end ≤ length text
  pub passes : (sides : List Side) (source : ℕ) → Passes asked sides mode text at end (subtree_nodes choice number n sides source)

-- The walk stops with this fault at a node that is incomplete or isn't good and ends at `end`.
abbrev pub StopsIn : Asked → Mode → Choice → ℕ → ℕ → List ℕ → ℕ → CheckFault → ℕ → Type 0
StopsIn asked mode choice number n text at fault end =
    (sides : List Side) (source : ℕ) → Stops asked sides mode text (placed_nodes at (subtree_nodes choice number n sides source)) fault end

-- the fault of a node from `at` to `end` that makes this input, if it is incomplete or doesn't have the value
-- required
abbrev pub IsTopStop : Asked → Input → List ℕ → ℕ → ℕ → CheckFault → Type 0
IsTopStop asked x text at end (Short from) = (from ≡ at) × (length text < end)
IsTopStop asked x text at end (Mismatch from) = (from ≡ at) × (end ≤ length text) × ¬ Meets asked x
IsTopStop asked x text at end (Trailing from) = ⊥
IsTopStop asked x text at end Memory = ⊥
IsTopStop asked x text at end Reader = ⊥

-- the compression input of the 64 bytes at an offset, as a parent
abbrev pub parent_at : Mode → List ℕ → ℕ → Input
parent_at mode text at = parent_input mode (part_value left (take 64 (drop at text))) (part_value right (take 64 (drop at text)))

-- the last compression input of the bytes at an offset, as a chunk
abbrev pub chunk_at : Mode → ℕ → ℕ → List ℕ → ℕ → Input
chunk_at mode number n text at = last_chunk_input mode number (take n (drop at text))

-- what is required of the top of a complete encoding: the words of the root
abbrev pub asked_root : List ℕ → Asked
asked_root root = record { top = true; value = record { 0 = words_of 8 root } }

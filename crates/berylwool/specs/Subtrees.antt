-- Which bytes of a blob are a subtree of its tree, and where its outboard encoding has their parents.
use Rattle.std.specs.Prelude.{◌≡◌, ◌⊎◌, ℕ, ◌*◌, ◌/◌, ◌%◌, ◌≤◌, List, ◌++◌, length, drop, Contains}
use Rattle.b3tree.specs.declared.mode.Mode.{Mode}
use Rattle.b3tree.specs.Tree.{left_len}
use Rattle.bao_text.specs.Choice.{of_outboard}
use Rattle.bao_text.specs.Nodes.{TreeNode}
use Rattle.bao_text.specs.Texts.{node_span, outboard_text, subtree_text}
use Rattle.berylwool.specs.Placed.{outboard_places}

-- The n bytes from chunk `first` on are at most one chunk, or they begin at a multiple of twice the chunks of
-- their left child, which is the least power of two that isn't below their number of chunks.
abbrev pub IsSubtree : ℕ → ℕ → Type 0
IsSubtree first n = (n ≤ 1024) ⊎ (first % (2 * (left_len n / 1024)) ≡ 0)

-- Each parent of a blob's tree is that of a subtree, and at its offset the outboard encoding has the parents of the
-- subtree, one after another.
abbrev pub ParentsInOutboard : Type 0
ParentsInOutboard = (mode : Mode) (blob : List ℕ) (place : ℕ × TreeNode) → Contains (outboard_places (length blob)) place
    → IsSubtree place.1.number place.1.len
    × ((rest : List ℕ) × (drop place.0 (outboard_text mode blob) ≡ subtree_text (of_outboard (length blob)) mode place.1.number (node_span blob place.1) ++ rest))

-- What an encoding contains of one subtree.
use Rattle.std.specs.Prelude.{◌≡◌, ℕ, ◌+◌, ◌*◌, ◌/◌, ◌<◌, ◌≤◌, min, List, Bool, Contains}
use Rattle.b3word.specs.declared.input.Input.{Input}
use Rattle.b3tree.specs.declared.mode.Mode.{Mode}
use Rattle.bao_text.specs.declared.choice.Choice.{Choice}
use Rattle.bao_text.specs.Choice.{chunk_count}
use Rattle.bao_text.specs.Nodes.{Side, TreeNode, placed_nodes, subtree_nodes}
use Rattle.bao_check.specs.declared.asked.Asked.{Asked}
use Rattle.bao_check.specs.Inputs.{is_top, text_inputs}
use Rattle.bao_check.specs.Parents.{parent_place}
use Rattle.bao_check.specs.Spans.{chunk_place}
use Rattle.bao_check.specs.Walk.{AreGood}

-- a subtree of the blob's tree: only the blob's last chunk may be short
pub record Inside (total number n : ℕ) : Type 0 where
  pub within : 1024 * number + n ≤ total
  pub full : 1024 * number + n < total → 1024 * (n / 1024) ≡ n
  pub some : min 1 total ≤ n

-- the requirement of this value; at the top it is the root's
abbrev pub asked_of : Bool → List ℕ → Asked
asked_of top value = record { top = top; value = record { 0 = value } }

-- The encoding's nodes of the subtree over n bytes from chunk `first` on are good if `value` is required of its
-- top. They are where the encoding has its chunks and parents there, and their inputs are among its own.
pub record HasPart (mode : Mode) (choice : Choice) (text : List ℕ) (places : List (ℕ × TreeNode)) (top : Bool) (value : List ℕ) (first n : ℕ) : Type 0 where
  pub sides : List Side
  pub source : ℕ
  pub at : ℕ
  pub top_is : top ≡ is_top sides
  pub good : AreGood (asked_of top value) sides mode text at (subtree_nodes choice first n sides source)
  pub chunks_are : (k : ℕ) → first ≤ k → k < first + chunk_count n → chunk_place places k ≡ chunk_place (placed_nodes at (subtree_nodes choice first n sides source)) k
  pub parents_are : (m : ℕ) → first < m → m < first + chunk_count n → parent_place places m ≡ parent_place (placed_nodes at (subtree_nodes choice first n sides source)) m
  pub inputs_are : (x : Input) → Contains (text_inputs mode text (placed_nodes at (subtree_nodes choice first n sides source))) x → Contains (text_inputs mode text places) x

-- the encoding's nodes of the subtree
abbrev pub part_nodes : {mode : Mode} {choice : Choice} {text : List ℕ} {places : List (ℕ × TreeNode)} {top : Bool} {value : List ℕ} {first n : ℕ}
    → HasPart mode choice text places top value first n → List TreeNode
part_nodes {choice = choice} {first = first} {n = n} part = subtree_nodes choice first n part.sides part.source

-- The result of comparing the parents of a blob's tree with those of an encoding.
use Rattle.std.specs.Prelude.{◌≡◌, ℕ, ◌*◌, List, length, take, drop, Bool, false, Option, Some, Contains}
use Rattle.b3word.specs.declared.input.Input.{Input}
use Rattle.b3word.specs.Compression.{cv}
use Rattle.b3tree.specs.declared.mode.Mode.{Mode}
use Rattle.b3tree.specs.Tree.{top_input}
use Rattle.b3tree.specs.Valid.{AreBytes}
use Rattle.bao_text.specs.declared.choice.Choice.{Choice}
use Rattle.bao_text.specs.NodeNames.{boundary}
use Rattle.bao_text.specs.Nodes.{TreeNode}
use Rattle.bao_text.specs.Texts.{node_text}
use Rattle.bao_check.specs.HasPart.{HasPart, part_nodes}
use Rattle.bao_check.specs.Inputs.{marked, text_inputs}
use Rattle.bao_check.specs.Parents.{parent_in}

-- For each of these nodes that is a parent, the one known at its boundary is the blob's.
abbrev pub AreOurs : (ℕ → Option (List ℕ)) → Mode → List ℕ → List TreeNode → Type 0
AreOurs parents mode blob nodes = (node : TreeNode) (bytes : List ℕ) → Contains nodes node → node.is_chunk ≡ false
    → parents (boundary node) ≡ Some bytes → bytes ≡ node_text mode blob node

-- The known parents are those of an encoding whose inputs are among `theirs`. Its nodes of the subtree over s,
-- which the blob has from chunk `first` on, are good if the value of the tree over s is required of its top.
pub record HasParentsOver (parents : ℕ → Option (List ℕ)) (theirs : List Input) (mode : Mode) (top : Bool) (blob : List ℕ) (first : ℕ) (s : List ℕ) : Type 0 where
  pub text : List ℕ
  pub places : List (ℕ × TreeNode)
  pub choice : Choice
  pub n : ℕ
  pub bytes : AreBytes text
  pub size : length s ≡ n
  pub ours : s ≡ take n (drop (1024 * first) blob)
  pub parents_are : (m : ℕ) → parents m ≡ parent_in text places m
  pub inputs_are : (x : Input) → Contains (text_inputs mode text places) x → Contains theirs x
  pub value : List ℕ
  pub value_is : cv (marked top (top_input mode first s)) ≡ value
  pub part : HasPart mode choice text places top value first n

-- the nodes of the encoding there
abbrev pub nodes_over : {parents : ℕ → Option (List ℕ)} {theirs : List Input} {mode : Mode} {top : Bool} {blob : List ℕ} {first : ℕ} {s : List ℕ}
    → HasParentsOver parents theirs mode top blob first s → List TreeNode
nodes_over over = part_nodes over.part

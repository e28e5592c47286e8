-- The path down to a chunk of an encoding, one parent at a time.
use Rattle.std.specs.Prelude.{◌≡◌, ℕ, ◌+◌, ◌<◌, ◌≤◌, List, Bool, Option, Some, Contains}
use Rattle.b3word.specs.declared.input.Input.{Input}
use Rattle.b3tree.specs.declared.mode.Mode.{Mode}
use Rattle.bao_text.specs.declared.choice.Choice.{Choice}
use Rattle.bao_text.specs.Choice.{chunk_count}
use Rattle.bao_text.specs.Nodes.{TreeNode}
use Rattle.bao_check.specs.HasPart.{HasPart}
use Rattle.bao_check.specs.Inputs.{text_inputs}
use Rattle.bao_check.specs.Parents.{parent_in}
use Rattle.bao_check.specs.Pieces.{chunk_in}

-- The parents lead down to chunk `number` with these bytes, in the subtree over n bytes from chunk `from` on,
-- of whose top `value` is required: they are those of an encoding whose nodes there are good and include that
-- chunk, and whose inputs are among `inputs`.
pub record LeadsTo (parents : ℕ → Option (List ℕ)) (inputs : List Input) (mode : Mode) (top : Bool) (value : List ℕ) (from n number : ℕ) (bytes : List ℕ) : Type 0 where
  pub choice : Choice
  pub text : List ℕ
  pub places : List (ℕ × TreeNode)
  pub part : HasPart mode choice text places top value from n
  pub first : from ≤ number
  pub last : number < from + chunk_count n
  pub there : chunk_in text places number ≡ Some bytes
  pub parents_are : (m : ℕ) → from < m → m < from + chunk_count n → parents m ≡ parent_in text places m
  pub inputs_are : (x : Input) → Contains (text_inputs mode text places) x → Contains inputs x

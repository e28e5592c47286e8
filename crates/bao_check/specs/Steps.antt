-- The parents of an encoding above a chunk, as the steps of the path down to it.
use Rattle.std.specs.Prelude.{ℕ, ◌+◌, nat_le, nat_lt, List, [], ◌∷◌, Bool, not, ◌&&◌, if◌then◌else◌}
use Rattle.bao_text.specs.Choice.{chunk_count}
use Rattle.bao_text.specs.NodeNames.{boundary}
use Rattle.bao_text.specs.Nodes.{TreeNode, left, right}
use Rattle.bao_check.specs.Accepted.{bytes_at}
use Rattle.bao_check.specs.Certificate.{Step}

-- whether the node is a parent of a subtree that contains chunk `number`
abbrev pub is_over : ℕ → TreeNode → Bool
is_over number node = not node.is_chunk && (nat_le node.number number && nat_lt number (node.number + chunk_count node.len))

-- a parent's 64 bytes, and the child that contains chunk `number`: the right one begins at the boundary
abbrev pub step_at : List ℕ → ℕ → ℕ × TreeNode → Step
step_at text number place = record { parent = bytes_at text place; side = if nat_lt number (boundary place.1) then left else right }

-- the encoding's parents above chunk `number`, the topmost first
abbrev pub steps_to : List ℕ → List (ℕ × TreeNode) → ℕ → List Step
steps_to text [] number = []
steps_to text (place ∷ places) number =
    if is_over number place.1 then step_at text number place ∷ steps_to text places number else steps_to text places number

-- What an accepted encoding contains.
use Rattle.std.specs.Prelude.{◌≡◌, ℕ, ◌+◌, ◌*◌, ◌/◌, ◌≤◌, ◌==◌, nat_lt, List, [], ◌∷◌, length, take, drop, Option, None, Some, ◌&&◌, if◌then◌else◌, Contains}
use Rattle.b3tree.specs.Tree.{left_len}
use Rattle.bao_text.specs.Choice.{chunk_count}
use Rattle.bao_text.specs.Nodes.{TreeNode, Side, left, right}
use Rattle.bao_check.specs.Accepted.{bytes_at, part_value}

-- the bytes of chunk `number` in an encoding, if it has that chunk
abbrev pub chunk_in : List ℕ → List (ℕ × TreeNode) → ℕ → Option (List ℕ)
chunk_in text [] number = None
chunk_in text (place ∷ places) number =
    if place.1.is_chunk && (place.1.number == number) then Some (bytes_at text place) else chunk_in text places number

-- chunk `number` of a blob; an empty blob has one empty chunk
abbrev pub chunk_of : List ℕ → ℕ → Option (List ℕ)
chunk_of blob number = if nat_lt number (chunk_count (length blob)) then Some (take 1024 (drop (1024 * number) blob)) else None

-- the node is a parent whose child on a side is chunk `number`
abbrev pub HasLeaf : Side → TreeNode → ℕ → Type 0
HasLeaf left node number = (left_len node.len ≡ 1024) × (number ≡ node.number)
HasLeaf right node number = (node.len ≤ left_len node.len + 1024) × (number ≡ node.number + left_len node.len / 1024)

-- a parent among the places has this value for chunk `number`
pub record IsLeafValue (text : List ℕ) (places : List (ℕ × TreeNode)) (number : ℕ) (value : List ℕ) : Type 0 where
  pub parent : ℕ × TreeNode
  pub side : Side
  pub there : Contains places parent
  pub over : HasLeaf side parent.1 number
  pub value_is : value ≡ part_value side (bytes_at text parent)

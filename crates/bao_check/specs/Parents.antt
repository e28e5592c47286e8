-- Which parents an encoding has.
use Rattle.std.specs.Prelude.{◌≡◌, ℕ, ◌+◌, ◌*◌, ◌<◌, ◌==◌, is_some, List, [], ◌∷◌, length, Bool, false, Option, None, Some, if◌then◌else◌}
use Rattle.std.specs.Int.{bit_at}
use Rattle.std.specs.Option.{option_map}
use Rattle.b3tree.specs.declared.mode.Mode.{Mode}
use Rattle.bao_text.specs.Choice.{of_combined}
use Rattle.bao_text.specs.NodeNames.{boundary}
use Rattle.bao_text.specs.Nodes.{TreeNode, chosen_nodes}
use Rattle.bao_text.specs.Texts.{node_text}
use Rattle.bao_check.specs.Accepted.{bytes_at}

-- whether the node is the parent whose right child begins at chunk `m`
abbrev pub is_parent_at : ℕ → TreeNode → Bool
is_parent_at m node = if node.is_chunk then false else boundary node == m

-- the 64 bytes of the encoding's parent whose right child begins at chunk `m`, if it has that parent
abbrev pub parent_in : List ℕ → List (ℕ × TreeNode) → ℕ → Option (List ℕ)
parent_in text [] m = None
parent_in text (place ∷ places) m = if is_parent_at m place.1 then Some (bytes_at text place) else parent_in text places m

-- the offset of the parent whose right child begins at chunk `m`, if it is one of the places
abbrev pub parent_place : List (ℕ × TreeNode) → ℕ → Option ℕ
parent_place [] m = None
parent_place (place ∷ places) m = if is_parent_at m place.1 then Some place.0 else parent_place places m

-- bit i of the mask is set exactly if the places have the parent whose right child begins at chunk 64 * group +
-- i
abbrev pub IsBoundaryMask : List (ℕ × TreeNode) → ℕ → ℕ → Type 0
IsBoundaryMask places group mask = (i : ℕ) → i < 64 → (bit_at mask i == 1) ≡ is_some (parent_place places (64 * group + i))

-- bit i of the mask is set exactly if the encoding has the parent whose right child begins at chunk 64 * group
-- + i
abbrev pub IsParentMask : List ℕ → List (ℕ × TreeNode) → ℕ → ℕ → Type 0
IsParentMask text places group mask = (i : ℕ) → i < 64 → (bit_at mask i == 1) ≡ is_some (parent_in text places (64 * group + i))

-- the node whose right child begins at chunk `m`
abbrev pub find_parent : List TreeNode → ℕ → Option TreeNode
find_parent [] m = None
find_parent (node ∷ nodes) m = if is_parent_at m node then Some node else find_parent nodes m

-- the 64 bytes of a blob's parent whose right child begins at chunk `m`, if its tree has that parent
abbrev pub parent_of : Mode → List ℕ → ℕ → Option (List ℕ)
parent_of mode blob m = option_map (node_text mode blob) (find_parent (chosen_nodes (of_combined (length blob)) (length blob)) m)

-- Which encodings are accepted under a root (Bao specification, on decoding).
use Rattle.std.specs.Prelude.{◌≡◌, ℕ, ◌+◌, ◌≤◌, List, [], ◌∷◌, ◌++◌, length, take, drop, sum_by, Contains, if◌then◌else◌}
use Rattle.std.specs.List.{AllByRecursion}
use Rattle.b3word.specs.declared.input.Input.{Input}
use Rattle.b3word.specs.Compression.{cv}
use Rattle.b3tree.specs.declared.mode.Mode.{Mode}
use Rattle.b3tree.specs.Bytes.{words_of}
use Rattle.b3tree.specs.Chunk.{last_chunk_input}
use Rattle.b3tree.specs.Tree.{parent_input}
use Rattle.b3tree.specs.Hashing.{rooted}
use Rattle.bao_text.specs.Choice.{of_outboard}
use Rattle.bao_text.specs.Cut.{claimed}
use Rattle.bao_text.specs.Nodes.{TreeNode, Side, chosen_nodes, left, nodes, placed_nodes, right, size}

-- the offset at which a node ends; a place is a node and the offset in the encoding at which it begins
abbrev pub end_of : ℕ × TreeNode → ℕ
end_of place = place.0 + size place.1

-- the bytes of the encoding at a place
abbrev pub bytes_at : List ℕ → ℕ × TreeNode → List ℕ
bytes_at text place = take (size place.1) (drop place.0 text)

-- The half of a parent's 64 bytes that is the chaining value of the child on a side. It is `unfoldable`, since opened
-- everywhere it makes the statements about a walk too large for the prover.
unfoldable pub part_value : Side → List ℕ → List ℕ
part_value left bytes = words_of 8 (take 32 bytes)
part_value right bytes = words_of 8 (drop 32 bytes)

-- the last compression of a node with these bytes: a chunk's last, or a parent's
abbrev pub node_input : Mode → TreeNode → List ℕ → Input
node_input mode node bytes =
    if node.is_chunk then last_chunk_input mode node.number bytes
    else parent_input mode (part_value left bytes) (part_value right bytes)

-- the last compression of the node at a place
abbrev pub input_at : Mode → List ℕ → ℕ × TreeNode → Input
input_at mode text place = node_input mode place.1 (bytes_at text place)

-- The node at a place has the value required there: at the top, with ROOT, the words of the root; below a
-- parent the half of it that the node's last side names.
abbrev pub IsAsked : Mode → List ℕ → List ℕ → List (ℕ × TreeNode) → ℕ × TreeNode → Type 0
IsAsked mode root text places place =
    (place.1.sides ≡ [] → cv (rooted (input_at mode text place)) ≡ words_of 8 root)
    × ((above : ℕ × TreeNode) (side : Side) → Contains places above → place.1.sides ≡ above.1.sides ++ side ∷ []
    → cv (input_at mode text place) ≡ part_value side (bytes_at text above))

-- the node is complete, and has the value required there
abbrev pub IsGoodNode : Mode → List ℕ → List ℕ → List (ℕ × TreeNode) → ℕ × TreeNode → Type 0
IsGoodNode mode root text places place = (end_of place ≤ length text) × IsAsked mode root text places place

-- an encoding's nodes with their offsets: the first 8 bytes are the length
abbrev pub places_of : List TreeNode → List (ℕ × TreeNode)
places_of nodes = placed_nodes 8 nodes

-- the offset at which the last node ends
abbrev pub text_end : List TreeNode → ℕ
text_end nodes = 8 + sum_by size nodes

-- the encoding is the length and these nodes, all of them good, and nothing follows
pub record IsAccepted (mode : Mode) (root text : List ℕ) (nodes : List TreeNode) : Type 0 where
  pub long : 8 ≤ length text
  pub good : AllByRecursion (IsGoodNode mode root text (places_of nodes)) (places_of nodes)
  pub ends : length text ≡ text_end nodes

-- the nodes of the slice (start, len) in an encoding, by the length that it claims
abbrev pub slice_nodes : List ℕ → ℕ → ℕ → List TreeNode
slice_nodes text start len = nodes (claimed text) start len

-- the nodes of an outboard encoding, by the length that it claims
abbrev pub outboard_nodes : List ℕ → List TreeNode
outboard_nodes text = chosen_nodes (of_outboard (claimed text)) (claimed text)

-- The nodes of a slice as C has them: with the bytes that they cover, and their offsets in the encodings.
use Rattle.std.specs.Prelude.{ℕ, ◌-◌, ◌*◌, List, [], ◌∷◌, max, nat_lt, if◌then◌else◌, Option, None, Some}
use Rattle.std.specs.Option.{option_map, unwrap_or}
use Rattle.bao_check.specs.Accepted.{places_of}
use Rattle.bao_check.specs.Parents.{parent_place}
use Rattle.bao_text.specs.Choice.{of_outboard}
use Rattle.bao_text.specs.NodeNames.{boundary}
use Rattle.bao_text.specs.Nodes.{TreeNode, chosen_nodes, nodes, size}
use Rattle.berylwool.specs.declared.nodes.BwPlaced.{BwPlaced}

-- the nodes of the outboard encoding of a blob of `total` bytes, with their offsets
abbrev pub outboard_places : ℕ → List (ℕ × TreeNode)
outboard_places total = places_of (chosen_nodes (of_outboard total) total)

-- A node of a blob of `total` bytes. The outboard encoding has each parent of the blob, at the offset of that
-- boundary, and no chunk.
abbrev pub placed_of : ℕ → TreeNode → BwPlaced
placed_of total node = record {
  kind = if node.is_chunk then 1 else 0;
  size = size node;
  number = if node.is_chunk then node.number else boundary node;
  start = 1024 * node.number;
  len = node.len;
  combined_at = node.source;
  outboard_at = if node.is_chunk then 0 else unwrap_or (parent_place (outboard_places total) (boundary node)) 0;
}

-- The node that has byte `at`, if the nodes' bytes follow one another. The chunk of an empty blob counts as one
-- byte.
abbrev pub node_over : List TreeNode → ℕ → Option TreeNode
node_over [] at = None
node_over (node ∷ rest) at = if nat_lt at (max (size node) 1) then Some node else node_over rest (at - size node)

-- what covers no byte of the blob: the length with which each encoding begins, and what is no node
abbrev pub over_no_byte : ℕ → ℕ → BwPlaced
over_no_byte kind size = record { kind = kind; size = size; number = 0; start = 0; len = 0; combined_at = 0; outboard_at = 0 }

-- the node that has byte `at` of the encoding of the slice (start, len) of a blob of `total` bytes: kind 2 is
-- the length, and kind 3 no node
abbrev pub placed_at : ℕ → ℕ → ℕ → ℕ → BwPlaced
placed_at total start len at =
    if nat_lt at 8 then over_no_byte 2 8
    else unwrap_or (option_map (placed_of total) (node_over (nodes total start len) (at - 8))) (over_no_byte 3 0)

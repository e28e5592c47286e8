-- The encodings of a blob: combined encoding, outboard encoding and slices (Bao specification).
use Rattle.std.specs.Prelude.{Vec, ℕ, zero, suc, ◌+◌, ◌*◌, ◌/◌, List, [], ◌++◌, length, take, drop, nat_le, if◌then◌else◌}
use Rattle.std.specs.Global.{Global}
use Rattle.std.specs.List.{flat_map}
use Rattle.std.specs.Int.{w64, to_le_bytes}
use Rattle.b3tree.specs.declared.mode.Mode.{Mode}
use Rattle.b3tree.specs.Bytes.{bytes_of}
use Rattle.b3tree.specs.Tree.{left_len, subtree_cv}
use Rattle.bao_text.specs.declared.choice.Choice.{Choice}
use Rattle.bao_text.specs.Choice.{of_combined, of_outboard, of_slice, wants}
use Rattle.bao_text.specs.Nodes.{TreeNode}

-- a chunk's bytes, where the choice has chunks
abbrev pub chunk_text : Choice → List ℕ → List ℕ
chunk_text choice s = if choice.chunks then s else []

-- the 64 bytes of the parent of the tree over s: the chaining values of its left and right part
abbrev pub parent_text : Mode → ℕ → List ℕ → List ℕ
parent_text mode first s =
    bytes_of (subtree_cv mode first (take (left_len (length s)) s))
    ++ bytes_of (subtree_cv mode (first + left_len (length s) / 1024) (drop (left_len (length s)) s))

-- the pre-order encoding of the subtree over s whose first chunk has the number `first`: nothing where it
-- isn't wanted, a chunk's bytes, a parent and then its left and its right part
unfoldable pub text_within : ℕ → Choice → Mode → ℕ → List ℕ → List ℕ
text_within zero choice mode first s = if wants choice (1024 * first) (length s) then chunk_text choice s else []
text_within (suc levels) choice mode first s =
    let l = left_len (length s) in
    if wants choice (1024 * first) (length s) then
    (if nat_le (length s) 1024 then chunk_text choice s
    else parent_text mode first s
    ++ (text_within levels choice mode first (take l s) ++ text_within levels choice mode (first + l / 1024) (drop l s)))
    else []

unfoldable pub subtree_text : Choice → Mode → ℕ → List ℕ → List ℕ
subtree_text choice mode first s = text_within (length s / 1024) choice mode first s

-- a length as 8 bytes, little-endian
abbrev pub length_text : ℕ → List ℕ
length_text n = to_le_bytes w64 n

-- the encoding of a blob for a choice: the blob's length, and the pre-order encoding of the whole tree
abbrev pub chosen_text : Choice → Mode → List ℕ → List ℕ
chosen_text choice mode blob = length_text (length blob) ++ subtree_text choice mode 0 blob

abbrev pub combined_text : Mode → List ℕ → List ℕ
combined_text mode blob = chosen_text (of_combined (length blob)) mode blob

abbrev pub outboard_text : Mode → List ℕ → List ℕ
outboard_text mode blob = chosen_text (of_outboard (length blob)) mode blob

abbrev pub slice_text : Mode → List ℕ → ℕ → ℕ → List ℕ
slice_text mode blob start len = chosen_text (of_slice (length blob) start len) mode blob

-- a node's bytes of the blob
abbrev pub node_span : List ℕ → TreeNode → List ℕ
node_span blob node = take node.len (drop (1024 * node.number) blob)

-- the bytes of a node in the encodings of the blob
abbrev pub node_text : Mode → List ℕ → TreeNode → List ℕ
node_text mode blob node = if node.is_chunk then node_span blob node else parent_text mode node.number (node_span blob node)

-- several encodings, one after another
abbrev pub joined : List (Vec ℕ Global) → List ℕ
joined texts = flat_map (λ text. text.items) texts

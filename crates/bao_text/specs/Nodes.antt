-- The nodes of an encoding, from numbers alone: the parents and chunks of a tree that a choice wants, in
-- pre-order (Bao specification, on encodings and slices).
use Rattle.std.specs.Prelude.{ℕ, zero, suc, ◌+◌, ◌-◌, ◌*◌, ◌/◌, List, [], ◌∷◌, ◌++◌, nat_le, Bool, true, false, if◌then◌else◌}
use Rattle.b3tree.specs.Tree.{left_len}
use Rattle.bao_text.specs.declared.choice.Choice.{Choice}
use Rattle.bao_text.specs.Choice.{chunk_count, of_slice, wants}

-- which child of its parent a subtree is
pub data Side : Type 0 where
  left : Side
  right : Side

-- a node: a chunk, or a parent with the subtree below it
pub record TreeNode : Type 0 where
  pub is_chunk : Bool
  -- the number of the subtree's first chunk
  pub number : ℕ
  -- how many bytes of the blob the subtree has
  pub len : ℕ
  -- the path from the root
  pub sides : List Side
  -- where the node begins in the combined encoding
  pub source : ℕ

-- the length in bytes of the node in an encoding
abbrev pub size : TreeNode → ℕ
size node = if node.is_chunk then node.len else 64

-- the length in bytes of a subtree over n bytes in the combined encoding
abbrev pub subtree_size : ℕ → ℕ
subtree_size n = n + 64 * (chunk_count n - 1)

-- the node of the chunk, where the choice has chunks
abbrev pub chunk_nodes : Choice → ℕ → ℕ → List Side → ℕ → List TreeNode
chunk_nodes choice number n sides source =
    if choice.chunks then record { is_chunk = true; number = number; len = n; sides = sides; source = source } ∷ [] else []

-- the nodes of the subtree of n bytes from chunk `number` on, which begins at `source` in the
-- combined encoding, in a tree of at most so many levels of parents
unfoldable pub nodes_within : ℕ → Choice → ℕ → ℕ → List Side → ℕ → List TreeNode
nodes_within zero choice number n sides source =
    if wants choice (1024 * number) n then chunk_nodes choice number n sides source else []
nodes_within (suc levels) choice number n sides source =
    let l = left_len n in
    if wants choice (1024 * number) n then
    (if nat_le n 1024 then chunk_nodes choice number n sides source
    else record { is_chunk = false; number = number; len = n; sides = sides; source = source }
    ∷ (nodes_within levels choice number l (sides ++ left ∷ []) (source + 64)
    ++ nodes_within levels choice (number + l / 1024) (n - l) (sides ++ right ∷ []) (source + 64 + subtree_size l)))
    else []

unfoldable pub subtree_nodes : Choice → ℕ → ℕ → List Side → ℕ → List TreeNode
subtree_nodes choice number n sides source = nodes_within (n / 1024) choice number n sides source

-- the nodes of a blob of `total` bytes that the choice wants; the first 8 bytes of an encoding are the length
abbrev pub chosen_nodes : Choice → ℕ → List TreeNode
chosen_nodes choice total = subtree_nodes choice 0 total [] 8

-- the nodes of the slice (start, len) of a blob of `total` bytes
abbrev pub nodes : ℕ → ℕ → ℕ → List TreeNode
nodes total start len = chosen_nodes (of_slice total start len) total

-- the nodes with their offsets in an encoding in which the first is at `at`
abbrev pub placed_nodes : ℕ → List TreeNode → List (ℕ × TreeNode)
placed_nodes at [] = []
placed_nodes at (node ∷ rest) = (at, node) ∷ placed_nodes (at + size node) rest

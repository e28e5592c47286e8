-- The encoding made of an outline and of chunks beside it, whose bytes are contiguous, as in the blob.
use Rattle.std.specs.Prelude.{◌≡◌, ℕ, ◌+◌, ◌-◌, ◌*◌, ◌/◌, ◌<◌, ◌≤◌, max, min, List, [], ◌++◌, take, drop, if◌then◌else◌}
use Rattle.std.specs.List.{flat_map}
use Rattle.std.specs.Option.{unwrap_or}
use Rattle.bao_text.specs.Cut.{claimed}
use Rattle.bao_text.specs.NodeNames.{boundary}
use Rattle.bao_text.specs.Nodes.{TreeNode, nodes}
use Rattle.bao_check.specs.Accepted.{outboard_nodes, places_of}
use Rattle.bao_check.specs.Parents.{parent_in}

-- The bytes of a node: a parent's are the outline's at its boundary, and chunk k's begin at offset 1024 * (k -
-- first) of the chunks.
abbrev pub node_beside : List ℕ → ℕ → List ℕ → TreeNode → List ℕ
node_beside outline first chunks node =
    if node.is_chunk then take node.len (drop (1024 * (node.number - first)) chunks)
    else unwrap_or (parent_in outline (places_of (outboard_nodes outline)) (boundary node)) []

-- the length in bytes of the chunks of the slice (start, len) of a blob of `total` bytes, if the slice begins
-- and ends with chunks of the blob
abbrev pub bare_len : ℕ → ℕ → ℕ → ℕ
bare_len total start len = min (start + max len 1) total - start

-- The slice encoding (start, len) made of the outline's length and parents and of the chunks, the first of
-- which is chunk start / 1024. What follows the last chunk follows the encoding.
abbrev pub beside_text : List ℕ → ℕ → ℕ → List ℕ → List ℕ
beside_text outline start len chunks =
    take 8 outline ++ (flat_map (node_beside outline (start / 1024) chunks) (nodes (claimed outline) start len) ++ drop (bare_len (claimed outline) start len) chunks)

-- The slice (start, len) of a blob of `total` bytes begins at a chunk of the blob, and ends at the end of a
-- chunk or of the blob.
pub record IsOfChunks (total start len : ℕ) : Type 0 where
  pub starts : 1024 * (start / 1024) ≡ start
  pub within : start < max total 1
  pub ends : min (1024 * ((start + max len 1 + 1023) / 1024)) total ≤ start + max len 1

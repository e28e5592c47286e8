-- A slice's encoding cut out of the bytes of a combined encoding, unchecked.
use Rattle.std.specs.Prelude.{◌≡◌, ℕ, ◌+◌, ◌<◌, ◌≤◌, List, [], ◌∷◌, ◌++◌, length, take, drop, nat_le, nat_lt, if◌then◌else◌, Bool, true, ◌&&◌, sum_by}
use Rattle.std.specs.Int.{w64, from_le_bytes}
use Rattle.bao_text.specs.Nodes.{TreeNode, nodes, size}

-- whether the encoding has all bytes of the node
abbrev pub has : List ℕ → TreeNode → Bool
has text node = nat_le (node.source + size node) (length text)

-- the bytes of the nodes one after another, up to the first that is incomplete, with the bytes of it that are
-- there
abbrev pub cut_nodes : List ℕ → List TreeNode → List ℕ
cut_nodes text [] = []
cut_nodes text (node ∷ rest) =
    if has text node then take (size node) (drop node.source text) ++ cut_nodes text rest else drop node.source text

-- whether all nodes are complete
abbrev pub has_all : List ℕ → List TreeNode → Bool
has_all text [] = true
has_all text (node ∷ rest) = has text node && has_all text rest

-- the length that the first 8 bytes claim
abbrev pub claimed : List ℕ → ℕ
claimed text = from_le_bytes w64 (take 8 text)

-- the cut encoding; fewer than 8 bytes stay as they are
abbrev pub cut_text : List ℕ → ℕ → ℕ → List ℕ
cut_text text start len =
    if nat_lt (length text) 8 then text else take 8 text ++ cut_nodes text (nodes (claimed text) start len)

-- how many bytes the slice (start, len) of a blob of `total` bytes has
abbrev pub slice_len : ℕ → ℕ → ℕ → ℕ
slice_len total start len = 8 + sum_by size (nodes total start len)

-- `new` is `old` followed by the nodes, cut out of the bytes, whichever these are, and by no more bytes than
-- the nodes have. The result says whether all nodes are complete, unless the nodes have no bytes.
pub record Cuts (Holds : List ℕ → Type 0) (old new : List ℕ) (nodes : List TreeNode) (n : ℕ) (whole : Bool) : Type 0 where
  pub cut : (bytes : List ℕ) → Holds bytes → new ≡ old ++ cut_nodes bytes nodes
  pub all : (bytes : List ℕ) → Holds bytes → 0 < n → whole ≡ has_all bytes nodes
  pub few : length new ≤ length old + sum_by size nodes

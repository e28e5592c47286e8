-- The nodes of a slice by name, and the subtrees whose nodes are still to come.
use Rattle.std.specs.Prelude.{◌≡◌, ℕ, ◌+◌, ◌-◌, ◌*◌, ◌/◌, ◌^◌, ◌≤◌, List, [], ◌∷◌, ◌++◌, map, true, if◌then◌else◌}
use Rattle.std.proofs.Math.Bool.{Bool-set}
use Rattle.std.specs.Coded.{×_prop, Unit-prop, le_prop}
use Rattle.b3tree.specs.Tree.{left_len}
use Rattle.bao_text.specs.declared.choice.Choice.{Choice}
use Rattle.bao_text.specs.declared.walk.Node.{Node}
use Rattle.bao_text.specs.declared.walk.Node.TheVariants.{Chunk, Parent}
use Rattle.bao_text.specs.declared.walk.WaitingSubtree.{WaitingSubtree}
use Rattle.bao_text.specs.Choice.{wants}
use Rattle.bao_text.specs.Nodes.{TreeNode, nodes, subtree_nodes}

-- the chunk with which a parent's right part begins: no other parent of the tree has that one
abbrev pub boundary : TreeNode → ℕ
boundary node = node.number + left_len node.len / 1024

-- a chunk by its number, a parent by its boundary
abbrev pub name : TreeNode → Node
name node = if node.is_chunk then Chunk node.number else Parent (boundary node)

-- the names of the wanted nodes of a subtree, wherever the subtree and its encoding are
abbrev pub node_names : Choice → ℕ → ℕ → List Node
node_names choice number n = map name (subtree_nodes choice number n [] 0)

-- the names of the nodes of the slice (start, len) of a blob of `total` bytes
abbrev pub slice_names : ℕ → ℕ → ℕ → List Node
slice_names total start len = map name (nodes total start len)

-- the names of the nodes of waiting subtrees, the last of them first
abbrev pub waiting_names : Choice → List WaitingSubtree → List Node
waiting_names choice [] = []
waiting_names choice (subtree ∷ rest) = waiting_names choice rest ++ node_names choice subtree.number subtree.len

-- a wanted subtree with at most so many levels of parents
abbrev pub IsWaiting : Choice → ℕ → WaitingSubtree → Type 0
IsWaiting choice levels subtree =
    (wants choice (1024 * subtree.number) subtree.len ≡ true) × ((1024 * subtree.number + subtree.len ≤ 2 ^ 64 - 1) × (subtree.len ≤ 1024 * 2 ^ levels))

IsWaiting-prop : (choice : Choice) (levels : ℕ) (subtree : WaitingSubtree) → IsProp (IsWaiting choice levels subtree)
IsWaiting-prop choice levels subtree = ×_prop (Bool-set (wants choice (1024 * subtree.number) subtree.len) true) (×_prop le_prop le_prop)

-- each waiting subtree is wanted, and has fewer levels than the one before it
abbrev pub AreWaiting : Choice → ℕ → List WaitingSubtree → Type 0
AreWaiting choice levels [] = Unit {0}
AreWaiting choice levels (subtree ∷ rest) = IsWaiting choice levels subtree × AreWaiting choice (levels - 1) rest

pub AreWaiting-prop : (choice : Choice) (levels : ℕ) (subtrees : List WaitingSubtree) → IsProp (AreWaiting choice levels subtrees)
AreWaiting-prop choice levels [] = Unit-prop
AreWaiting-prop choice levels (subtree ∷ rest) = ×_prop (IsWaiting-prop choice levels subtree) (AreWaiting-prop choice (levels - 1) rest)

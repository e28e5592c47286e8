-- The places of the parents of an outboard encoding: one after another, 64 bytes each.
use Rattle.std.proofs.Common.{◌≡◌, ℕ, zero, suc, ◌+◌, ◌*◌, ◌<◌, ◌≤◌, List, [], ◌∷◌, ◌++◌, length, take, false, true, refl, sym, ◌∙◌, ap, arith, inl, inr}
use Rattle.std.specs.List.{AllByRecursion, Contains}
use Rattle.bao_text.specs.declared.choice.Choice.{Choice}
use Rattle.bao_text.specs.Nodes.{TreeNode, Side, placed_nodes, size, subtree_nodes}
use Rattle.bao_check.proofs.EachNode.{each_node}
use Rattle.bao_check.proofs.Lists.{Contains-cons_cases, Contains-head, Contains-tail, nodes_size, nodes_size-cons}

-- the node is a parent
abbrev pub IsParentNode : TreeNode → Type 0
IsParentNode node = node.is_chunk ≡ false

-- a choice without chunks has parents alone
pub all_parents : (choice : Choice) (number n : ℕ) (sides : List Side) (source : ℕ) → choice.chunks ≡ false → AllByRecursion IsParentNode (subtree_nodes choice number n sides source)
all_parents choice number n sides source gone = each_node choice (λ number n sides source node. IsParentNode node)
    (λ number n sides source wanted one there. let bad : true ≡ false = sym there ∙ gone in cc) (λ number n sides source wanted more parts. refl)
    (λ number n sides source wanted more parts x member h. h) (λ number n sides source wanted more parts x member h. h) number n sides source

-- a parent is 64 bytes
pub parent_size : (node : TreeNode) → IsParentNode node → size node ≡ 64
parent_size node is = rw is refl

-- so many of them are 64 bytes each
pub parents_size : (nodes : List TreeNode) → AllByRecursion IsParentNode nodes → nodes_size nodes ≡ 64 * length nodes
parents_size [] all = refl
parents_size (node ∷ nodes) all = omega (arith, nodes_size-cons node nodes, parent_size node all.0, parents_size nodes all.1)

pub length-placed_nodes : (at : ℕ) (nodes : List TreeNode) → length (placed_nodes at nodes) ≡ length nodes
length-placed_nodes at [] = refl
length-placed_nodes at (node ∷ nodes) = ap suc (length-placed_nodes (at + size node) nodes)

-- none begins before the first
after_first : (at : ℕ) (nodes : List TreeNode) (place : ℕ × TreeNode) → Contains (placed_nodes at nodes) place → at ≤ place.0
after_first at [] place (k, within, is) = absurd (omega arith)
after_first at (node ∷ nodes) place there = elim (Contains-cons_cases (placed_nodes (at + size node) nodes) (at, node) place there) [
  | inl same ↦ let e : place.0 ≡ at = ap (λ (p : ℕ × TreeNode). p.0) same in omega arith
  | inr rest ↦ let later : at + size node ≤ place.0 = after_first (at + size node) nodes place rest in omega arith
]

-- the place is the one after the first k
pub record SplitAt (places : List (ℕ × TreeNode)) (k : ℕ) (place : ℕ × TreeNode) : Type 0 where
  pub later : List (ℕ × TreeNode)
  pub is : places ≡ take k places ++ place ∷ later
  pub grown : take (suc k) places ≡ take k places ++ place ∷ []

pub split_at : (at : ℕ) (nodes : List TreeNode) (k : ℕ) (place : ℕ × TreeNode) → AllByRecursion IsParentNode nodes → Contains (placed_nodes at nodes) place → place.0 ≡ at + 64 * k
    → SplitAt (placed_nodes at nodes) k place
split_at at [] k place all (j, within, is) at_is = absurd (omega arith)
split_at at (node ∷ nodes) zero place all there at_is = elim (Contains-cons_cases (placed_nodes (at + size node) nodes) (at, node) place there) [
  | inl same ↦
      record {
        later = placed_nodes (at + size node) nodes;
        is = ap (λ (p : ℕ × TreeNode). p ∷ placed_nodes (at + size node) nodes) (sym same);
        grown = ap (λ (p : ℕ × TreeNode). p ∷ []) (sym same);
      }
  | inr rest ↦ absurd (omega (arith, after_first (at + size node) nodes place rest, parent_size node all.0))
]
split_at at (node ∷ nodes) (suc k) place all there at_is = elim (Contains-cons_cases (placed_nodes (at + size node) nodes) (at, node) place there) [
  | inl same ↦ let e : place.0 ≡ at = ap (λ (p : ℕ × TreeNode). p.0) same in absurd (omega arith)
  | inr rest ↦
      let e : place.0 ≡ at + size node + 64 * k = omega (arith, parent_size node all.0) in
      let h : SplitAt (placed_nodes (at + size node) nodes) k place = split_at (at + size node) nodes k place all.1 rest e in
      record {
        later = h.later;
        is = ap (λ (ps : List (ℕ × TreeNode)). (at, node) ∷ ps) h.is;
        grown = ap (λ (ps : List (ℕ × TreeNode)). (at, node) ∷ ps) h.grown;
      }
]

-- there is one for each number below their count
pub record IsNth (places : List (ℕ × TreeNode)) (at : ℕ) (place : ℕ × TreeNode) : Type 0 where
  pub there : Contains places place
  pub at_is : place.0 ≡ at
  pub is_parent : IsParentNode place.1

pub nth : (at : ℕ) (nodes : List TreeNode) (k : ℕ) → AllByRecursion IsParentNode nodes → k < length nodes
    → (place : ℕ × TreeNode) × IsNth (placed_nodes at nodes) (at + 64 * k) place
nth at [] k all less = absurd (omega arith)
nth at (node ∷ nodes) zero all less =
    ((at, node), record { there = Contains-head (placed_nodes (at + size node) nodes) (at, node); at_is = omega arith; is_parent = all.0 })
nth at (node ∷ nodes) (suc k) all less =
    let found = nth (at + size node) nodes k all.1 (omega arith) in
    let h = found.1 in (
      found.0,
      record {
        there = Contains-tail (placed_nodes (at + size node) nodes) (at, node) found.0 h.there;
        at_is = omega (arith, h.at_is, parent_size node all.0);
        is_parent = h.is_parent;
      },
    )

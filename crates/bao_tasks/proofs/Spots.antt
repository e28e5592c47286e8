-- Nodes that are looked for by their places.
use Rattle.std.proofs.Common.{◌≡◌, ℕ, ◌+◌, ◌<◌, ◌≤◌, List, [], ◌∷◌, ◌++◌, Option, Some, None, inl, inr, refl, sym, ap, subst, ◌∙◌, arith}
use Rattle.std.proofs.lemmas.Bool.{cases_lt, le-ltb, lt-ltb}
use Rattle.bao_text.specs.Nodes.{TreeNode, Side, placed_nodes, size}
use Rattle.bao_text.proofs.SubtreeNodes.{parent_node}
use Rattle.bao_check.proofs.Lists.{nodes_size, nodes_size-cons, placed_nodes-append}
use Rattle.bao_check.proofs.Sizes.{nodes_size-parent}
use Rattle.bao_check.proofs.EachNode.{chunk_node}
use Rattle.bao_tasks.specs.declared.spot.Spot.{Spot}
use Rattle.bao_tasks.specs.declared.spot.Walk.{Walk}
use Rattle.bao_tasks.specs.declared.spot.Walk.TheVariants.{Past, Met}
use Rattle.bao_tasks.specs.Spots.{IsMet, met, spot_if}

-- a node that begins before the place, or doesn't
pub met-before : (at : ℕ) (place : ℕ × TreeNode) (rest : List (ℕ × TreeNode)) → place.0 < at → met at (place ∷ rest) ≡ met at rest
met-before at place rest before = rw (lt-ltb place.0 at before) refl

pub met-stop : (at : ℕ) (place : ℕ × TreeNode) (rest : List (ℕ × TreeNode)) → at ≤ place.0
    → met at (place ∷ rest) ≡ Some (spot_if place.1.is_chunk place.1.number place.1.len place.0 at)
met-stop at place rest order = rw (le-ltb place.0 at order) refl

-- what is met of two lists: of the first, unless all of it begins before the place
pub met-past : (at : ℕ) (xs ys : List (ℕ × TreeNode)) → met at xs ≡ None → met at (xs ++ ys) ≡ met at ys
met-past at [] ys past = refl
met-past at (x ∷ xs) ys past = elim (cases_lt x.0 at) [
  | inl before ↦ met-before at x (xs ++ ys) before ∙ met-past at xs ys (sym (met-before at x xs before) ∙ past)
  | inr order ↦
      let no : Some (spot_if x.1.is_chunk x.1.number x.1.len x.0 at) ≡ None = sym (met-stop at x xs order) ∙ past in cc
]

pub met-first : (at : ℕ) (xs ys : List (ℕ × TreeNode)) (spot : Option Spot) → met at xs ≡ Some spot → met at (xs ++ ys) ≡ Some spot
met-first at [] ys spot is = cc
met-first at (x ∷ xs) ys spot is = elim (cases_lt x.0 at) [
  | inl before ↦ met-before at x (xs ++ ys) before ∙ met-first at xs ys spot (sym (met-before at x xs before) ∙ is)
  | inr order ↦ met-stop at x (xs ++ ys) order ∙ sym (met-stop at x xs order) ∙ is
]

-- no node, and one chunk
pub past_none : (at here : ℕ) (nodes : List TreeNode) → nodes ≡ [] → IsMet at here nodes (Past here)
past_none at here nodes none = subst (λ (nodes : List TreeNode). IsMet at here nodes (Past here)) (sym none) (refl, omega arith)

pub past_chunk : (at here number n : ℕ) (sides : List Side) (source : ℕ) (nodes : List TreeNode) → nodes ≡ chunk_node number n sides source ∷ [] → here < at → IsMet at here nodes (Past (here + n))
past_chunk at here number n sides source nodes one before =
    let size : nodes_size (chunk_node number n sides source ∷ []) ≡ n = nodes_size-cons (chunk_node number n sides source) [] ∙ omega arith in
    subst (λ (nodes : List TreeNode). IsMet at here nodes (Past (here + n))) (sym one)
    (met-before at (here, chunk_node number n sides source) [] before, ap (λ (k : ℕ). here + k) (sym size))

-- the first node begins at the place or after it
pub met_node : (at here : ℕ) (node : TreeNode) (rest nodes : List TreeNode) (spot : Option Spot) → nodes ≡ node ∷ rest → at ≤ here → spot ≡ spot_if node.is_chunk node.number node.len here at
    → IsMet at here nodes (Met spot)
met_node at here node rest nodes spot are order is =
    subst (λ (nodes : List TreeNode). IsMet at here nodes (Met spot)) (sym are) (met-stop at (here, node) (placed_nodes (here + size node) rest) order ∙ ap Some (sym is))

-- below a parent that begins before the place
below_parent : (at here number n : ℕ) (sides : List Side) (source : ℕ) (near far : List TreeNode) → here < at
    → met at (placed_nodes here (parent_node number n sides source ∷ (near ++ far))) ≡ met at (placed_nodes (here + 64) near ++ placed_nodes (here + 64 + nodes_size near) far)
below_parent at here number n sides source near far before =
    met-before at (here, parent_node number n sides source) (placed_nodes (here + 64) (near ++ far)) before ∙ ap (met at) (placed_nodes-append (here + 64) near far)

pub met_left : (at here number n : ℕ) (sides : List Side) (source : ℕ) (near far : List TreeNode) (spot : Option Spot) → here < at
    → IsMet at (here + 64) near (Met spot) → IsMet at here (parent_node number n sides source ∷ (near ++ far)) (Met spot)
met_left at here number n sides source near far spot before p =
    below_parent at here number n sides source near far before
    ∙ met-first at (placed_nodes (here + 64) near) (placed_nodes (here + 64 + nodes_size near) far) spot p

pub met_right : (at here number n : ℕ) (sides : List Side) (source : ℕ) (near far : List TreeNode) (after : ℕ) (walk : Walk) → here < at
    → IsMet at (here + 64) near (Past after) → IsMet at after far walk → IsMet at here (parent_node number n sides source ∷ (near ++ far)) walk
met_right at here number n sides source near far after (Past end) before p q = (
  below_parent at here number n sides source near far before
      ∙ met-past at (placed_nodes (here + 64) near) (placed_nodes (here + 64 + nodes_size near) far) p.0
      ∙ ap (λ (k : ℕ). met at (placed_nodes k far)) (sym p.1) ∙ q.0,
  omega (arith, p.1, q.1, nodes_size-parent number n sides source near far),
)
met_right at here number n sides source near far after (Met spot) before p q =
    below_parent at here number n sides source near far before
    ∙ met-past at (placed_nodes (here + 64) near) (placed_nodes (here + 64 + nodes_size near) far) p.0
    ∙ ap (λ (k : ℕ). met at (placed_nodes k far)) (sym p.1) ∙ q

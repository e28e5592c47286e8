-- The parents of an encoding over a chunk are those of the parts that the chunk is in.
use Rattle.std.proofs.Common.{◌≡◌, ℕ, ◌+◌, ◌<◌, ◌≤◌, List, [], ◌∷◌, ◌++◌, true, false, refl, arith}
use Rattle.std.specs.List.{AllByRecursion}
use Rattle.std.proofs.lemmas.Bool.{and_parts, cases_Bool, le-leb, leb-true, lt-ltb, ltb-true}
use Rattle.bao_text.specs.declared.choice.Choice.{Choice}
use Rattle.bao_text.specs.Choice.{chunk_count}
use Rattle.bao_text.specs.Nodes.{TreeNode, Side, placed_nodes, subtree_nodes}
use Rattle.bao_text.proofs.SubtreeNodes.{parent_node}
use Rattle.bao_check.specs.Steps.{is_over, steps_to}
use Rattle.bao_check.proofs.Lists.{All-from_members, All-member}
use Rattle.bao_check.proofs.EachNode.{each_node}
use Rattle.bao_check.proofs.Locating.{count_left, count_parts}
use Rattle.bao_check.proofs.Parts.{placed_nodes-All}

-- a node's chunks are among those of the subtree
abbrev IsSpanned : ℕ → ℕ → TreeNode → Type 0
IsSpanned number count node = (number ≤ node.number) × (node.number + chunk_count node.len ≤ number + count)

spanned : (choice : Choice) (number n : ℕ) (sides : List Side) (source : ℕ) → AllByRecursion (IsSpanned number (chunk_count n)) (subtree_nodes choice number n sides source)
spanned choice = each_node choice (λ number n sides source node. IsSpanned number (chunk_count n) node)
    (λ number n sides source wanted one kept. (omega arith, omega arith)) (λ number n sides source wanted more parts. (omega arith, omega arith))
    (λ number n sides source wanted more parts x member h. (h.0, omega (arith, h.1, count_left n more, count_parts n more)))
    (λ number n sides source wanted more parts x member h. (omega (arith, h.0), omega (arith, h.1, count_parts n more)))

-- a chunk that is none of a node's
not_over : (number count k : ℕ) (node : TreeNode) → IsSpanned number count node → ((number ≤ k) × (k < number + count) → ⊥) → is_over k node ≡ false
not_over number count k node spanned outside = grind (arith, cases_Bool, and_parts, leb-true, ltb-true)

steps_none : (text : List ℕ) (places : List (ℕ × TreeNode)) (k : ℕ) → AllByRecursion (λ place. is_over k place.1 ≡ false) places → steps_to text places k ≡ []
steps_none text [] k all = refl
steps_none text (place ∷ places) k all = rw all.0 (steps_none text places k all.1)

-- so the nodes of a subtree without the chunk have no parent over it
pub steps_outside : (choice : Choice) (text : List ℕ) (number n at k source : ℕ) (sides : List Side) → ((number ≤ k) × (k < number + chunk_count n) → ⊥)
    → steps_to text (placed_nodes at (subtree_nodes choice number n sides source)) k ≡ []
steps_outside choice text number n at k source sides outside =
    let nodes : List TreeNode = subtree_nodes choice number n sides source in
    steps_none text (placed_nodes at nodes) k
    (placed_nodes-All (λ node. is_over k node ≡ false) at nodes
    (All-from_members (λ node. is_over k node ≡ false) nodes
    (λ x h. not_over number (chunk_count n) k x
    (All-member (IsSpanned number (chunk_count n)) nodes (spanned choice number n sides source) x h) outside)))

pub steps_to-append : (text : List ℕ) (xs ys : List (ℕ × TreeNode)) (k : ℕ) → steps_to text (xs ++ ys) k ≡ steps_to text xs k ++ steps_to text ys k
steps_to-append text [] ys k = refl
steps_to-append text (x ∷ xs) ys k = grind (arith, cases_Bool, steps_to-append text xs ys k)

-- the parent over a subtree that has the chunk
pub is_over-parent : (number n k : ℕ) (sides : List Side) (source : ℕ) → number ≤ k → k < number + chunk_count n → is_over k (parent_node number n sides source) ≡ true
is_over-parent number n k sides source low high = rw (le-leb number k low, lt-ltb k (number + chunk_count n) high) refl

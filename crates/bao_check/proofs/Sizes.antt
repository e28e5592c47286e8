-- How many bytes of an encoding the nodes of a subtree are, and how many of a blob its chunks.
use Rattle.std.proofs.Common.{◌≡◌, ℕ, ◌+◌, ◌-◌, ◌*◌, ◌/◌, ◌<◌, ◌≤◌, max, min, List, ◌∷◌, ◌++◌, true, false, refl, ◌∙◌, arith, inl, inr}
use Rattle.std.proofs.lemmas.Bool.{and_from, cases_Bool, lt-ltb}
use Rattle.std.proofs.lemmas.List.Sums.{sum_by-append}
use Rattle.b3tree.specs.Tree.{left_len}
use Rattle.bao_text.specs.declared.choice.Choice.{Choice}
use Rattle.bao_text.specs.Choice.{chunk_count, wants}
use Rattle.bao_text.specs.Nodes.{TreeNode, Side, subtree_nodes}
use Rattle.bao_text.proofs.Everything.{chunk_part}
use Rattle.bao_text.proofs.SubtreeNodes.{parent_node, subtree_nodes-leaf, subtree_nodes-parent, subtree_nodes-unwanted}
use Rattle.bao_text.proofs.SubtreeText.{Parts, left_len-Parts}
use Rattle.bao_text.proofs.Halves.{by_halves, far_nodes, near_nodes}
use Rattle.bao_check.specs.HasPart.{Inside}
use Rattle.bao_check.proofs.EachNode.{leaf_nodes, leaf_without}
use Rattle.bao_check.proofs.Lists.{nodes_size, nodes_size-cons}

-- a parent and its two parts
pub nodes_size-parent : (number n : ℕ) (sides : List Side) (source : ℕ) (near far : List TreeNode)
    → nodes_size (parent_node number n sides source ∷ (near ++ far)) ≡ 64 + (nodes_size near + nodes_size far)
nodes_size-parent number n sides source near far = search (arith, nodes_size-cons, parent_node, sum_by-append)

-- a subtree all of whose positions the choice has is wanted
pub wants_whole : (choice : Choice) (at n : ℕ) → choice.start ≤ at → at + max n 1 ≤ choice.end → wants choice at n ≡ true
wants_whole choice at n start end = and_from _ _ (lt-ltb at choice.end (omega arith)) (lt-ltb choice.start (at + max n 1) (omega arith))

parts_sum : (choice : Choice) (n : ℕ) → 1024 < n
    → 64 + (chunk_part choice (left_len n) + 64 * (chunk_count (left_len n) - 1) + (chunk_part choice (n - left_len n) + 64 * (chunk_count (n - left_len n) - 1)))
    ≡ chunk_part choice n + 64 * (chunk_count n - 1)
parts_sum choice n more =
    let l : ℕ = left_len n in
    let parts : Parts n l = left_len-Parts n more in
    let back : chunk_part choice l + chunk_part choice (n - l) ≡ chunk_part choice n =
    elim (cases_Bool choice.chunks) [ inl there ↦ rw there (omega (arith, parts.below)) | inr gone ↦ rw gone refl ] in
    let count : chunk_count n ≡ chunk_count l + chunk_count (n - l) = omega (arith, parts.whole, parts.some, parts.below) in
    omega (arith, parts.some)

size-small : (choice : Choice) (number n : ℕ) (sides : List Side) (source : ℕ) → n ≤ 1024 → choice.start ≤ 1024 * number → 1024 * number + max n 1 ≤ choice.end
    → nodes_size (subtree_nodes choice number n sides source) ≡ chunk_part choice n + 64 * (chunk_count n - 1)
size-small choice number n sides source one start end = grind (arith, subtree_nodes-leaf, wants_whole, cases_Bool)

-- a wanted subtree of more than one chunk: its parent and its two parts
pub nodes_size-parts : (choice : Choice) (number n : ℕ) (sides : List Side) (source : ℕ) → wants choice (1024 * number) n ≡ true → 1024 < n
    → nodes_size (subtree_nodes choice number n sides source) ≡ 64 + (nodes_size (near_nodes choice number n sides source) + nodes_size (far_nodes choice number n sides source))
nodes_size-parts choice number n sides source wanted more = search (arith, subtree_nodes-parent, nodes_size-parent)

-- a subtree that the choice wants whole: all its parents, and its bytes where the choice has chunks
pub nodes_size-whole : (choice : Choice) (number n : ℕ) (sides : List Side) (source : ℕ) → choice.start ≤ 1024 * number → 1024 * number + max n 1 ≤ choice.end
    → nodes_size (subtree_nodes choice number n sides source) ≡ chunk_part choice n + 64 * (chunk_count n - 1)
nodes_size-whole choice = by_halves
    (λ number n sides source. choice.start ≤ 1024 * number → 1024 * number + max n 1 ≤ choice.end
    → nodes_size (subtree_nodes choice number n sides source) ≡ chunk_part choice n + 64 * (chunk_count n - 1))
    (λ number n sides source one start end. size-small choice number n sides source one start end)
    (λ number n sides source more parts near far start end.
    nodes_size-parts choice number n sides source (wants_whole choice (1024 * number) n start end) more
    ∙ (λ i. 64 + (near start (omega (arith, end, parts.some, parts.below)) i + far (omega (arith, start)) (omega (arith, end, parts.whole, parts.below)) i))
    ∙ parts_sum choice n more)

pub nodes_size-with_chunks : (choice : Choice) (number n : ℕ) (sides : List Side) (source : ℕ) → choice.start ≤ 1024 * number → 1024 * number + max n 1 ≤ choice.end
    → choice.chunks ≡ true → nodes_size (subtree_nodes choice number n sides source) ≡ n + 64 * (chunk_count n - 1)
nodes_size-with_chunks choice number n sides source start end there = grind (arith, nodes_size-whole)

pub nodes_size-without_chunks : (choice : Choice) (number n : ℕ) (sides : List Side) (source : ℕ) → choice.start ≤ 1024 * number → 1024 * number + max n 1 ≤ choice.end
    → choice.chunks ≡ false → nodes_size (subtree_nodes choice number n sides source) ≡ 64 * (chunk_count n - 1)
nodes_size-without_chunks choice number n sides source start end gone = grind (arith, nodes_size-whole)

-- the whole tree, and the two parts of a subtree, are of the tree
pub Inside-whole : (total : ℕ) → Inside total 0 total
Inside-whole total = record { within = omega arith; full = λ less. absurd (omega arith); some = omega arith }

pub Inside-near : (total number n : ℕ) → 1024 < n → Inside total number n → Inside total number (left_len n)
Inside-near total number n more inside =
    let parts : Parts n (left_len n) = left_len-Parts n more in
    record { within = omega (arith, parts.below, inside.within); full = λ _. parts.whole; some = omega (arith, parts.some) }

pub Inside-far : (total number n : ℕ) → 1024 < n → Inside total number n → Inside total (number + left_len n / 1024) (n - left_len n)
Inside-far total number n more inside = search (arith, left_len-Parts)

-- a single chunk has as many bytes as its number says
pub chunk_size : (total number n : ℕ) → Inside total number n → n ≤ 1024 → min 1024 (total - 1024 * number) ≡ n
chunk_size total number n inside one = grind (arith, inside.within, inside.full, inside.some)

-- what the size of nodes is
pub ruleset sizes_told = (nodes_size-parts, subtree_nodes-unwanted, leaf_nodes, leaf_without, nodes_size-cons, nodes_size-with_chunks, nodes_size-without_chunks)

-- Where the nodes of a subtree have a chunk, and how many bytes they are.
use Rattle.std.proofs.Common.{◌≡◌, ◌≢◌, ℕ, ◌+◌, ◌-◌, ◌*◌, ◌/◌, ◌<◌, ◌≤◌, List, [], ◌∷◌, ◌++◌, length, take, drop, Bool, true, false, None, Some, IfSome, refl, ap, ◌∙◌, arith}
use Rattle.std.specs.List.{AllByRecursion}
use Rattle.std.specs.Option.{option_map}
use Rattle.std.specs.Prelude.{◌&&◌}
use Rattle.std.proofs.lemmas.Bool.{cases_Bool}
use Rattle.std.proofs.lemmas.Bool.Decides.{eqb_tells}
use Rattle.b3tree.specs.Tree.{left_len}
use Rattle.b3tree.specs.declared.mode.Mode.{Mode}
use Rattle.bao_text.specs.declared.choice.Choice.{Choice}
use Rattle.bao_text.specs.Choice.{chunk_count, wants}
use Rattle.bao_text.specs.NodeNames.{boundary}
use Rattle.bao_text.specs.Nodes.{TreeNode, Side, left, placed_nodes, right, size, subtree_nodes, subtree_size}
use Rattle.bao_text.proofs.SubtreeNodes.{subtree_nodes-unwanted}
use Rattle.bao_text.proofs.SubtreeText.{Parts, left_len-Parts}
use Rattle.bao_check.specs.Accepted.{IsAccepted, IsGoodNode, end_of, places_of}
use Rattle.bao_check.specs.Pieces.{chunk_in}
use Rattle.bao_check.specs.Spans.{chunk_place}
use Rattle.bao_check.proofs.Lists.{All-from_members, All-member, nodes_size}
use Rattle.bao_check.proofs.Parts.{placed_nodes-All, placed_nodes-parent}
use Rattle.bao_check.proofs.EachNode.{each_node, leaf_nodes, leaf_without}

-- the chunks of the two parts
pub count_left : (n : ℕ) → 1024 < n → chunk_count (left_len n) ≡ left_len n / 1024
count_left n more = let parts : Parts n (left_len n) = left_len-Parts n more in omega (arith, parts.whole, parts.some)

pub left_whole : (n : ℕ) → 1024 < n → 1024 * (left_len n / 1024) ≡ left_len n
left_whole n more = let parts : Parts n (left_len n) = left_len-Parts n more in parts.whole

pub count_parts : (n : ℕ) → 1024 < n → chunk_count n ≡ left_len n / 1024 + chunk_count (n - left_len n)
count_parts n more = let parts : Parts n (left_len n) = left_len-Parts n more in omega (arith, parts.whole, parts.some, parts.below)

-- the nodes' chunk numbers lie in the subtree
abbrev pub IsWithin : ℕ → ℕ → TreeNode → Type 0
IsWithin number count node = (number ≤ node.number) × (node.number < number + count)

-- a parent's right part begins within the subtree, and not at its start
abbrev pub IsInside : ℕ → ℕ → TreeNode → Type 0
IsInside number count node = node.is_chunk ≡ false → (number < boundary node) × (boundary node < number + count)

abbrev IsAmong : ℕ → ℕ → TreeNode → Type 0
IsAmong number count node = IsWithin number count node × IsInside number count node

among : (choice : Choice) (number n : ℕ) (sides : List Side) (source : ℕ) → AllByRecursion (IsAmong number (chunk_count n)) (subtree_nodes choice number n sides source)
among choice = each_node choice (λ number n sides source node. IsAmong number (chunk_count n) node)
    (λ number n sides source wanted one kept. ((omega arith, omega arith), λ e. let bad : true ≡ false = e in cc))
    (λ number n sides source wanted more parts. ((omega arith, omega arith), λ _. (omega (arith, parts.whole, parts.some), omega (arith, count_parts n more))))
    (λ number n sides source wanted more parts x member h.
    ((h.0.0, omega (arith, h.0.1, count_left n more, count_parts n more)), λ parent. let inside = h.1 parent in (inside.0, omega (arith, inside.1, count_left n more, count_parts n more))))
    (λ number n sides source wanted more parts x member h.
    ((omega (arith, h.0.0), omega (arith, h.0.1, count_parts n more)), λ parent. let inside = h.1 parent in (omega (arith, inside.0), omega (arith, inside.1, count_parts n more))))

pub numbers_within : (choice : Choice) (number n : ℕ) (sides : List Side) (source : ℕ) → AllByRecursion (IsWithin number (chunk_count n)) (subtree_nodes choice number n sides source)
numbers_within choice number n sides source =
    let nodes : List TreeNode = subtree_nodes choice number n sides source in
    All-from_members (IsWithin number (chunk_count n)) nodes (λ x h. (All-member (IsAmong number (chunk_count n)) nodes (among choice number n sides source) x h).0)

pub boundaries_inside : (choice : Choice) (number n : ℕ) (sides : List Side) (source : ℕ) → AllByRecursion (IsInside number (chunk_count n)) (subtree_nodes choice number n sides source)
boundaries_inside choice number n sides source =
    let nodes : List TreeNode = subtree_nodes choice number n sides source in
    All-from_members (IsInside number (chunk_count n)) nodes (λ x h. (All-member (IsAmong number (chunk_count n)) nodes (among choice number n sides source) x h).1)

pub and_false : (b : Bool) → (b && false) ≡ false
and_false true = refl
and_false false = refl

pub chunk_place-none : (places : List (ℕ × TreeNode)) (i : ℕ) → AllByRecursion (λ place. place.1.number ≢ i) places → chunk_place places i ≡ None
chunk_place-none [] i all = refl
chunk_place-none (place ∷ places) i all = grind (arith, eqb_tells, cases_Bool, chunk_place-none places i all.1)

pub chunk_place-first : (xs ys : List (ℕ × TreeNode)) (i : ℕ) → AllByRecursion (λ place. place.1.number ≢ i) ys → chunk_place (xs ++ ys) i ≡ chunk_place xs i
chunk_place-first [] ys i all = chunk_place-none ys i all
chunk_place-first (x ∷ xs) ys i all = grind (arith, cases_Bool, chunk_place-first xs ys i all)

pub chunk_place-second : (xs ys : List (ℕ × TreeNode)) (i : ℕ) → AllByRecursion (λ place. place.1.number ≢ i) xs → chunk_place (xs ++ ys) i ≡ chunk_place ys i
chunk_place-second [] ys i all = refl
chunk_place-second (x ∷ xs) ys i all = grind (arith, eqb_tells, cases_Bool, chunk_place-second xs ys i all.1)

-- no chunk outside a subtree is among its places
others : (choice : Choice) (number n i at source : ℕ) (sides : List Side) → ((number ≤ i) × (i < number + chunk_count n) → ⊥)
    → AllByRecursion (λ place. place.1.number ≢ i) (placed_nodes at (subtree_nodes choice number n sides source))
others choice number n i at source sides outside =
    let nodes : List TreeNode = subtree_nodes choice number n sides source in
    placed_nodes-All (λ node. node.number ≢ i) at nodes
    (All-from_members (λ node. node.number ≢ i) nodes
    (λ x h same.
    let w : IsWithin number (chunk_count n) x = All-member (IsWithin number (chunk_count n)) nodes (numbers_within choice number n sides source) x h in
    outside (omega (arith, same, w.0), omega (arith, same, w.1))))

pub chunk_place-outside : (choice : Choice) (number n : ℕ) (sides : List Side) (source at i : ℕ) → ((number ≤ i) × (i < number + chunk_count n) → ⊥)
    → chunk_place (placed_nodes at (subtree_nodes choice number n sides source)) i ≡ None
chunk_place-outside choice number n sides source at i outside = search (arith, chunk_place-none, others)

-- chunk i in a subtree of more than one chunk: in its left part, or in its right part
module _ (choice : Choice) (number n : ℕ) (sides : List Side) (source at i : ℕ) (wanted : wants choice (1024 * number) n ≡ true) (more : 1024 < n) where
  abbrev near_nodes : List TreeNode
  near_nodes = subtree_nodes choice number (left_len n) (sides ++ left ∷ []) (source + 64)

  abbrev far_nodes : List TreeNode
  far_nodes = subtree_nodes choice (number + left_len n / 1024) (n - left_len n) (sides ++ right ∷ []) (source + 64 + subtree_size (left_len n))

  pub chunk_place-near : i < number + left_len n / 1024 → chunk_place (placed_nodes at (subtree_nodes choice number n sides source)) i ≡ chunk_place (placed_nodes (at + 64) near_nodes) i
  chunk_place-near before =
      let far_at : ℕ = at + 64 + nodes_size near_nodes in
      ap (λ (ps : List (ℕ × TreeNode)). chunk_place ps i) (placed_nodes-parent choice number n sides source at wanted more)
      ∙ chunk_place-first (placed_nodes (at + 64) near_nodes) (placed_nodes far_at far_nodes) i
      (others choice (number + left_len n / 1024) (n - left_len n) i far_at (source + 64 + subtree_size (left_len n)) (sides ++ right ∷ []) (λ h. omega (arith, h.0, before)))

  pub chunk_place-far : number + left_len n / 1024 ≤ i
      → chunk_place (placed_nodes at (subtree_nodes choice number n sides source)) i ≡ chunk_place (placed_nodes (at + 64 + nodes_size near_nodes) far_nodes) i
  chunk_place-far after =
      let far_at : ℕ = at + 64 + nodes_size near_nodes in
      let count : chunk_count (left_len n) ≡ left_len n / 1024 = count_left n more in
      ap (λ (ps : List (ℕ × TreeNode)). chunk_place ps i) (placed_nodes-parent choice number n sides source at wanted more)
      ∙ chunk_place-second (placed_nodes (at + 64) near_nodes) (placed_nodes far_at far_nodes) i
      (others choice number (left_len n) i (at + 64) (source + 64) (sides ++ left ∷ []) (λ h. omega (arith, h.1, count, after)))

pub chunk_place-unwanted : (choice : Choice) (number n : ℕ) (sides : List Side) (source at i : ℕ) → wants choice (1024 * number) n ≡ false
    → chunk_place (placed_nodes at (subtree_nodes choice number n sides source)) i ≡ None
chunk_place-unwanted choice number n sides source at i skipped = grind (arith, subtree_nodes-unwanted)

pub chunk_place-leaf : (choice : Choice) (number n : ℕ) (sides : List Side) (source at : ℕ) → wants choice (1024 * number) n ≡ true → n ≤ 1024 → choice.chunks ≡ true
    → chunk_place (placed_nodes at (subtree_nodes choice number n sides source)) number ≡ Some (record { at = at; len = n })
chunk_place-leaf choice number n sides source at wanted one there = grind (arith, leaf_nodes, eqb_tells)

pub chunk_place-without : (choice : Choice) (number n : ℕ) (sides : List Side) (source at i : ℕ) → wants choice (1024 * number) n ≡ true → n ≤ 1024 → choice.chunks ≡ false
    → chunk_place (placed_nodes at (subtree_nodes choice number n sides source)) i ≡ None
chunk_place-without choice number n sides source at i wanted one gone = grind (arith, leaf_without)

-- the bytes of a chunk are those at its place
pub chunk_in-place : (text : List ℕ) (places : List (ℕ × TreeNode)) (i : ℕ) → chunk_in text places i ≡ option_map (λ span. take span.len (drop span.at text)) (chunk_place places i)
chunk_in-place text [] i = refl
chunk_in-place text (place ∷ places) i = grind (arith, cases_Bool, chunk_in-place text places i, chunk_in-place text places i)

-- the nodes of an accepted encoding lie within it
pub accepted_within : {mode : Mode} {root text : List ℕ} {nodes : List TreeNode} → IsAccepted mode root text nodes → AllByRecursion (λ place. end_of place ≤ length text) (places_of nodes)
accepted_within {mode} {root} {text} {nodes} accepted =
    All-from_members _ (places_of nodes) (λ place there. (All-member (IsGoodNode mode root text (places_of nodes)) (places_of nodes) accepted.good place there).0)

-- a chunk of an accepted encoding lies within it
pub chunk_place-within : (size : ℕ) (places : List (ℕ × TreeNode)) (i : ℕ) → AllByRecursion (λ place. end_of place ≤ size) places
    → IfSome (chunk_place places i) (λ span. span.at + span.len ≤ size)
chunk_place-within size [] i all = tt
chunk_place-within size (place ∷ places) i all = grind (arith, cases_Bool, chunk_place-within size places i all.1, chunk_place-within size places i all.1)

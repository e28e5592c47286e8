-- Where the nodes of a subtree have a parent.
use Rattle.std.proofs.Common.{◌≡◌, ◌≢◌, ℕ, ◌+◌, ◌-◌, ◌*◌, ◌/◌, ◌<◌, ◌≤◌, List, [], ◌∷◌, ◌++◌, take, drop, true, false, None, Some, Option, is_some, IfSome, refl, ap, ◌∙◌, arith, inl, inr}
use Rattle.std.specs.List.{AllByRecursion}
use Rattle.std.specs.Option.{option_map}
use Rattle.std.proofs.lemmas.Bool.{cases_Bool}
use Rattle.std.proofs.lemmas.Bool.Decides.{eqb_tells}
use Rattle.b3tree.specs.Tree.{left_len}
use Rattle.bao_text.specs.declared.choice.Choice.{Choice}
use Rattle.bao_text.specs.Choice.{chunk_count, wants}
use Rattle.bao_text.specs.Nodes.{TreeNode, Side, left, placed_nodes, right, subtree_nodes, subtree_size}
use Rattle.bao_text.proofs.SubtreeNodes.{subtree_nodes-unwanted}
use Rattle.bao_text.proofs.SubtreeText.{Parts, left_len-Parts}
use Rattle.bao_check.specs.Accepted.{end_of}
use Rattle.bao_text.specs.NodeNames.{boundary}
use Rattle.bao_check.specs.Parents.{is_parent_at, parent_in, parent_place}
use Rattle.bao_check.proofs.Lists.{All-from_members, All-member, nodes_size}
use Rattle.bao_check.proofs.Locating.{IsInside, boundaries_inside}
use Rattle.bao_check.proofs.Parts.{placed_nodes-All, placed_nodes-parent}

-- a node that isn't that parent
pub not_parent_at : (m : ℕ) (node : TreeNode) → (node.is_chunk ≡ false → boundary node ≢ m) → is_parent_at m node ≡ false
not_parent_at m node differ = grind (arith, cases_Bool, eqb_tells)

-- a subtree without it
abbrev Lacks : ℕ → List (ℕ × TreeNode) → Type 0
Lacks m places = AllByRecursion (λ place. is_parent_at m place.1 ≡ false) places

pub outside_lacks : (choice : Choice) (number n m at source : ℕ) (sides : List Side) → ((number < m) × (m < number + chunk_count n) → ⊥)
    → Lacks m (placed_nodes at (subtree_nodes choice number n sides source))
outside_lacks choice number n m at source sides outside =
    let nodes : List TreeNode = subtree_nodes choice number n sides source in
    placed_nodes-All (λ node. is_parent_at m node ≡ false) at nodes
    (All-from_members (λ node. is_parent_at m node ≡ false) nodes
    (λ x h. not_parent_at m x
    (λ parent same.
    let w = All-member (IsInside number (chunk_count n)) nodes (boundaries_inside choice number n sides source) x h parent in
    let low : number < boundary x = w.0 in let high : boundary x < number + chunk_count n = w.1 in
    outside (omega (arith, same), omega (arith, same)))))

pub parent_place-none : (places : List (ℕ × TreeNode)) (m : ℕ) → Lacks m places → parent_place places m ≡ None
parent_place-none [] m all = refl
parent_place-none (place ∷ places) m all = rw all.0 (parent_place-none places m all.1)

parent_place-first : (xs ys : List (ℕ × TreeNode)) (m : ℕ) → Lacks m ys → parent_place (xs ++ ys) m ≡ parent_place xs m
parent_place-first [] ys m all = parent_place-none ys m all
parent_place-first (x ∷ xs) ys m all = grind (arith, cases_Bool, parent_place-first xs ys m all)

parent_place-second : (xs ys : List (ℕ × TreeNode)) (m : ℕ) → Lacks m xs → parent_place (xs ++ ys) m ≡ parent_place ys m
parent_place-second [] ys m all = refl
parent_place-second (x ∷ xs) ys m all = rw all.0 (parent_place-second xs ys m all.1)

module _ (choice : Choice) (number n : ℕ) (sides : List Side) (source at m : ℕ) (wanted : wants choice (1024 * number) n ≡ true) (more : 1024 < n) where
  abbrev near_nodes : List TreeNode
  near_nodes = subtree_nodes choice number (left_len n) (sides ++ left ∷ []) (source + 64)

  abbrev far_nodes : List TreeNode
  far_nodes = subtree_nodes choice (number + left_len n / 1024) (n - left_len n) (sides ++ right ∷ []) (source + 64 + subtree_size (left_len n))

  abbrev all_places : List (ℕ × TreeNode)
  all_places = placed_nodes at (subtree_nodes choice number n sides source)

  near_count : chunk_count (left_len n) ≡ left_len n / 1024
  near_count = let parts : Parts n (left_len n) = left_len-Parts n more in omega (arith, parts.whole, parts.some)

  -- the subtree's own parent
  pub parent_place-here : number + left_len n / 1024 ≡ m → parent_place all_places m ≡ Some at
  parent_place-here same = grind (arith, eqb_tells, placed_nodes-parent)

  -- one of its left part, or of its right part
  pub parent_place-near : m < number + left_len n / 1024 → parent_place all_places m ≡ parent_place (placed_nodes (at + 64) near_nodes) m
  parent_place-near before = elim (eqb_tells (number + left_len n / 1024) m) [
    | inl hit ↦ absurd (omega (arith, hit.1))
    | inr other ↦
        let far_at : ℕ = at + 64 + nodes_size near_nodes in
        ap (λ (ps : List (ℕ × TreeNode)). parent_place ps m) (placed_nodes-parent choice number n sides source at wanted more)
        ∙ rw other.0 (parent_place-first (placed_nodes (at + 64) near_nodes) (placed_nodes far_at far_nodes) m
        (outside_lacks choice (number + left_len n / 1024) (n - left_len n) m far_at (source + 64 + subtree_size (left_len n)) (sides ++ right ∷ []) (λ h. omega (arith, h.0))))
  ]

  pub parent_place-far : number + left_len n / 1024 < m → parent_place all_places m ≡ parent_place (placed_nodes (at + 64 + nodes_size near_nodes) far_nodes) m
  parent_place-far after = elim (eqb_tells (number + left_len n / 1024) m) [
    | inl hit ↦ absurd (omega (arith, hit.1))
    | inr other ↦
        let far_at : ℕ = at + 64 + nodes_size near_nodes in
        ap (λ (ps : List (ℕ × TreeNode)). parent_place ps m) (placed_nodes-parent choice number n sides source at wanted more)
        ∙ rw other.0 (parent_place-second (placed_nodes (at + 64) near_nodes) (placed_nodes far_at far_nodes) m
        (outside_lacks choice number (left_len n) m (at + 64) (source + 64) (sides ++ left ∷ []) (λ h. omega (arith, h.1, near_count))))
  ]

pub parent_place-unwanted : (choice : Choice) (number n : ℕ) (sides : List Side) (source at m : ℕ) → wants choice (1024 * number) n ≡ false
    → parent_place (placed_nodes at (subtree_nodes choice number n sides source)) m ≡ None
parent_place-unwanted choice number n sides source at m skipped = grind (arith, subtree_nodes-unwanted)

-- the bytes of a parent are those at its place
pub parent_in-place : (text : List ℕ) (places : List (ℕ × TreeNode)) (m : ℕ) → parent_in text places m ≡ option_map (λ at. take 64 (drop at text)) (parent_place places m)
parent_in-place text [] m = refl
parent_in-place text (place ∷ places) m = grind (arith, cases_Bool, parent_in-place text places m, parent_in-place text places m)

pub some_too : {X Y : Type 0} (f : X → Y) (place : Option X) → is_some (option_map f place) ≡ is_some place
some_too f None = refl
some_too f (Some at) = refl

-- so it has bytes where it has a place
pub parent_in-some : (text : List ℕ) (places : List (ℕ × TreeNode)) (m : ℕ) → is_some (parent_in text places m) ≡ is_some (parent_place places m)
parent_in-some text places m = grind (arith, parent_in-place, some_too)

-- a parent of an accepted encoding lies within it
pub parent_place-within : (size : ℕ) (places : List (ℕ × TreeNode)) (m : ℕ) → AllByRecursion (λ place. end_of place ≤ size) places
    → IfSome (parent_place places m) (λ at. at + 64 ≤ size)
parent_place-within size [] m all = tt
parent_place-within size (place ∷ places) m all = grind (arith, cases_Bool, parent_place-within size places m all.1, parent_place-within size places m all.1)

-- where parents are read
pub ruleset parents_read = (parent_in-place, parent_in-some, parent_place-within)

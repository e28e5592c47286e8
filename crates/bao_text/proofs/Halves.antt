-- Induction along a tree: what holds of a chunk, and of a subtree where it holds of its two parts, holds of each subtree.
use Rattle.std.proofs.Common.{ℕ, zero, suc, ◌+◌, ◌-◌, ◌*◌, ◌/◌, ◌<◌, ◌≤◌, List, [], ◌∷◌, ◌++◌, ◌≡◌, true, false, arith, inl, inr}
use Rattle.std.proofs.lemmas.Bool.{cases_Bool, cases_lt}
use Rattle.b3tree.specs.Tree.{left_len}
use Rattle.bao_text.specs.declared.choice.Choice.{Choice}
use Rattle.bao_text.specs.Choice.{wants}
use Rattle.bao_text.specs.Nodes.{TreeNode, Side, chunk_nodes, left, right, subtree_nodes, subtree_size}
use Rattle.bao_text.proofs.SubtreeNodes.{parent_node, subtree_nodes-leaf, subtree_nodes-parent, subtree_nodes-unwanted}
use Rattle.bao_text.proofs.SubtreeText.{Parts, left_len-Parts}

-- of the subtree over n bytes from chunk `number` on, with the way to it and the place of its encoding
abbrev pub OfSubtree : Type 1
OfSubtree = ℕ → ℕ → List Side → ℕ → Type 0

-- of its two parts
abbrev pub Near : OfSubtree → ℕ → ℕ → List Side → ℕ → Type 0
Near P number n sides source = P number (left_len n) (sides ++ left ∷ []) (source + 64)

abbrev pub Far : OfSubtree → ℕ → ℕ → List Side → ℕ → Type 0
Far P number n sides source = P (number + left_len n / 1024) (n - left_len n) (sides ++ right ∷ []) (source + 64 + subtree_size (left_len n))

-- the wanted nodes of its two parts
abbrev pub near_nodes : Choice → ℕ → ℕ → List Side → ℕ → List TreeNode
near_nodes choice number n sides source = subtree_nodes choice number (left_len n) (sides ++ left ∷ []) (source + 64)

abbrev pub far_nodes : Choice → ℕ → ℕ → List Side → ℕ → List TreeNode
far_nodes choice number n sides source = subtree_nodes choice (number + left_len n / 1024) (n - left_len n) (sides ++ right ∷ []) (source + 64 + subtree_size (left_len n))

module _ (P : OfSubtree) (small : (number n : ℕ) (sides : List Side) (source : ℕ) → n ≤ 1024 → P number n sides source)
    (large : (number n : ℕ) (sides : List Side) (source : ℕ) → 1024 < n → Parts n (left_len n) → Near P number n sides source → Far P number n sides source → P number n sides source) where
  by_levels : (levels number n : ℕ) (sides : List Side) (source : ℕ) → n ≤ 1024 * levels + 1024 → P number n sides source
  by_levels zero number n sides source hn = small number n sides source (omega arith)
  by_levels (suc levels) number n sides source hn = elim (cases_lt 1024 n) [
    | inr one ↦ small number n sides source one
    | inl more ↦
        let l : ℕ = left_len n in
        let parts : Parts n l = left_len-Parts n more in
        large number n sides source more parts
        (by_levels levels number l (sides ++ left ∷ []) (source + 64) (omega (arith, parts.whole, parts.below)))
        (by_levels levels (number + l / 1024) (n - l) (sides ++ right ∷ []) (source + 64 + subtree_size l) (omega (arith, parts.some)))
  ]

  pub by_halves : (number n : ℕ) (sides : List Side) (source : ℕ) → P number n sides source
  by_halves number n sides source = by_levels n number n sides source (omega arith)

-- the same along the nodes that a choice wants: where nothing is wanted there are none
module _ (choice : Choice) (P : ℕ → ℕ → List Side → ℕ → List TreeNode → Type 0)
    (none : (number n : ℕ) (sides : List Side) (source : ℕ) → wants choice (1024 * number) n ≡ false → P number n sides source [])
    (small : (number n : ℕ) (sides : List Side) (source : ℕ) → wants choice (1024 * number) n ≡ true → n ≤ 1024 → P number n sides source (chunk_nodes choice number n sides source))
    (large : (number n : ℕ) (sides : List Side) (source : ℕ) → wants choice (1024 * number) n ≡ true → 1024 < n → Parts n (left_len n)
    → P number (left_len n) (sides ++ left ∷ []) (source + 64) (near_nodes choice number n sides source)
    → P (number + left_len n / 1024) (n - left_len n) (sides ++ right ∷ []) (source + 64 + subtree_size (left_len n)) (far_nodes choice number n sides source)
    → P number n sides source (parent_node number n sides source ∷ (near_nodes choice number n sides source ++ far_nodes choice number n sides source))) where
  pub by_nodes : (number n : ℕ) (sides : List Side) (source : ℕ) → P number n sides source (subtree_nodes choice number n sides source)
  by_nodes = by_halves (λ number n sides source. P number n sides source (subtree_nodes choice number n sides source))
      (λ number n sides source one. elim (cases_Bool (wants choice (1024 * number) n)) [
        | inl wanted ↦ rw (subtree_nodes-leaf choice number n sides source wanted one) (small number n sides source wanted one)
        | inr skipped ↦ rw (subtree_nodes-unwanted choice number n sides source skipped) (none number n sides source skipped)
      ])
      (λ number n sides source more parts near far. elim (cases_Bool (wants choice (1024 * number) n)) [
        | inl wanted ↦ rw (subtree_nodes-parent choice number n sides source wanted more) (large number n sides source wanted more parts near far)
        | inr skipped ↦ rw (subtree_nodes-unwanted choice number n sides source skipped) (none number n sides source skipped)
      ])

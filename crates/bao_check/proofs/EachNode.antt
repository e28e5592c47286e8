-- What holds of a chunk, and of a parent where it holds of its two parts, holds of each subtree: induction along the tree.
use Rattle.std.proofs.Common.{◌≡◌, ℕ, ◌*◌, ◌<◌, ◌≤◌, List, [], ◌∷◌, ◌++◌, true, false, refl, sym, subst, ◌∙◌, inl, inr}
use Rattle.std.specs.List.{AllByRecursion, Contains}
use Rattle.std.proofs.lemmas.Bool.{cases_Bool}
use Rattle.b3tree.specs.Tree.{left_len}
use Rattle.bao_text.specs.declared.choice.Choice.{Choice}
use Rattle.bao_text.specs.Choice.{wants}
use Rattle.bao_text.specs.Nodes.{TreeNode, Side, chunk_nodes, subtree_nodes}
use Rattle.bao_text.proofs.Halves.{Far, Near, by_halves, far_nodes, near_nodes}
use Rattle.bao_text.proofs.SubtreeNodes.{parent_node, subtree_nodes-leaf, subtree_nodes-parent, subtree_nodes-unwanted}
use Rattle.bao_text.proofs.SubtreeText.{Parts}
use Rattle.bao_check.proofs.Lists.{All-append, All-from_members, All-member}

-- one chunk
abbrev pub chunk_node : ℕ → ℕ → List Side → ℕ → TreeNode
chunk_node number n sides source = record { is_chunk = true; number = number; len = n; sides = sides; source = source }

-- the nodes of a wanted chunk
pub leaf_nodes : (choice : Choice) (number n : ℕ) (sides : List Side) (source : ℕ) → wants choice (1024 * number) n ≡ true → n ≤ 1024 → choice.chunks ≡ true
    → subtree_nodes choice number n sides source ≡ chunk_node number n sides source ∷ []
leaf_nodes choice number n sides source wanted one there = subtree_nodes-leaf choice number n sides source wanted one ∙ rw there refl

pub leaf_without : (choice : Choice) (number n : ℕ) (sides : List Side) (source : ℕ) → wants choice (1024 * number) n ≡ true → n ≤ 1024 → choice.chunks ≡ false
    → subtree_nodes choice number n sides source ≡ []
leaf_without choice number n sides source wanted one gone = subtree_nodes-leaf choice number n sides source wanted one ∙ rw gone refl

-- by the nodes that a choice wants of it
module _ (choice : Choice) (P : ℕ → ℕ → List Side → ℕ → List TreeNode → Type 0)
    (skipped : (number n : ℕ) (sides : List Side) (source : ℕ) → wants choice (1024 * number) n ≡ false → P number n sides source [])
    (leaf : (number n : ℕ) (sides : List Side) (source : ℕ) → wants choice (1024 * number) n ≡ true → n ≤ 1024 → P number n sides source (chunk_nodes choice number n sides source))
    (parent : (number n : ℕ) (sides : List Side) (source : ℕ) → wants choice (1024 * number) n ≡ true → 1024 < n → Parts n (left_len n)
    → Near (λ k m way at. P k m way at (subtree_nodes choice k m way at)) number n sides source → Far (λ k m way at. P k m way at (subtree_nodes choice k m way at)) number n sides source
    → P number n sides source (parent_node number n sides source
    ∷ (near_nodes choice number n sides source ++ far_nodes choice number n sides source))) where
  pub by_nodes : (number n : ℕ) (sides : List Side) (source : ℕ) → P number n sides source (subtree_nodes choice number n sides source)
  by_nodes = by_halves (λ number n sides source. P number n sides source (subtree_nodes choice number n sides source))
      (λ number n sides source one. elim (cases_Bool (wants choice (1024 * number) n)) [
        | inr unwanted ↦ subst (P number n sides source) (sym (subtree_nodes-unwanted choice number n sides source unwanted)) (skipped number n sides source unwanted)
        | inl wanted ↦ subst (P number n sides source) (sym (subtree_nodes-leaf choice number n sides source wanted one)) (leaf number n sides source wanted one)
      ])
      (λ number n sides source more parts near far. elim (cases_Bool (wants choice (1024 * number) n)) [
        | inr unwanted ↦ subst (P number n sides source) (sym (subtree_nodes-unwanted choice number n sides source unwanted)) (skipped number n sides source unwanted)
        | inl wanted ↦
            subst (P number n sides source) (sym (subtree_nodes-parent choice number n sides source wanted more)) (parent number n sides source wanted more parts near far)
      ])

-- by each node, where what a part says of it is what the whole says
module _ (choice : Choice) (Q : ℕ → ℕ → List Side → ℕ → TreeNode → Type 0)
    (chunk : (number n : ℕ) (sides : List Side) (source : ℕ) → wants choice (1024 * number) n ≡ true → n ≤ 1024 → choice.chunks ≡ true
    → Q number n sides source (chunk_node number n sides source))
    (parent : (number n : ℕ) (sides : List Side) (source : ℕ) → wants choice (1024 * number) n ≡ true → 1024 < n → Parts n (left_len n)
    → Q number n sides source (parent_node number n sides source))
    (near : (number n : ℕ) (sides : List Side) (source : ℕ) → wants choice (1024 * number) n ≡ true → 1024 < n → Parts n (left_len n) → (x : TreeNode)
    → Contains (near_nodes choice number n sides source) x → Near (λ k m way at. Q k m way at x) number n sides source → Q number n sides source x)
    (far : (number n : ℕ) (sides : List Side) (source : ℕ) → wants choice (1024 * number) n ≡ true → 1024 < n → Parts n (left_len n) → (x : TreeNode)
    → Contains (far_nodes choice number n sides source) x → Far (λ k m way at. Q k m way at x) number n sides source → Q number n sides source x) where
  abbrev All : ℕ → ℕ → List Side → ℕ → List TreeNode → Type 0
  All number n sides source nodes = AllByRecursion (Q number n sides source) nodes

  pub each_node : (number n : ℕ) (sides : List Side) (source : ℕ) → AllByRecursion (Q number n sides source) (subtree_nodes choice number n sides source)
  each_node = by_nodes choice All
      (λ number n sides source unwanted. tt)
      (λ number n sides source wanted one. elim (cases_Bool choice.chunks) [
        | inl kept ↦ rw kept (chunk number n sides source wanted one kept, tt)
        | inr gone ↦ rw gone tt
      ])
      (λ number n sides source wanted more parts in_near in_far.
      let nears : List TreeNode = near_nodes choice number n sides source in
      let fars : List TreeNode = far_nodes choice number n sides source in
      let own : TreeNode → Type 0 = Q number n sides source in (
        parent number n sides source wanted more parts,
        All-append own nears fars
            (All-from_members own nears (λ x h. near number n sides source wanted more parts x h (All-member _ nears in_near x h)))
            (All-from_members own fars (λ x h. far number n sides source wanted more parts x h (All-member _ fars in_far x h))),
      ))

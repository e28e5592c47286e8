-- The nodes of a subtree are the recursive definition: the levels that `nodes_within` is given do not matter.
use Rattle.std.proofs.Common.{◌≡◌, ℕ, zero, suc, ◌+◌, ◌-◌, ◌*◌, ◌/◌, ◌<◌, ◌≤◌, List, [], ◌∷◌, ◌++◌, if◌then◌else◌, true, false, refl, ◌∙◌, arith}
use Rattle.std.proofs.lemmas.Bool.{le-leb, lt-leb}
use Rattle.b3tree.specs.Tree.{left_len}
use Rattle.bao_text.specs.declared.choice.Choice.{Choice}
use Rattle.bao_text.specs.Choice.{wants}
use Rattle.bao_text.specs.Nodes.{TreeNode, Side, chunk_nodes, left, nodes_within, right, subtree_nodes, subtree_size}
use Rattle.bao_text.proofs.SubtreeText.{Parts, left_len-Parts, of_parts}

-- the node of a parent
abbrev pub parent_node : ℕ → ℕ → List Side → ℕ → TreeNode
parent_node number n sides source = record { is_chunk = false; number = number; len = n; sides = sides; source = source }

-- one chunk needs no levels
nodes_within-small : (k : ℕ) (choice : Choice) (number n : ℕ) (sides : List Side) (source : ℕ) → n ≤ 1024
    → nodes_within k choice number n sides source ≡ (if wants choice (1024 * number) n then chunk_nodes choice number n sides source else [])
unfolding nodes_within
nodes_within-small zero choice number n sides source one = refl
nodes_within-small (suc k) choice number n sides source one = rw (le-leb _ _ one) refl

nodes_within-unwanted : (k : ℕ) (choice : Choice) (number n : ℕ) (sides : List Side) (source : ℕ) → wants choice (1024 * number) n ≡ false → nodes_within k choice number n sides source ≡ []
unfolding nodes_within
nodes_within-unwanted zero choice number n sides source skipped = rw skipped refl
nodes_within-unwanted (suc k) choice number n sides source skipped = rw skipped refl

pub subtree_nodes-unwanted : (choice : Choice) (number n : ℕ) (sides : List Side) (source : ℕ) → wants choice (1024 * number) n ≡ false → subtree_nodes choice number n sides source ≡ []
unfolding subtree_nodes
subtree_nodes-unwanted choice number n sides source skipped = nodes_within-unwanted (n / 1024) choice number n sides source skipped

pub subtree_nodes-leaf : (choice : Choice) (number n : ℕ) (sides : List Side) (source : ℕ) → wants choice (1024 * number) n ≡ true → n ≤ 1024
    → subtree_nodes choice number n sides source ≡ chunk_nodes choice number n sides source
unfolding subtree_nodes
subtree_nodes-leaf choice number n sides source wanted one = nodes_within-small (n / 1024) choice number n sides source one ∙ rw wanted refl

pub subtree_nodes-parent : (choice : Choice) (number n : ℕ) (sides : List Side) (source : ℕ) → wants choice (1024 * number) n ≡ true → 1024 < n
    → subtree_nodes choice number n sides source
    ≡ parent_node number n sides source
    ∷ (subtree_nodes choice number (left_len n) (sides ++ left ∷ []) (source + 64)
    ++ subtree_nodes choice (number + left_len n / 1024) (n - left_len n) (sides ++ right ∷ []) (source + 64 + subtree_size (left_len n)))
unfolding subtree_nodes nodes_within
subtree_nodes-parent choice number n sides source wanted more =
    of_parts (ℕ × ℕ × List Side × ℕ) (List TreeNode) (λ x. x.1)
    (λ x. (x.0, left_len x.1, x.2 ++ left ∷ [], x.3 + 64))
    (λ x. (x.0 + left_len x.1 / 1024, x.1 - left_len x.1, x.2 ++ right ∷ [], x.3 + 64 + subtree_size (left_len x.1)))
    (λ x. if wants choice (1024 * x.0) x.1 then chunk_nodes choice x.0 x.1 x.2 x.3 else [])
    (λ x a b. if wants choice (1024 * x.0) x.1 then parent_node x.0 x.1 x.2 x.3 ∷ (a ++ b) else [])
    (λ k x. nodes_within k choice x.0 x.1 x.2 x.3)
    (λ k x more fits.
    let parts : Parts x.1 (left_len x.1) = left_len-Parts x.1 more in
    (omega (arith, parts.whole, parts.below), omega (arith, parts.some)))
    (λ k x one. nodes_within-small k choice x.0 x.1 x.2 x.3 one)
    (λ k x more. rw (lt-leb _ _ more) refl)
    (number, n, sides, source) more
    ∙ rw wanted refl

-- the bytes of a subtree are its parent's and those of its parts
pub subtree_size-parts : (n : ℕ) → 1024 < n → subtree_size n ≡ 64 + subtree_size (left_len n) + subtree_size (n - left_len n)
subtree_size-parts n more =
    let l : ℕ = left_len n in
    let parts : Parts n l = left_len-Parts n more in
    omega (arith, parts.whole, parts.some, parts.below)

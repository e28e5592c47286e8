-- No two nodes of a slice begin at one place of its encoding.
use Rattle.std.proofs.Common.{◌≡◌, ◌⊎◌, inl, inr, ℕ, zero, suc, ◌+◌, ◌-◌, ◌*◌, ◌/◌, ◌<◌, ◌≤◌, Bool, true, cond, List, [], ◌∷◌, ◌++◌, refl, sym, ap, subst, ◌∙◌, arith}
use Rattle.std.specs.List.{AllByRecursion}
use Rattle.std.proofs.lemmas.Bool.{cases_Bool, cases_lt}
use Rattle.b3tree.specs.Tree.{left_len}
use Rattle.bao_text.specs.declared.choice.Choice.{Choice}
use Rattle.bao_text.specs.Choice.{of_slice, wants}
use Rattle.bao_text.specs.Nodes.{TreeNode, Side, chunk_nodes, left, nodes, placed_nodes, right, size, subtree_nodes, subtree_size}
use Rattle.bao_text.proofs.SubtreeNodes.{subtree_nodes-leaf, subtree_nodes-parent, subtree_nodes-unwanted}
use Rattle.bao_text.proofs.SubtreeText.{Parts, left_len-Parts}
use Rattle.bao_check.proofs.Lists.{All-append}

abbrev HasBytes : TreeNode → Type 0
HasBytes node = 0 < size node

abbrev AllHave : List TreeNode → Type 0
AllHave nodes = AllByRecursion HasBytes nodes

-- at most one node
abbrev Few : List TreeNode → Type 0
Few nodes = (nodes ≡ []) ⊎ ((node : TreeNode) × (nodes ≡ node ∷ []))

chunk_has : (choice : Choice) (number n : ℕ) (sides : List Side) (source : ℕ) → 0 < n → AllHave (chunk_nodes choice number n sides source)
chunk_has choice number n sides source some =
    let node : TreeNode = record { is_chunk = true; number = number; len = n; sides = sides; source = source } in
    elim (cases_Bool choice.chunks) [
      | inl has ↦ subst (λ (b : Bool). AllHave (cond b (node ∷ []) [])) (sym has) (some, tt)
      | inr none ↦ subst (λ (b : Bool). AllHave (cond b (node ∷ []) [])) (sym none) tt
    ]

chunk_few : (choice : Choice) (number n : ℕ) (sides : List Side) (source : ℕ) → Few (chunk_nodes choice number n sides source)
chunk_few choice number n sides source =
    let node : TreeNode = record { is_chunk = true; number = number; len = n; sides = sides; source = source } in
    elim (cases_Bool choice.chunks) [
      | inl has ↦ subst (λ (b : Bool). Few (cond b (node ∷ []) [])) (sym has) (inr (node, refl))
      | inr none ↦ subst (λ (b : Bool). Few (cond b (node ∷ []) [])) (sym none) (inl refl)
    ]

-- each node of a tree over some bytes has bytes
all_have : (levels : ℕ) (choice : Choice) (number n : ℕ) (sides : List Side) (source : ℕ) → 0 < n → n ≤ 1024 * levels + 1024 → AllHave (subtree_nodes choice number n sides source)
all_have zero choice number n sides source some bound = elim (cases_Bool (wants choice (1024 * number) n)) [
  | inr skipped ↦ subst AllHave (sym (subtree_nodes-unwanted choice number n sides source skipped)) tt
  | inl wanted ↦ subst AllHave (sym (subtree_nodes-leaf choice number n sides source wanted (omega (arith, bound)))) (chunk_has choice number n sides source some)
]
all_have (suc levels) choice number n sides source some bound = elim (cases_Bool (wants choice (1024 * number) n)) [
  | inr skipped ↦ subst AllHave (sym (subtree_nodes-unwanted choice number n sides source skipped)) tt
  | inl wanted ↦
      elim (cases_lt 1024 n) [
        | inr one ↦ subst AllHave (sym (subtree_nodes-leaf choice number n sides source wanted one)) (chunk_has choice number n sides source some)
        | inl more ↦
            let l : ℕ = left_len n in
            let parts : Parts n l = left_len-Parts n more in
            let near = all_have levels choice number l (sides ++ left ∷ []) (source + 64) (omega (arith, parts.some)) (omega (arith, parts.whole, parts.below, bound)) in
            let far = all_have levels choice (number + l / 1024) (n - l) (sides ++ right ∷ []) (source + 64 + subtree_size l) (omega (arith, parts.below)) (omega (arith, parts.some, bound)) in
            subst AllHave (sym (subtree_nodes-parent choice number n sides source wanted more)) (
              omega arith,
              All-append HasBytes (subtree_nodes choice number l (sides ++ left ∷ []) (source + 64))
                  (subtree_nodes choice (number + l / 1024) (n - l) (sides ++ right ∷ []) (source + 64 + subtree_size l)) near far,
            )
      ]
]

-- a tree over no byte has one chunk
few_of_none : (choice : Choice) (number n : ℕ) (sides : List Side) (source : ℕ) → n ≡ 0 → Few (subtree_nodes choice number n sides source)
few_of_none choice number n sides source none = elim (cases_Bool (wants choice (1024 * number) n)) [
  | inr skipped ↦ inl (subtree_nodes-unwanted choice number n sides source skipped)
  | inl wanted ↦ subst Few (sym (subtree_nodes-leaf choice number n sides source wanted (omega (arith, none)))) (chunk_few choice number n sides source)
]

-- a node begins no sooner than the first
begins_after : (at : ℕ) (nodes : List TreeNode) (before : List (ℕ × TreeNode)) (p : ℕ × TreeNode) (after : List (ℕ × TreeNode)) → placed_nodes at nodes ≡ before ++ p ∷ after → at ≤ p.0
begins_after at [] [] p after e = absurd (let no : [] ≡ p ∷ after = e in cc)
begins_after at [] (x ∷ before) p after e = absurd (let no : [] ≡ x ∷ (before ++ p ∷ after) = e in cc)
begins_after at (node ∷ nodes) [] p after e =
    let head : (at, node) ≡ p = cc in
    let place : at ≡ p.0 = ap (λ (w : ℕ × TreeNode). w.0) head in omega (arith, place)
begins_after at (node ∷ nodes) (x ∷ before) p after e =
    let tail : placed_nodes (at + size node) nodes ≡ before ++ p ∷ after = cc in
    let more = begins_after (at + size node) nodes before p after tail in omega (arith, more)

one_place : (at : ℕ) (nodes : List TreeNode) (before also : List (ℕ × TreeNode)) (p q : ℕ × TreeNode) (after rest : List (ℕ × TreeNode)) → AllHave nodes
    → placed_nodes at nodes ≡ before ++ p ∷ after → placed_nodes at nodes ≡ also ++ q ∷ rest → p.0 ≡ q.0 → p ≡ q
one_place at [] [] also p q after rest have e f same = absurd (let no : [] ≡ p ∷ after = e in cc)
one_place at [] (x ∷ before) also p q after rest have e f same = absurd (let no : [] ≡ x ∷ (before ++ p ∷ after) = e in cc)
one_place at (node ∷ nodes) [] [] p q after rest have e f same = cc
one_place at (node ∷ nodes) [] (y ∷ also) p q after rest have e f same =
    let head : (at, node) ≡ p = cc in
    let place : at ≡ p.0 = ap (λ (w : ℕ × TreeNode). w.0) head in
    let tail : placed_nodes (at + size node) nodes ≡ also ++ q ∷ rest = cc in
    let more = begins_after (at + size node) nodes also q rest tail in absurd (omega (arith, place, more, same, have.0))
one_place at (node ∷ nodes) (x ∷ before) [] p q after rest have e f same =
    let head : (at, node) ≡ q = cc in
    let place : at ≡ q.0 = ap (λ (w : ℕ × TreeNode). w.0) head in
    let tail : placed_nodes (at + size node) nodes ≡ before ++ p ∷ after = cc in
    let more = begins_after (at + size node) nodes before p after tail in absurd (omega (arith, place, more, same, have.0))
one_place at (node ∷ nodes) (x ∷ before) (y ∷ also) p q after rest have e f same =
    let tail : placed_nodes (at + size node) nodes ≡ before ++ p ∷ after = cc in
    let other : placed_nodes (at + size node) nodes ≡ also ++ q ∷ rest = cc in
    one_place (at + size node) nodes before also p q after rest have.1 tail other same

-- nor do two of few
only_place : (w : ℕ × TreeNode) (before : List (ℕ × TreeNode)) (p : ℕ × TreeNode) (after : List (ℕ × TreeNode)) → w ∷ [] ≡ before ++ p ∷ after → w ≡ p
only_place w [] p after e = cc
only_place w (x ∷ []) p after e = absurd (let no : [] ≡ p ∷ after = cc in cc)
only_place w (x ∷ (y ∷ before)) p after e = absurd (let no : [] ≡ y ∷ (before ++ p ∷ after) = cc in cc)

few_place : (at : ℕ) (nodes : List TreeNode) (before also : List (ℕ × TreeNode)) (p q : ℕ × TreeNode) (after rest : List (ℕ × TreeNode)) → Few nodes
    → placed_nodes at nodes ≡ before ++ p ∷ after → placed_nodes at nodes ≡ also ++ q ∷ rest → p.0 ≡ q.0 → p ≡ q
few_place at nodes before also p q after rest (inl none) e f same =
    one_place at [] before also p q after rest tt (ap (placed_nodes at) (sym none) ∙ e) (ap (placed_nodes at) (sym none) ∙ f) same
few_place at nodes before also p q after rest (inr (node, one)) e f same =
    sym (only_place (at, node) before p after (ap (placed_nodes at) (sym one) ∙ e)) ∙ only_place (at, node) also q rest (ap (placed_nodes at) (sym one) ∙ f)

pub same_place : (total start len : ℕ) (before also : List (ℕ × TreeNode)) (p q : ℕ × TreeNode) (after rest : List (ℕ × TreeNode))
    → placed_nodes 8 (nodes total start len) ≡ before ++ p ∷ after → placed_nodes 8 (nodes total start len) ≡ also ++ q ∷ rest → p.0 ≡ q.0 → p ≡ q
same_place total start len before also p q after rest e f same = elim (cases_lt 0 total) [
  | inl some ↦ one_place 8 (nodes total start len) before also p q after rest (all_have total (of_slice total start len) 0 total [] 8 some (omega arith)) e f same
  | inr none ↦ few_place 8 (nodes total start len) before also p q after rest (few_of_none (of_slice total start len) 0 total [] 8 (omega (arith, none))) e f same
]

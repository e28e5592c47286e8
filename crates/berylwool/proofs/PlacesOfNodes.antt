-- Whose byte a place in the encoding of a slice is.
use Rattle.std.proofs.Common.{◌≡◌, ◌∙◌, ℕ, zero, suc, ◌+◌, ◌-◌, ◌*◌, ◌/◌, ◌<◌, ◌≤◌, max, List, [], ◌∷◌, ◌++◌, true, false, Option, None, Some, Result, Ok, Err, IfErr, IfOk, OnErr, append_assoc, append-nil, ap, arith, inl, inr, refl, subst, sym}
use Rattle.std.specs.Option.{option_map, unwrap_or}
use Rattle.std.proofs.lemmas.Bool.{cases_lt, le-ltb, lt-ltb}
use Rattle.b3tree.specs.Tree.{left_len}
use Rattle.bao_check.proofs.Sizes.{wants_whole}
use Rattle.bao_check.proofs.EachNode.{chunk_node, leaf_nodes}
use Rattle.bao_text.proofs.SubtreeNodes.{parent_node, subtree_nodes-parent, subtree_nodes-unwanted, subtree_size-parts}
use Rattle.bao_text.proofs.SubtreeText.{Parts, left_len-Parts}
use Rattle.bao_text.specs.declared.choice.Choice.{Choice}
use Rattle.bao_text.specs.Choice.{wants}
use Rattle.bao_text.specs.Nodes.{TreeNode, Side, left, right, subtree_nodes, subtree_size}
use Rattle.berylwool.specs.declared.nodes.BwPlaced.{BwPlaced}
use Rattle.berylwool.specs.Outlines.{HasParentsAmong}
use Rattle.berylwool.specs.Placed.{node_over, outboard_places, over_no_byte, placed_of}
use Rattle.berylwool.proofs.Beside.{far_at, near_at}

-- a subtree of which nothing is wanted has no byte
pub over_none : (choice : Choice) (number n : ℕ) (sides : List Side) (source : ℕ) (rest : List TreeNode) (at : ℕ) → wants choice (1024 * number) n ≡ false
    → node_over (subtree_nodes choice number n sides source ++ rest) at ≡ node_over rest at
over_none choice number n sides source rest at skipped = ap (λ (ns : List TreeNode). node_over (ns ++ rest) at) (subtree_nodes-unwanted choice number n sides source skipped)

-- a chunk has it
pub over_chunk : (choice : Choice) (number n : ℕ) (sides : List Side) (source : ℕ) (rest : List TreeNode) (at : ℕ) → wants choice (1024 * number) n ≡ true → n ≤ 1024 → choice.chunks ≡ true
    → at < max n 1 → node_over (subtree_nodes choice number n sides source ++ rest) at ≡ Some (chunk_node number n sides source)
over_chunk choice number n sides source rest at wanted one has here =
    ap (λ (ns : List TreeNode). node_over (ns ++ rest) at) (leaf_nodes choice number n sides source wanted one has) ∙ rw (lt-ltb at (max n 1) here) refl

-- or is before it
pub past_chunk : (choice : Choice) (number n : ℕ) (sides : List Side) (source : ℕ) (rest : List TreeNode) (at : ℕ) → wants choice (1024 * number) n ≡ true → n ≤ 1024 → choice.chunks ≡ true
    → max n 1 ≤ at → node_over (subtree_nodes choice number n sides source ++ rest) at ≡ node_over rest (at - n)
past_chunk choice number n sides source rest at wanted one has past =
    ap (λ (ns : List TreeNode). node_over (ns ++ rest) at) (leaf_nodes choice number n sides source wanted one has) ∙ rw (le-ltb at (max n 1) past) refl

-- a parent has it
pub over_parent : (choice : Choice) (number n : ℕ) (sides : List Side) (source : ℕ) (rest : List TreeNode) (at : ℕ) → wants choice (1024 * number) n ≡ true → 1024 < n → at < 64
    → node_over (subtree_nodes choice number n sides source ++ rest) at ≡ Some (parent_node number n sides source)
over_parent choice number n sides source rest at wanted more here =
    ap (λ (ns : List TreeNode). node_over (ns ++ rest) at) (subtree_nodes-parent choice number n sides source wanted more) ∙ rw (lt-ltb at 64 here) refl

-- or one of its two parts, or neither
pub past_parent : (choice : Choice) (number n l size : ℕ) (sides : List Side) (source : ℕ) (rest : List TreeNode) (at : ℕ) → wants choice (1024 * number) n ≡ true → 1024 < n → 64 ≤ at
    → l ≡ left_len n → size ≡ subtree_size l
    → node_over (subtree_nodes choice number n sides source ++ rest) at
    ≡ node_over (subtree_nodes choice number l (sides ++ left ∷ []) (source + 64)
    ++ (subtree_nodes choice (number + l / 1024) (n - l) (sides ++ right ∷ []) (source + 64 + size) ++ rest)) (at - 64)
past_parent choice number n l size sides source rest at wanted more past is_l is_size =
    let near : ℕ → List TreeNode = λ k. subtree_nodes choice number k (sides ++ left ∷ []) (source + 64) in
    let far : ℕ → ℕ → List TreeNode = λ k s. subtree_nodes choice (number + k / 1024) (n - k) (sides ++ right ∷ []) (source + 64 + s) in
    let ns : List TreeNode = near (left_len n) in
    let fs : List TreeNode = far (left_len n) (subtree_size (left_len n)) in
    let whole : size ≡ subtree_size (left_len n) = is_size ∙ ap (λ (k : ℕ). subtree_size k) is_l in
    let top : node_over (parent_node number n sides source ∷ ((ns ++ fs) ++ rest)) at ≡ node_over ((ns ++ fs) ++ rest) (at - 64) = rw (le-ltb at 64 past) refl in
    ap (λ (xs : List TreeNode). node_over (xs ++ rest) at) (subtree_nodes-parent choice number n sides source wanted more) ∙ top
    ∙ ap (λ (xs : List TreeNode). node_over xs (at - 64)) (append_assoc ns fs rest)
    ∙ (λ i. node_over (near (sym is_l i) ++ (far (sym is_l i) (sym whole i) ++ rest)) (at - 64))

-- a whole subtree is before it
past_levels : (levels : ℕ) (choice : Choice) (number n : ℕ) (sides : List Side) (source : ℕ) (rest : List TreeNode) (at : ℕ) → n ≤ 1024 * levels + 1024 → 1 ≤ n
    → choice.start ≤ 1024 * number → 1024 * number + max n 1 ≤ choice.end → choice.chunks ≡ true → subtree_size n ≤ at
    → node_over (subtree_nodes choice number n sides source ++ rest) at ≡ node_over rest (at - subtree_size n)
past_levels zero choice number n sides source rest at hn some start end has past =
    let one : subtree_size n ≡ n = omega (arith, hn) in
    past_chunk choice number n sides source rest at (wants_whole choice (1024 * number) n start end) (omega (arith, hn)) has (omega (arith, one, some, past))
    ∙ ap (λ (k : ℕ). node_over rest (at - k)) (sym one)
past_levels (suc levels) choice number n sides source rest at hn some start end has past = elim (cases_lt 1024 n) [
  | inr few ↦
      let one : subtree_size n ≡ n = omega (arith, few) in
      past_chunk choice number n sides source rest at (wants_whole choice (1024 * number) n start end) few has (omega (arith, one, some, past))
      ∙ ap (λ (k : ℕ). node_over rest (at - k)) (sym one)
  | inl more ↦
      let l : ℕ = left_len n in
      let parts : Parts n l = left_len-Parts n more in
      let sum : subtree_size n ≡ 64 + subtree_size l + subtree_size (n - l) = subtree_size-parts n more in
      let near : List TreeNode = subtree_nodes choice number l (sides ++ left ∷ []) (source + 64) in
      let far : List TreeNode = subtree_nodes choice (number + l / 1024) (n - l) (sides ++ right ∷ []) (source + 64 + subtree_size l) in
      let near_end : 1024 * number + max l 1 ≤ choice.end = omega (arith, parts.some, parts.below) in
      let far_start : choice.start ≤ 1024 * (number + l / 1024) = omega arith in
      let far_end : 1024 * (number + l / 1024) + max (n - l) 1 ≤ choice.end = omega (arith, parts.whole, parts.below) in
      let first = past_levels levels choice number l (sides ++ left ∷ []) (source + 64) (far ++ rest) (at - 64) (omega (arith, parts.whole, parts.below)) (omega (arith, parts.some)) start near_end has
      (omega (arith, sum, past)) in
      let second = past_levels levels choice (number + l / 1024) (n - l) (sides ++ right ∷ []) (source + 64 + subtree_size l) rest (at - 64 - subtree_size l) (omega (arith, parts.some)) (omega (arith, parts.below))
      far_start far_end has (omega (arith, sum, past)) in
      let left_is : at - 64 - subtree_size l - subtree_size (n - l) ≡ at - subtree_size n = omega (arith, sum) in
      past_parent choice number n l (subtree_size l) sides source rest at (wants_whole choice (1024 * number) n start end) more (omega (arith, sum, past)) refl refl
      ∙ first ∙ second ∙ ap (λ (k : ℕ). node_over rest k) left_is
]

pub past_whole : (choice : Choice) (number n : ℕ) (sides : List Side) (source : ℕ) (rest : List TreeNode) (at : ℕ) → 1 ≤ n
    → choice.start ≤ 1024 * number → 1024 * number + max n 1 ≤ choice.end → choice.chunks ≡ true → subtree_size n ≤ at
    → node_over (subtree_nodes choice number n sides source ++ rest) at ≡ node_over rest (at - subtree_size n)
past_whole choice number n sides source rest at some start end has past = past_levels n choice number n sides source rest at (omega arith) some start end has past

-- what is found in the left part of a subtree
pub near_found : (total : ℕ) (choice own : Choice) (number n l : ℕ) (sides : List Side) (source from : ℕ) (rest : List TreeNode) (at : ℕ) (placed : BwPlaced)
    → wants choice (1024 * number) n ≡ true → 1024 < n → 64 ≤ at → l ≡ left_len n → HasParentsAmong (outboard_places total) own number n sides source from
    → ((total : ℕ) (own : Choice) (sides : List Side) (rest : List TreeNode) → HasParentsAmong (outboard_places total) own number l sides (source + 64) (from + 64)
    → option_map (placed_of total) (node_over (subtree_nodes choice number l sides (source + 64) ++ rest) (at - 64)) ≡ Some placed)
    → option_map (placed_of total) (node_over (subtree_nodes choice number n sides source ++ rest) at) ≡ Some placed
near_found total choice own number n l sides source from rest at placed wanted more past is_l has found =
    let far : List TreeNode = subtree_nodes choice (number + l / 1024) (n - l) (sides ++ right ∷ []) (source + 64 + subtree_size l) in
    let near_has : HasParentsAmong (outboard_places total) own number l (sides ++ left ∷ []) (source + 64) (from + 64) =
    subst (λ (k : ℕ). HasParentsAmong (outboard_places total) own number k (sides ++ left ∷ []) (source + 64) (from + 64)) (sym is_l)
    (near_at (outboard_places total) own number n sides source from more has) in
    ap (λ (o : Option TreeNode). option_map (placed_of total) o) (past_parent choice number n l (subtree_size l) sides source rest at wanted more past is_l refl)
    ∙ found total own (sides ++ left ∷ []) (far ++ rest) near_has

-- in the right part
pub far_found : (total : ℕ) (choice own : Choice) (number n l size : ℕ) (sides : List Side) (source from : ℕ) (rest : List TreeNode) (at then : ℕ) (placed : BwPlaced)
    → wants choice (1024 * number) n ≡ true → 1024 < n → 64 ≤ at → l ≡ left_len n → size ≡ subtree_size l → HasParentsAmong (outboard_places total) own number n sides source from
    → ((sides : List Side) (rest : List TreeNode) → node_over (subtree_nodes choice number l sides (source + 64) ++ rest) (at - 64) ≡ node_over rest then)
    → ((total : ℕ) (own : Choice) (sides : List Side) (rest : List TreeNode)
    → HasParentsAmong (outboard_places total) own (number + l / 1024) (n - l) sides (source + 64 + size) (from + 64 * (l / 1024))
    → option_map (placed_of total) (node_over (subtree_nodes choice (number + l / 1024) (n - l) sides (source + 64 + size) ++ rest) then) ≡ Some placed)
    → option_map (placed_of total) (node_over (subtree_nodes choice number n sides source ++ rest) at) ≡ Some placed
far_found total choice own number n l size sides source from rest at then placed wanted more past is_l is_size has first found =
    let far : List TreeNode = subtree_nodes choice (number + l / 1024) (n - l) (sides ++ right ∷ []) (source + 64 + size) in
    let far_has : HasParentsAmong (outboard_places total) own (number + l / 1024) (n - l) (sides ++ right ∷ []) (source + 64 + size) (from + 64 * (l / 1024)) =
    subst (λ (s : ℕ). HasParentsAmong (outboard_places total) own (number + l / 1024) (n - l) (sides ++ right ∷ []) (source + 64 + s) (from + 64 * (l / 1024))) (sym is_size)
    (subst (λ (k : ℕ). HasParentsAmong (outboard_places total) own (number + k / 1024) (n - k) (sides ++ right ∷ []) (source + 64 + subtree_size k) (from + 64 * (k / 1024))) (sym is_l)
    (far_at (outboard_places total) own number n sides source from more has)) in
    ap (λ (o : Option TreeNode). option_map (placed_of total) o)
    (past_parent choice number n l size sides source rest at wanted more past is_l is_size ∙ first (sides ++ left ∷ []) (far ++ rest))
    ∙ found total own (sides ++ right ∷ []) rest far_has

-- or in neither
pub far_past : (choice : Choice) (number n l size : ℕ) (sides : List Side) (source : ℕ) (rest : List TreeNode) (at then last : ℕ)
    → wants choice (1024 * number) n ≡ true → 1024 < n → 64 ≤ at → l ≡ left_len n → size ≡ subtree_size l
    → ((sides : List Side) (rest : List TreeNode) → node_over (subtree_nodes choice number l sides (source + 64) ++ rest) (at - 64) ≡ node_over rest then)
    → ((sides : List Side) (rest : List TreeNode)
    → node_over (subtree_nodes choice (number + l / 1024) (n - l) sides (source + 64 + size) ++ rest) then ≡ node_over rest last)
    → node_over (subtree_nodes choice number n sides source ++ rest) at ≡ node_over rest last
far_past choice number n l size sides source rest at then last wanted more past is_l is_size first second =
    let far : List TreeNode = subtree_nodes choice (number + l / 1024) (n - l) (sides ++ right ∷ []) (source + 64 + size) in
    past_parent choice number n l size sides source rest at wanted more past is_l is_size ∙ first (sides ++ left ∷ []) (far ++ rest) ∙ second (sides ++ right ∷ []) rest

-- what a search found, told of the nodes alone
pub found_alone : (total : ℕ) (nodes : List TreeNode) (at : ℕ) (placed : BwPlaced) → option_map (placed_of total) (node_over (nodes ++ []) at) ≡ Some placed
    → placed ≡ unwrap_or (option_map (placed_of total) (node_over nodes at)) (over_no_byte 3 0)
found_alone total nodes at placed is =
    let told : List TreeNode → Option BwPlaced = λ xs. option_map (placed_of total) (node_over xs at) in
    ap (λ (o : Option BwPlaced). unwrap_or o (over_no_byte 3 0)) (sym is ∙ ap told (append-nil nodes))

-- and that it found none
pub none_alone : (total : ℕ) (nodes : List TreeNode) (at rest : ℕ) → node_over (nodes ++ []) at ≡ node_over [] rest
    → over_no_byte 3 0 ≡ unwrap_or (option_map (placed_of total) (node_over nodes at)) (over_no_byte 3 0)
none_alone total nodes at rest is =
    let none : node_over nodes at ≡ None = ap (λ (xs : List TreeNode). node_over xs at) (sym (append-nil nodes)) ∙ is in
    ap (λ (o : Option TreeNode). unwrap_or (option_map (placed_of total) o) (over_no_byte 3 0)) (sym none)

-- and either way
pub search_told : (total : ℕ) (nodes : List TreeNode) (at : ℕ) (r : Result BwPlaced ℕ) (it : BwPlaced)
    → IfOk r (λ placed. option_map (placed_of total) (node_over (nodes ++ []) at) ≡ Some placed)
    → IfErr r (λ rest. node_over (nodes ++ []) at ≡ node_over [] rest)
    → IfOk r (λ placed. it ≡ placed) → OnErr r (it ≡ over_no_byte 3 0)
    → it ≡ unwrap_or (option_map (placed_of total) (node_over nodes at)) (over_no_byte 3 0)
search_told total nodes at (Ok placed) it found after is none = is ∙ found_alone total nodes at placed found
search_told total nodes at (Err rest) it found after is none = none ∙ none_alone total nodes at rest after

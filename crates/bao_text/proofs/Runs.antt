-- Nodes that stand one after another are one part of the bytes.
use Rattle.std.proofs.Common.{◌≡◌, ℕ, ◌+◌, ◌-◌, ◌*◌, ◌<◌, ◌≤◌, max, List, [], ◌∷◌, ◌++◌, length, take, drop, nat_le, sum_by, true, sym, ap, ◌∙◌, arith, inl, inr}
use Rattle.std.proofs.lemmas.Bool.{cases_Bool, leb-false, lt-leb}
use Rattle.std.proofs.lemmas.List.{append-nil, length-drop, take_all}
use Rattle.std.proofs.lemmas.List.Sums.{sum_by-append}
use Rattle.b3tree.specs.Tree.{left_len}
use Rattle.b3tree.proofs.Pieces.{piece-append}
use Rattle.bao_text.specs.declared.choice.Choice.{Choice}
use Rattle.bao_text.specs.Choice.{wants}
use Rattle.bao_text.specs.Cut.{cut_nodes, has, has_all}
use Rattle.bao_text.specs.Nodes.{TreeNode, Side, size, subtree_nodes, subtree_size}
use Rattle.bao_text.proofs.Halves.{by_halves}
use Rattle.bao_text.proofs.Cutting.{cut_nodes-append, cut_nodes-append_short, has_all-append, has_all-append_short, has_all-one}
use Rattle.bao_text.proofs.SubtreeNodes.{parent_node, subtree_nodes-leaf, subtree_nodes-parent, subtree_size-parts}
use Rattle.bao_text.proofs.SubtreeText.{wants_from}

-- the k bytes from a place on
pub record IsRun (at k : ℕ) (nodes : List TreeNode) : Type 0 where
  pub len : sum_by size nodes ≡ k
  pub cut : (s : List ℕ) → cut_nodes s nodes ≡ take k (drop at s)
  pub all : (s : List ℕ) → 0 < k → has_all s nodes ≡ nat_le (at + k) (length s)

-- what ends within so many bytes
ended : (s : List ℕ) (at k : ℕ) → length s ≤ at + k → take k (drop at s) ≡ drop at s
ended s at k short = take_all k (drop at s) (omega (arith, length-drop at s))

pub run-one : (x : TreeNode) → IsRun x.source (size x) (x ∷ [])
run-one x = record {
  len = omega arith;
  cut = λ s. elim (cases_Bool (has s x)) [
    | inl there ↦ rw there (append-nil (take (size x) (drop x.source s)))
    | inr gone ↦
        let short : length s < x.source + size x = leb-false (x.source + size x) (length s) gone in
        rw gone (sym (ended s x.source (size x) (omega arith)))
  ];
  all = λ s some. has_all-one s x;
}

-- and those that follow
run-append : (at j k : ℕ) (xs ys : List TreeNode) → 0 < j → 0 < k → IsRun at j xs → IsRun (at + j) k ys → IsRun at (j + k) (xs ++ ys)
run-append at j k xs ys some more a b =
    let told : (s : List ℕ) → (cut_nodes s (xs ++ ys) ≡ take (j + k) (drop at s)) × (has_all s (xs ++ ys) ≡ nat_le (at + (j + k)) (length s)) =
    λ s. elim (cases_Bool (has_all s xs)) [
      | inl there ↦
          let place : at + j + k ≡ at + (j + k) = omega arith in (
            cut_nodes-append s xs ys there ∙ (λ i. a.cut s i ++ b.cut s i) ∙ sym (piece-append s at j k),
            has_all-append s xs ys there ∙ b.all s more ∙ ap (λ (n : ℕ). nat_le n (length s)) place,
          )
      | inr gone ↦
          let short : length s < at + j = leb-false (at + j) (length s) (sym (a.all s some) ∙ gone) in (
            cut_nodes-append_short s xs ys gone ∙ a.cut s ∙ ended s at j (omega arith) ∙ sym (ended s at (j + k) (omega arith)),
            has_all-append_short s xs ys gone ∙ sym (lt-leb (at + (j + k)) (length s) (omega arith)),
          )
    ] in
    record { len = sum_by-append size xs ys ∙ (λ i. a.len i + b.len i); cut = λ s. (told s).0; all = λ s _. (told s).1 }

-- a chunk that is wanted
pub run-chunk : (choice : Choice) (number n : ℕ) (sides : List Side) (at : ℕ) → n ≤ 1024 → choice.chunks ≡ true → wants choice (1024 * number) n ≡ true
    → IsRun at (subtree_size n) (subtree_nodes choice number n sides at)
run-chunk choice number n sides at one chunks wanted =
    let len : subtree_size n ≡ n = omega arith in
    rw (subtree_nodes-leaf choice number n sides at wanted one, chunks, len) (run-one (record { is_chunk = true; number = number; len = n; sides = sides; source = at }))

-- a subtree of which everything is wanted
pub run-subtree : (choice : Choice) → choice.chunks ≡ true → (number n : ℕ) (sides : List Side) (at : ℕ)
    → choice.start ≤ 1024 * number → 1024 * number + max n 1 ≤ choice.end → IsRun at (subtree_size n) (subtree_nodes choice number n sides at)
run-subtree choice chunks = by_halves
    (λ number n sides at. choice.start ≤ 1024 * number → 1024 * number + max n 1 ≤ choice.end → IsRun at (subtree_size n) (subtree_nodes choice number n sides at))
    (λ number n sides at one start end. run-chunk choice number n sides at one chunks (wants_from choice (1024 * number) n start (omega arith)))
    (λ number n sides at more parts near far start end.
    let node : TreeNode = parent_node number n sides at in
    let l : ℕ = left_len n in
    let len : subtree_size n ≡ 64 + (subtree_size l + subtree_size (n - l)) = omega (arith, subtree_size-parts n more) in
    let both = run-append (at + 64) (subtree_size l) (subtree_size (n - l)) _ _ (omega (arith, parts.some)) (omega (arith, parts.below))
    (near start (omega (arith, end, parts.some, parts.below))) (far (omega (arith, start, parts.whole)) (omega (arith, end, parts.whole, parts.below))) in
    rw (subtree_nodes-parent choice number n sides at (wants_from choice (1024 * number) n start (omega arith)) more, len)
    (run-append at 64 (subtree_size l + subtree_size (n - l)) (node ∷ []) _ (omega arith) (omega (arith, parts.some)) (run-one node) both))

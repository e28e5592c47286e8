-- Ranges of bytes that are put one after another.
use Rattle.std.proofs.Common.{◌≡◌, ◌∙◌, ℕ, ◌+◌, ◌-◌, ◌*◌, ◌/◌, ◌<◌, ◌≤◌, List, [], ◌∷◌, ◌++◌, true, append_assoc, append-nil, drop, get_or, length, set, take, ap, arith, refl, subst, sym}
use Rattle.std.proofs.lemmas.Bool.{le-leb, le-ltb}
use Rattle.std.proofs.lemmas.List.{take_more, take_more_set}
use Rattle.b3tree.proofs.Pieces.{piece-append}
use Rattle.b3tree.specs.Tree.{left_len}
use Rattle.bao_text.proofs.Cutting.{cut_nodes-append, has_all-append, has_all-one}
use Rattle.bao_text.proofs.Runs.{IsRun, run-one}
use Rattle.bao_text.proofs.SubtreeNodes.{parent_node, subtree_nodes-leaf, subtree_nodes-parent, subtree_size-parts}
use Rattle.bao_text.specs.Choice.{wants}
use Rattle.bao_text.specs.Cut.{claimed, cut_nodes, cut_text, has_all}
use Rattle.bao_text.specs.declared.choice.Choice.{Choice}
use Rattle.bao_text.specs.Nodes.{TreeNode, Side, left, right, nodes, subtree_nodes, subtree_size}
use Rattle.berylwool.specs.declared.ranges.BwRange.{BwRange}
use Rattle.berylwool.specs.Ranges.{HavePart, parts}

parts-last : (text : List ℕ) (ranges : List BwRange) (range : BwRange) → parts text (ranges ++ range ∷ []) ≡ parts text ranges ++ take range.len (drop range.at text)
unfolding parts
parts-last text [] range = append-nil (take range.len (drop range.at text))
parts-last text (first ∷ ranges) range =
    ap (λ (bytes : List ℕ). take first.len (drop first.at text) ++ bytes) (parts-last text ranges range)
    ∙ sym (append_assoc (take first.len (drop first.at text)) (parts text ranges) (take range.len (drop range.at text)))

-- a range more
pub added : (text : List ℕ) (out : List BwRange) (count : ℕ) (range : BwRange) → count < length out
    → parts text (take (count + 1) (set out count range)) ≡ parts text (take count out) ++ take range.len (drop range.at text)
added text out count range below = ap (λ (ranges : List BwRange). parts text ranges) (take_more_set out count range below) ∙ parts-last text (take count out) range

-- a longer one
pub longer : (text : List ℕ) (out : List BwRange) (k at len : ℕ) (last : BwRange) → k < length out → get_or out k (record { at = 0; len = 0 }) ≡ last → last.at + last.len ≡ at
    → parts text (take (k + 1) (set out k (record { at = last.at; len = last.len + len }))) ≡ parts text (take (k + 1) out) ++ take len (drop at text)
longer text out k at len last below is ends =
    let grown : BwRange = record { at = last.at; len = last.len + len } in
    let was : parts text (take (k + 1) out) ≡ parts text (take k out) ++ take last.len (drop last.at text) =
    ap (λ (ranges : List BwRange). parts text ranges) (take_more out k (record { at = 0; len = 0 }) below) ∙ ap (λ (range : BwRange). parts text (take k out ++ range ∷ [])) is
    ∙ parts-last text (take k out) last in
    added text out k grown below ∙ ap (λ (bytes : List ℕ). parts text (take k out) ++ bytes) (piece-append text last.at last.len len)
    ∙ sym (append_assoc (parts text (take k out)) (take last.len (drop last.at text)) (take len (drop (last.at + last.len) text)))
    ∙ (λ i. sym was i ++ take len (drop (ends i) text))

-- nodes of which none is wanted
pub part_none : (text : List ℕ) (ranges : List BwRange) (nodes : List TreeNode) → nodes ≡ [] → HavePart text ranges ranges nodes
part_none text ranges nodes none = record {
  there = ap (has_all text) none;
  then = sym (append-nil (parts text ranges)) ∙ ap (λ (xs : List TreeNode). parts text ranges ++ cut_nodes text xs) (sym none);
}

-- a chunk
pub leaf_there : (choice : Choice) (number n : ℕ) (sides : List Side) (at : ℕ) (text : List ℕ) → n ≤ 1024 → choice.chunks ≡ true → wants choice (1024 * number) n ≡ true
    → at + n ≤ length text → has_all text (subtree_nodes choice number n sides at) ≡ true
leaf_there choice number n sides at text one chunks wanted long =
    let node : TreeNode = record { is_chunk = true; number = number; len = n; sides = sides; source = at } in
    let leaf : subtree_nodes choice number n sides at ≡ node ∷ [] = subtree_nodes-leaf choice number n sides at wanted one ∙ rw chunks refl in
    ap (has_all text) leaf ∙ has_all-one text node ∙ le-leb (at + n) (length text) long

-- nodes that are one part
pub part_run : (text : List ℕ) (before after : List BwRange) (at k : ℕ) (nodes : List TreeNode) → IsRun at k nodes → has_all text nodes ≡ true
    → parts text after ≡ parts text before ++ take k (drop at text) → HavePart text before after nodes
part_run text before after at k nodes run there then = record {
  there = there;
  then = then ∙ ap (λ (bytes : List ℕ). parts text before ++ bytes) (sym (run.cut text));
}

pub run_there : (text : List ℕ) (at k : ℕ) (nodes : List TreeNode) → IsRun at k nodes → 0 < k → at + k ≤ length text → has_all text nodes ≡ true
run_there text at k nodes run some long = run.all text some ∙ le-leb (at + k) (length text) long

part_then : (text : List ℕ) (a b c : List BwRange) (xs ys : List TreeNode) → HavePart text a b xs → HavePart text b c ys → HavePart text a c (xs ++ ys)
part_then text a b c xs ys first second = record {
  there = has_all-append text xs ys first.there ∙ second.there;
  then = second.then ∙ ap (λ (bytes : List ℕ). bytes ++ cut_nodes text ys) first.then ∙ append_assoc (parts text a) (cut_nodes text xs) (cut_nodes text ys)
      ∙ ap (λ (bytes : List ℕ). parts text a ++ bytes) (sym (cut_nodes-append text xs ys first.there));
}

-- a parent, and what is wanted of its two parts
pub part_parent : (choice : Choice) (number n : ℕ) (sides : List Side) (at l size : ℕ) (text : List ℕ) (before upper near after : List BwRange) → 1024 < n → wants choice (1024 * number) n ≡ true
    → l ≡ left_len n → size ≡ subtree_size l → at + subtree_size n ≤ length text
    → parts text upper ≡ parts text before ++ take 64 (drop at text)
    → (at + 64 + subtree_size l ≤ length text → HavePart text upper near (subtree_nodes choice number l (sides ++ left ∷ []) (at + 64)))
    → (at + 64 + size + subtree_size (n - l) ≤ length text → HavePart text near after (subtree_nodes choice (number + l / 1024) (n - l) (sides ++ right ∷ []) (at + 64 + size)))
    → HavePart text before after (subtree_nodes choice number n sides at)
part_parent choice number n sides at l size text before upper near after more wanted is_l is_size long head first second =
    let node : TreeNode = parent_node number n sides at in
    let tree : subtree_nodes choice number n sides at
    ≡ node ∷ (subtree_nodes choice number l (sides ++ left ∷ []) (at + 64) ++ subtree_nodes choice (number + l / 1024) (n - l) (sides ++ right ∷ []) (at + 64 + size)) =
    subst (λ (k : ℕ). subtree_nodes choice number n sides at
    ≡ node ∷ (subtree_nodes choice number l (sides ++ left ∷ []) (at + 64) ++ subtree_nodes choice (number + l / 1024) (n - l) (sides ++ right ∷ []) (at + 64 + k))) (sym is_size)
    (subst (λ (k : ℕ). subtree_nodes choice number n sides at
    ≡ node ∷ (subtree_nodes choice number k (sides ++ left ∷ []) (at + 64) ++ subtree_nodes choice (number + k / 1024) (n - k) (sides ++ right ∷ []) (at + 64 + subtree_size k))) (sym is_l)
    (subtree_nodes-parent choice number n sides at wanted more)) in
    let whole : subtree_size n ≡ 64 + subtree_size l + subtree_size (n - l) =
    subst (λ (k : ℕ). subtree_size n ≡ 64 + subtree_size k + subtree_size (n - k)) (sym is_l) (subtree_size-parts n more) in
    let top : HavePart text before upper (node ∷ []) = part_run text before upper at 64 (node ∷ []) (run-one node) (run_there text at 64 (node ∷ []) (run-one node) (omega arith) (omega (arith, long, whole))) head in
    subst (λ (xs : List TreeNode). HavePart text before after xs) (sym tree)
    (part_then text before upper after (node ∷ []) _ top
    (part_then text upper near after _ _ (first (omega (arith, long, whole))) (second (omega (arith, long, whole, is_size)))))

-- the slice
pub slice_parts : (text : List ℕ) (start len total : ℕ) (head all : List BwRange) → claimed text ≡ total → 8 ≤ length text → parts text head ≡ parts text [] ++ take 8 (drop 0 text)
    → HavePart text head all (nodes total start len) → parts text all ≡ cut_text text start len
unfolding parts
slice_parts text start len total head all is some first have =
    let cut : cut_text text start len ≡ take 8 text ++ cut_nodes text (nodes (claimed text) start len) = rw (le-ltb (length text) 8 some) refl in
    have.then ∙ (λ i. first i ++ cut_nodes text (nodes (sym is i) start len)) ∙ sym cut

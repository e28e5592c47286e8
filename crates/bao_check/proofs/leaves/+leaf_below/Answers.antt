use Rattle.std.proofs.Common.{rules, ◌≡◌, ℕ, List, ◌+◌, ◌-◌, ◌*◌, ◌/◌, [], ◌∷◌, ◌++◌, take, drop, sym, ap, subst, ◌∙◌, arith}
use Rattle.b3tree.specs.Tree.{left_len}
use Rattle.bao_text.specs.Nodes.{Side, left, placed_nodes, right, subtree_nodes, subtree_size}
use Rattle.bao_text.proofs.SubtreeText.{Parts, left_len-Parts}
use Rattle.bao_check.specs.declared.asked.Asked.{Asked}
use Rattle.bao_check.specs.Accepted.{part_value}
use Rattle.bao_check.specs.Leaves.{WantsParents}
use Rattle.bao_check.specs.Pieces.{IsLeafValue}
use Rattle.bao_check.proofs.Outlines.{far-WantsParents, leaf-far, leaf-near, leaf-top, near-WantsParents}
use Rattle.bao_check.proofs.Parts.{below}
use Rattle.bao_check.proofs.leaves.+leaf_below.Goals as goal

-- a half of a parent's bytes as they are cut out
half : (side : Side) (asked : Asked) (at : ℕ) (text : List ℕ) → asked ≡ below side (take (at + 64 - at) (drop at text)) → asked.value.0 ≡ part_value side (take 64 (drop at text))
half side asked at text is = let len : at + 64 - at ≡ 64 = omega arith in ap (λ (a : Asked). a.value.0) is ∙ ap (λ (k : ℕ). part_value side (take k (drop at text))) len

pub returns-then-left_chunks-eq1 : goal.returns-then-left_chunks-eq1
returns-then-left_chunks-eq1 t c = λ choice sides source all.
    let n : ℕ = c.args.n in
    let parts : Parts n (left_len n) = left_len-Parts n c.requires.parent in
    let l_is : c.left_len-left_len.result ≡ left_len n = c.left_len-left_len.ensures.value in
    subst (IsLeafValue c.args.text.now (placed_nodes c.args.at (subtree_nodes choice c.args.number n sides source)) c.args.i)
    (sym (half left c.halves.result.0 c.args.at c.args.text.now c.halves.ensures.left))
    (leaf-top c.args.text.now c.args.i choice c.args.number n sides source c.args.at left c.requires.parent all (omega (arith, parts.whole), omega (arith, parts.whole)))

pub returns-else-left_chunks-eq1 : goal.returns-else-left_chunks-eq1
returns-else-left_chunks-eq1 t c = search (rules, arith, leaf-near, near-WantsParents)

pub returns-then-n-left_len : goal.returns-then-n-left_len
returns-then-n-left_len t c = λ choice sides source all.
    let n : ℕ = c.args.n in
    let parts : Parts n (left_len n) = left_len-Parts n c.requires.parent in
    let l_is : c.left_len-left_len.result ≡ left_len n = c.left_len-left_len.ensures.value in
    subst (IsLeafValue c.args.text.now (placed_nodes c.args.at (subtree_nodes choice c.args.number n sides source)) c.args.i)
    (sym (half right c.halves-then-n-left_len.result.1 c.args.at c.args.text.now c.halves-then-n-left_len.ensures.right))
    (leaf-top c.args.text.now c.args.i choice c.args.number n sides source c.args.at right c.requires.parent all (omega (arith, parts.whole), omega (arith, parts.whole, parts.below)))

pub returns-else-n-left_len : goal.returns-else-n-left_len
returns-else-n-left_len t c = λ choice sides source all.
    let n : ℕ = c.args.n in
    let l_is : c.left_len-left_len.result ≡ left_len n = c.left_len-left_len.ensures.value in
    leaf-far c.args.text.now c.args.i c.leaf_below-else-n-left_len.result.0 choice c.args.number n sides source c.args.at c.requires.parent all
    (subst (λ (l : ℕ).
    IsLeafValue c.args.text.now
    (placed_nodes (c.args.at + 64 * (l / 1024)) (subtree_nodes choice (c.args.number + l / 1024) (n - l) (sides ++ right ∷ []) (source + 64 + subtree_size (left_len n)))) c.args.i
    c.leaf_below-else-n-left_len.result.0) l_is
    (c.leaf_below-else-n-left_len.ensures choice (sides ++ right ∷ []) (source + 64 + subtree_size (left_len n))
    (subst (λ (l : ℕ). WantsParents choice (c.args.number + l / 1024) (n - l)) (sym l_is) (far-WantsParents choice c.args.number n c.requires.parent all))))

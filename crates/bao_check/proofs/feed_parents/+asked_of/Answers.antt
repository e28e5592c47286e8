use Rattle.std.proofs.Common.{◌≡◌, ℕ, ◌+◌, ◌-◌, ◌*◌, ◌/◌, List, [], ◌∷◌, ◌++◌, ◌≤◌, length, take, drop, refl, sym, ap, subst, ◌∙◌, arith}
use Rattle.b3tree.specs.Tree.{left_len}
use Rattle.bao_text.specs.Nodes.{Side, left, placed_nodes, right, subtree_nodes, subtree_size}
use Rattle.bao_check.specs.declared.asked.Asked.{Asked}
use Rattle.bao_check.specs.Leaves.{WantsParents}
use Rattle.bao_check.specs.Verified.{AsksAt, nth_parent_at}
use Rattle.bao_check.proofs.Outlines.{far-WantsParents, near-WantsParents}
use Rattle.bao_check.proofs.ParentsAsked.{asks-far, asks-here, asks-near, kept}
use Rattle.bao_check.proofs.Parts.{below}
use Rattle.bao_check.proofs.feed_parents.+asked_of.Goals as goal

-- what a parent asks of a part, by its bytes as they are cut out, in an encoding that goes on otherwise after them
half_of : (side : Side) (half : Asked) (text more : List ℕ) (at end : ℕ) → at + 64 ≤ end → end ≤ length text → half ≡ below side (take (at + 64 - at) (drop at text))
    → half ≡ below side (take 64 (drop at (take end text ++ more)))
half_of side half text more at end fits there is =
    let len : at + 64 - at ≡ 64 = omega arith in
    is ∙ ap (λ (k : ℕ). below side (take k (drop at text))) len ∙ ap (below side) (sym (kept text more at end fits there))

pub returns-then-k-first : goal.returns-then-k-first
returns-then-k-first t c = λ mode choice number sides source more has.
    asks-here c.args.asked.now c.args.asked.now mode (take (nth_parent_at c.args.k) c.args.text.now ++ more) choice number c.args.n sides source (nth_parent_at c.args.first)
    (nth_parent_at c.args.k) c.requires.more has (ap nth_parent_at c.if-k-first.true) refl

pub returns-then-k-right_first : goal.returns-then-k-right_first
returns-then-k-right_first t c = λ mode choice number sides source more has.
    let full : List ℕ = take (nth_parent_at c.args.k) c.args.text.now ++ more in
    let first_at : ℕ = nth_parent_at c.args.first in
    let half_is = half_of left c.halves.result.0 c.args.text.now more first_at (nth_parent_at c.args.k) (omega (arith, c.requires.first, c.if-k-first.false)) c.requires.there c.halves.ensures.left in
    let l_is : c.left_len-left_len.result ≡ left_len c.args.n = c.left_len-left_len.ensures.value in
    let at_is : nth_parent_at (c.args.first + 1) ≡ first_at + 64 = omega arith in
    let given = c.asked_of.ensures mode choice number (sides ++ left ∷ []) (source + 64) more
    (subst (WantsParents choice number) (sym l_is) (near-WantsParents choice number c.args.n c.requires.more has)) in
    asks-near c.args.asked.now c.asked_of.result mode full choice number c.args.n sides source first_at (nth_parent_at c.args.k) c.requires.more has c.halves.result.0 half_is
    (subst (λ (T : Type 0). T)
    (λ i. AsksAt c.halves.result.0 (sides ++ left ∷ []) mode full (placed_nodes (at_is i) (subtree_nodes choice number (l_is i) (sides ++ left ∷ []) (source + 64)))
    (nth_parent_at c.args.k) c.asked_of.result) given)

pub returns-else-k-right_first : goal.returns-else-k-right_first
returns-else-k-right_first t c = λ mode choice number sides source more has.
    let full : List ℕ = take (nth_parent_at c.args.k) c.args.text.now ++ more in
    let first_at : ℕ = nth_parent_at c.args.first in
    let n : ℕ = c.args.n in
    let half_is = half_of right c.halves.result.1 c.args.text.now more first_at (nth_parent_at c.args.k) (omega (arith, c.requires.first, c.if-k-first.false)) c.requires.there c.halves.ensures.right in
    let l_is : c.left_len-left_len.result ≡ left_len n = c.left_len-left_len.ensures.value in
    let from_far : ℕ = source + 64 + subtree_size (left_len n) in
    let at_is : nth_parent_at (c.args.first + left_len n / 1024) ≡ first_at + 64 * (left_len n / 1024) = omega arith in
    let given = c.asked_of-else-k-right_first.ensures mode choice (number + left_len n / 1024) (sides ++ right ∷ []) from_far more
    (subst (λ (l : ℕ). WantsParents choice (number + left_len n / 1024) (n - l)) (sym l_is) (far-WantsParents choice number n c.requires.more has)) in
    asks-far c.args.asked.now c.asked_of-else-k-right_first.result mode full choice number n sides source first_at (nth_parent_at c.args.k) c.requires.more has c.halves.result.1 half_is
    (subst (λ (k : ℕ). AsksAt c.halves.result.1 (sides ++ right ∷ []) mode full (placed_nodes k (subtree_nodes choice (number + left_len n / 1024) (n - left_len n) (sides ++ right ∷ []) from_far))
    (nth_parent_at c.args.k) c.asked_of-else-k-right_first.result) at_is
    (subst (λ (l : ℕ). AsksAt c.halves.result.1 (sides ++ right ∷ []) mode full
    (placed_nodes (nth_parent_at (c.args.first + l / 1024)) (subtree_nodes choice (number + left_len n / 1024) (n - l) (sides ++ right ∷ []) from_far)) (nth_parent_at c.args.k)
    c.asked_of-else-k-right_first.result) l_is given))

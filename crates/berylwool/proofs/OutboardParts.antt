-- The outboard encoding of a blob has the parents of each subtree one after another, from the subtree's own on.
use Rattle.std.proofs.Common.{◌≡◌, ◌∙◌, ℕ, suc, zero, ◌+◌, ◌-◌, ◌*◌, ◌/◌, ◌%◌, ◌^◌, ◌<◌, ◌≤◌, max, List, [], ◌++◌, length, drop, refl, sym, ap, subst, arith, inl, inr, pow_pos}
use Rattle.std.specs.List.{AllByRecursion}
use Rattle.std.proofs.lemmas.Bool.{cases_lt}
use Rattle.std.proofs.lemmas.List.{append-nil, drop_at, take_all}
use Rattle.std.proofs.lemmas.Nat.{pow-add}
use Rattle.std.proofs.Math.Nat.{mul-mod_left}
use Rattle.std.proofs.Math.Pow.{pow_mono}
use Rattle.b3tree.specs.declared.mode.Mode.{Mode}
use Rattle.b3tree.specs.Tree.{IsLeftLen, left_len}
use Rattle.b3tree.proofs.LeftLen.{left_len-IsLeftLen}
use Rattle.bao_text.specs.declared.choice.Choice.{Choice}
use Rattle.bao_text.specs.Choice.{of_outboard}
use Rattle.bao_text.specs.Nodes.{TreeNode, Side, placed_nodes, subtree_nodes}
use Rattle.bao_text.specs.Texts.{length_text, outboard_text, parent_text, subtree_text}
use Rattle.bao_text.proofs.Everything.{At, At_first, At_rest, length-parent_text, wants_all}
use Rattle.bao_text.proofs.Halves.{by_nodes, far_nodes, near_nodes}
use Rattle.bao_text.proofs.TextNodes.{length-span, span, subtree_text-halves}
use Rattle.bao_check.proofs.Lists.{All-append, All-member, nodes_size, placed_nodes-append}
use Rattle.bao_check.proofs.Parts.{placed_nodes-All}
use Rattle.bao_check.proofs.Sizes.{nodes_size-without_chunks}
use Rattle.berylwool.proofs.SubtreeParents.{length-parents}
use Rattle.berylwool.specs.Placed.{outboard_places}
use Rattle.berylwool.specs.Subtrees.{IsSubtree, ParentsInOutboard}

module _ (mode : Mode) (blob text : List ℕ) where
  abbrev own : Choice
  own = of_outboard (length blob)

  -- the text has the parents of a node's subtree at its offset
  abbrev Has : ℕ × TreeNode → Type 0
  Has place = At text place.0 (subtree_text own mode place.1.number (span blob place.1.number place.1.len))

  parts_there : (number n : ℕ) (sides : List Side) (source at : ℕ) → 1024 * number + n ≤ length blob → 1024 * number < own.end
      → At text at (subtree_text own mode number (span blob number n)) → AllByRecursion Has (placed_nodes at (subtree_nodes own number n sides source))
  parts_there = by_nodes own
      (λ number n sides source nodes. (at : ℕ) → 1024 * number + n ≤ length blob → 1024 * number < own.end → At text at (subtree_text own mode number (span blob number n))
      → AllByRecursion Has (placed_nodes at nodes))
      (λ number n sides source skipped at fits low here. tt)
      (λ number n sides source wanted one at fits low here. tt)
      (λ number n sides source wanted more parts in_near in_far at fits low here.
      let l : ℕ = left_len n in
      let parent : List ℕ = parent_text mode number (span blob number n) in
      let a : List ℕ = subtree_text own mode number (span blob number l) in
      let b : List ℕ = subtree_text own mode (number + l / 1024) (span blob (number + l / 1024) (n - l)) in
      let nears : List TreeNode = near_nodes own number n sides source in
      let fars : List TreeNode = far_nodes own number n sides source in
      let whole : At text at (parent ++ (a ++ b)) = subst (At text at) (subtree_text-halves number blob number n fits more own mode (wants_all own (1024 * number) n refl low)) here in
      let kids : At text (at + 64) (a ++ b) = At_rest text at 64 parent (a ++ b) (length-parent_text mode number (span blob number n)) whole in
      let near_fits : 1024 * number + l ≤ length blob = omega (arith, parts.below, fits) in
      let far_low : 1024 * (number + l / 1024) < own.end = omega (arith, parts.whole, parts.below, fits) in
      let span_len : length (span blob number l) ≡ l = length-span blob number l near_fits in
      let size : length a ≡ nodes_size nears =
      length-parents (length blob) mode number (span blob number l) (omega (arith, span_len, near_fits))
      ∙ ap (λ (k : ℕ). 64 * (max 1 ((k + 1023) / 1024) - 1)) span_len
      ∙ sym (nodes_size-without_chunks own number l _ _ (omega arith) (omega (arith, near_fits, parts.some)) refl) in (
        here,
        subst (AllByRecursion Has) (sym (placed_nodes-append (at + 64) nears fars))
            (All-append Has (placed_nodes (at + 64) nears) (placed_nodes (at + 64 + nodes_size nears) fars)
            (in_near (at + 64) near_fits low (At_first text (at + 64) a b kids))
            (in_far (at + 64 + nodes_size nears) (omega (arith, parts.whole, parts.below, fits)) far_low (At_rest text (at + 64) (nodes_size nears) a b size kids))),
      ))

-- a power of two is above its exponent
pow_above : (k : ℕ) → k < 2 ^ k
pow_above zero = omega arith
pow_above (suc k) = let before : k < 2 ^ k = pow_above k in omega arith

by_half : (m p twice : ℕ) → twice ≡ 2 * p → m * twice ≡ m * 2 * p
by_half m p twice is = ap (λ (x : ℕ). m * x) is ∙ omega arith

one_more : (m p : ℕ) → m * p + p ≡ (m + 1) * p
one_more m p = omega arith

-- each parent's subtree, in a subtree of at most 2^k chunks that begins at a multiple of 2^k
aligned : (total number n : ℕ) (sides : List Side) (source k q : ℕ) → number ≡ q * 2 ^ k → n ≤ 1024 * 2 ^ k
    → AllByRecursion (λ node. IsSubtree node.number node.len) (subtree_nodes (of_outboard total) number n sides source)
aligned total = by_nodes (of_outboard total)
    (λ number n sides source nodes. (k q : ℕ) → number ≡ q * 2 ^ k → n ≤ 1024 * 2 ^ k → AllByRecursion (λ node. IsSubtree node.number node.len) nodes)
    (λ number n sides source skipped k q is fits. tt)
    (λ number n sides source wanted one k q is fits. tt)
    (λ number n sides source wanted more parts in_near in_far k q is fits.
    let l : ℕ = left_len n in
    let left : IsLeftLen n l = left_len-IsLeftLen n more in
    let j : ℕ = left.form.0 in
    let p : ℕ = 2 ^ j in
    let size : l ≡ 1024 * p = left.form.1 in
    let chunks : l / 1024 ≡ p = omega (arith, size) in
    let fewer : j < k = elim (cases_lt j k) [
      | inl below ↦ below
      | inr above ↦ let mono : 2 ^ k ≤ 2 ^ j = pow_mono above in absurd (omega (arith, mono, left.below, size, fits))
    ] in
    let twice : n ≤ 1024 * 2 ^ suc j = elim (cases_lt (1024 * 2 ^ suc j) n) [
      | inl above ↦ let most = left.largest (suc j) above in let some : 0 < 2 ^ j = pow_pos j in absurd (omega (arith, most, size, some))
      | inr below ↦ below
    ] in
    let d : ℕ = k - suc j in
    let m : ℕ = q * 2 ^ d in
    let split : k ≡ d + suc j = omega (arith, fewer) in
    let power : 2 ^ k ≡ 2 ^ d * 2 ^ suc j = ap (λ (x : ℕ). 2 ^ x) split ∙ pow-add 2 d (suc j) in
    let begins : number ≡ m * 2 ^ suc j = is ∙ ap (λ (x : ℕ). q * x) power ∙ omega arith in
    let doubled : number ≡ m * 2 * 2 ^ j = begins ∙ by_half m (2 ^ j) (2 ^ suc j) (omega arith) in
    let unit : 2 * (l / 1024) ≡ 2 ^ suc j = omega (arith, chunks) in
    let nears : List TreeNode = near_nodes (of_outboard total) number n sides source in
    let fars : List TreeNode = far_nodes (of_outboard total) number n sides source in (
      inr ((λ i. begins i % unit i) ∙ mul-mod_left m (2 ^ suc j)),
      All-append (λ (node : TreeNode). IsSubtree node.number node.len) nears fars
          (in_near j (m * 2) doubled (omega (arith, size)))
          (in_far j (m * 2 + 1) ((λ i. doubled i + chunks i) ∙ one_more (m * 2) (2 ^ j)) (omega (arith, twice, size))),
    ))

pub parents_in_outboard : ParentsInOutboard
parents_in_outboard mode blob place there =
    let text : List ℕ = outboard_text mode blob in
    let whole : span blob 0 (length blob) ≡ blob = take_all (length blob) blob (omega arith) in
    let here : At text 8 (subtree_text (of_outboard (length blob)) mode 0 (span blob 0 (length blob))) = record {
      before = length_text (length blob);
      after = [];
      whole = (λ i. length_text (length blob) ++ subtree_text (of_outboard (length blob)) mode 0 (sym whole i)) ∙ ap (λ (xs : List ℕ). length_text (length blob) ++ xs) (sym (append-nil _));
      place = refl;
    } in
    let it : Has mode blob text place = All-member (Has mode blob text) (outboard_places (length blob)) (parts_there mode blob text 0 (length blob) [] 8 8 (omega arith) (omega arith) here) place there in
    let nodes : List TreeNode = subtree_nodes (of_outboard (length blob)) 0 (length blob) [] 8 in
    let each = placed_nodes-All (λ (node : TreeNode). IsSubtree node.number node.len) 8 nodes (aligned (length blob) 0 (length blob) [] 8 (length blob) 0 (omega arith) (let above : length blob < 2 ^ length blob = pow_above (length blob) in omega (arith, above))) in (
      All-member (λ (p : ℕ × TreeNode). IsSubtree p.1.number p.1.len) (outboard_places (length blob)) each place there,
      (
        it.after,
        ap (drop place.0) it.whole
            ∙ drop_at it.before (subtree_text (of_outboard (length blob)) mode place.1.number (span blob place.1.number place.1.len) ++ it.after) place.0 it.place,
      ),
    )

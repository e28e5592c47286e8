use Rattle.std.proofs.Common.{◌≡◌, ℕ, ◌+◌, ◌-◌, List, [], length, take, drop, slice_index_or, sym, ap, ◌∙◌, arith, length-drop}
use Rattle.std.proofs.lemmas.List.{length-take-le}
use Rattle.b3word.specs.Compression.{cv}
use Rattle.b3tree.specs.declared.mode.Mode.{Mode}
use Rattle.b3tree.specs.Chunk.{block_count}
use Rattle.b3tree.specs.Pieces.{before_block}
use Rattle.b3tree.specs.Tree.{parent_input, subtree_cv}
use Rattle.b3tree.proofs.ShortInputs.{before_end}
use Rattle.b3tree.proofs.TopInput.{top_input-four, top_input-two}
use Rattle.b3tree.proofs.few.four_top.Goals as goal

pub returns : goal.returns
returns c =
    let mode : Mode = c.args.mode.now in
    let first : ℕ = c.args.first in
    let s : List ℕ = c.args.bytes.now in
    let front : List ℕ = take 2048 s in
    let back : List ℕ = drop 2048 s in
    let at_a : c.split_at-2.result.0.now ≡ take 1024 front = c.split_at-2.ensures.front ∙ ap (take 1024) c.split_at.ensures.front in
    let at_b : c.split_at-2.result.1.now ≡ drop 1024 front = c.split_at-2.ensures.back ∙ ap (drop 1024) c.split_at.ensures.front in
    let at_c : c.split_at-3.result.0.now ≡ take 1024 back = c.split_at-3.ensures.front ∙ ap (take 1024) c.split_at.ensures.back in
    let at_d : c.split_at-3.result.1.now ≡ drop 1024 back = c.split_at-3.ensures.back ∙ ap (drop 1024) c.split_at.ensures.back in
    let count : ℕ = c.block_count-count.result in
    let front_len : length front ≡ 2048 = length-take-le 2048 s (omega arith) in
    let back_len : length back ≡ length s - 2048 = length-drop 2048 s in
    let a_len : length (take 1024 front) ≡ 1024 = length-take-le 1024 front (omega arith) in
    let b_len : length (drop 1024 front) ≡ 1024 = omega (arith, length-drop 1024 front) in
    let c_len : length (take 1024 back) ≡ 1024 = length-take-le 1024 back (omega arith) in
    let d_len : length (drop 1024 back) ≡ length s - 3072 = omega (arith, length-drop 1024 back) in
    let value = λ (j : ℕ). ap (λ (vs : List (List ℕ)). slice_index_or vs j []) c.four_before.ensures in
    let sixteen = λ (t : List ℕ) (e : length t ≡ 1024). sym (ap block_count e) in
    let counted : count ≡ block_count (length (drop 1024 back)) = c.block_count-count.ensures ∙ ap (λ (t : List ℕ). block_count (length t)) at_d in
    let of_a : c.two_before.result.0 ≡ subtree_cv mode first (take 1024 front) =
    c.two_before.ensures.left (value 0)
    ∙ ap (λ (t : List ℕ). before_block mode first t 16) at_a
    ∙ before_end mode first (take 1024 front) 16 (sixteen (take 1024 front) a_len) (omega arith) in
    let of_b : c.two_before.result.1 ≡ subtree_cv mode (first + 1) (drop 1024 front) =
    c.two_before.ensures.right (value 1)
    ∙ ap (λ (t : List ℕ). before_block mode (first + 1) t 16) at_b
    ∙ before_end mode (first + 1) (drop 1024 front) 16 (sixteen (drop 1024 front) b_len) (omega arith) in
    let of_c : c.value_before-whole_c.result ≡ subtree_cv mode (first + 2) (take 1024 back) =
    c.value_before-whole_c.ensures (value 2)
    ∙ ap (λ (t : List ℕ). before_block mode (first + 2) t 16) at_c
    ∙ before_end mode (first + 2) (take 1024 back) 16 (sixteen (take 1024 back) c_len) (omega arith) in
    let number : first + 3 ≡ first + 2 + 1 = omega arith in
    let of_d : slice_index_or c.four_before.result 3 [] ≡ subtree_cv mode (first + 2 + 1) (drop 1024 back) =
    value 3
    ∙ (λ i. before_block mode (number i) (at_d i) count)
    ∙ before_end mode (first + 2 + 1) (drop 1024 back) count counted (omega arith) in
    let left : c.cv_pair.result.0 ≡ subtree_cv mode first front =
    c.cv_pair.ensures.first
    ∙ ap cv (c.parent_input-left.ensures ∙ (λ i. parent_input mode (of_a i) (of_b i)) ∙ sym (top_input-two mode first front (omega arith) (omega arith))) in
    let right : c.cv_pair.result.1 ≡ subtree_cv mode (first + 2) back =
    c.cv_pair.ensures.second
    ∙ ap cv (c.parent_input-right.ensures ∙ (λ i. parent_input mode (of_c i) (of_d i)) ∙ sym (top_input-two mode (first + 2) back (omega arith) (omega arith))) in
    c.parent_input.ensures
    ∙ (λ i. parent_input mode (left i) (right i))
    ∙ sym (top_input-four mode first s (omega arith) c.requires.four)

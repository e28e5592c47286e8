use Rattle.std.proofs.Common.{◌≡◌, ℕ, ◌≤◌, ◌+◌, ◌-◌, ◌*◌, ◌/◌, List, [], length, take, drop, slice_index_or, sym, ap, ◌∙◌, arith, length-drop}
use Rattle.std.proofs.lemmas.List.{length-take-le, take_all}
use Rattle.b3tree.specs.declared.mode.Mode.{Mode}
use Rattle.b3tree.specs.Tree.{parent_input, subtree_cv}
use Rattle.b3tree.proofs.ShortInputs.{values-back, values-front}
use Rattle.b3tree.proofs.TopInput.{IsLeftLen_chunks}
use Rattle.b3tree.proofs.few.+joined.Goals as goal

-- one chunk alone
pub joined_value-returns-then-len : goal.joined_value-returns-then-len
joined_value-returns-then-len t c = λ first s size are.
    let at : c.args.at ≡ c.args.at + 0 = omega arith in
    let number : first + 0 ≡ first = omega arith in
    ap (λ (i : ℕ). slice_index_or c.args.values.now i []) at
    ∙ are 0 (omega arith)
    ∙ (λ i. subtree_cv c.args.mode.now (number i) (take_all 1024 s (omega arith) i))

pub joined_top-returns : goal.joined_top-returns
joined_top-returns t c = λ first s size are.
    let mode : Mode = c.args.mode.now in
    let l : ℕ = c.left_len-left_len.result in
    let m : ℕ = l / 1024 in
    let v : ℕ → List ℕ = λ j. slice_index_or c.args.values.now (c.args.at + j) [] in
    let whole : 1024 * m ≡ l = (IsLeftLen_chunks c.args.len l c.left_len-left_len.ensures.largest).0 in
    let below = c.left_len-left_len.ensures.largest.below in
    let fits : 1024 * m ≤ length s = omega arith in
    let front_size : length (take (1024 * m) s) ≡ l = length-take-le (1024 * m) s fits ∙ whole in
    let back_size : length (drop (1024 * m) s) ≡ c.args.len - l = omega (arith, length-drop (1024 * m) s) in
    let far : (j : ℕ) → c.args.at + m + j ≡ c.args.at + (m + j) = λ j. omega arith in
    let left = c.joined_value-left.ensures first (take (1024 * m) s) front_size (values-front mode first s m v fits are) in
    let right = c.joined_value-right.ensures (first + m) (drop (1024 * m) s) back_size
    (λ j h. ap (λ (i : ℕ). slice_index_or c.args.values.now i []) (far j) ∙ values-back mode first s m v fits are j h) in
    c.parent_input.ensures
    ∙ (λ i. parent_input mode (left i) (right i))
    ∙ (λ i. parent_input mode (subtree_cv mode first (take (whole i) s)) (subtree_cv mode (first + m) (drop (whole i) s)))
    ∙ sym (c.left_len-left_len.ensures.parts mode first s size)

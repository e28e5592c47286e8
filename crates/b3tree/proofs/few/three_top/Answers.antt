use Rattle.std.proofs.Common.{◌≡◌, ℕ, ◌+◌, ◌-◌, List, length, take, drop, sym, ap, ◌∙◌, arith, length-drop}
use Rattle.b3word.specs.Compression.{cv}
use Rattle.b3tree.specs.declared.mode.Mode.{Mode}
use Rattle.b3tree.specs.Tree.{parent_input, subtree_cv}
use Rattle.b3tree.proofs.TopInput.{top_input-chunk, top_input-four}
use Rattle.b3tree.proofs.few.three_top.Goals as goal

pub returns : goal.returns
returns c =
    let mode : Mode = c.args.mode.now in
    let first : ℕ = c.args.first in
    let s : List ℕ = c.args.bytes.now in
    let last_len : length (drop 2048 s) ≡ length s - 2048 = length-drop 2048 s in
    let left : c.cv-left.result ≡ subtree_cv mode first (take 2048 s) =
    c.cv-left.ensures ∙ ap cv c.two_top.ensures ∙ ap (subtree_cv mode first) c.split_at.ensures.front in
    let right : c.cv-right.result ≡ subtree_cv mode (first + 2) (drop 2048 s) =
    c.cv-right.ensures
    ∙ ap cv (c.last_chunk_input.ensures ∙ sym (top_input-chunk mode (first + 2) c.split_at.result.1.now (omega (arith, ap length c.split_at.ensures.back))))
    ∙ ap (subtree_cv mode (first + 2)) c.split_at.ensures.back in
    c.parent_input.ensures
    ∙ (λ i. parent_input mode (left i) (right i))
    ∙ sym (top_input-four mode first s c.requires.more (omega arith))

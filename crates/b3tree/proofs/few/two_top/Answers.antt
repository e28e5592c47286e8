use Rattle.std.proofs.Common.{◌≡◌, ℕ, ◌+◌, ◌-◌, List, length, take, drop, sym, ap, ◌∙◌, arith, length-drop}
use Rattle.std.proofs.lemmas.List.{length-take-le}
use Rattle.b3tree.specs.declared.mode.Mode.{Mode}
use Rattle.b3tree.specs.Chunk.{block_count}
use Rattle.b3tree.specs.Pieces.{before_block}
use Rattle.b3tree.specs.Tree.{parent_input, subtree_cv}
use Rattle.b3tree.proofs.ShortInputs.{before_end}
use Rattle.b3tree.proofs.TopInput.{top_input-two}
use Rattle.b3tree.proofs.few.two_top.Goals as goal

pub returns : goal.returns
returns c =
    let mode : Mode = c.args.mode.now in
    let first : ℕ = c.args.first in
    let s : List ℕ = c.args.bytes.now in
    let a : List ℕ = take 1024 s in
    let b : List ℕ = drop 1024 s in
    let count : ℕ = c.block_count-count.result in
    let left_len : length a ≡ 1024 = length-take-le 1024 s (omega arith) in
    let right_len : length b ≡ length s - 1024 = length-drop 1024 s in
    let sixteen : 16 ≡ block_count (length a) = sym (ap block_count left_len) in
    let counted : count ≡ block_count (length b) = c.block_count-count.ensures ∙ ap (λ (t : List ℕ). block_count (length t)) c.split_at.ensures.back in
    let left : c.value_before-whole.result ≡ subtree_cv mode first a =
    c.value_before-whole.ensures (c.two_before.ensures.left c.key_words.ensures)
    ∙ ap (λ (t : List ℕ). before_block mode first t 16) c.split_at.ensures.front
    ∙ before_end mode first a 16 sixteen (omega arith) in
    let right : c.two_before.result.1 ≡ subtree_cv mode (first + 1) b =
    c.two_before.ensures.right c.key_words-2.ensures
    ∙ ap (λ (t : List ℕ). before_block mode (first + 1) t count) c.split_at.ensures.back
    ∙ before_end mode (first + 1) b count counted (omega arith) in
    c.parent_input.ensures
    ∙ (λ i. parent_input mode (left i) (right i))
    ∙ sym (top_input-two mode first s c.requires.more c.requires.two)

use Rattle.std.proofs.Common.{◌≡◌, ℕ, ◌+◌, List, [], ◌∷◌, slice_index_or, ap, ◌∙◌, arith}
use Rattle.b3word.specs.Compression.{cv}
use Rattle.b3tree.specs.Pieces.{before_block}
use Rattle.b3tree.proofs.Pieces.{value_next}
use Rattle.b3tree.proofs.few.four_before.Goals as goal

pub next_block-init : goal.next_block-init
next_block-init c = λ i. c.key_words-key.ensures i ∷ c.key_words-key.ensures i ∷ c.key_words-key.ensures i ∷ c.key_words-key.ensures i ∷ []

pub next_block-preserved : goal.next_block-preserved
next_block-preserved c =
    let at = λ (j : ℕ). ap (λ (vs : List (List ℕ)). slice_index_or vs j []) c.next_block.invariant in
    let of_a = ap cv c.full_block_input-of_a.ensures
    ∙ value_next c.args.mode.now c.args.first c.args.a.now c.next_block.k (slice_index_or c.next_block.values 0 []) (at 0) in
    let of_b = ap cv c.full_block_input-of_b.ensures
    ∙ value_next c.args.mode.now (c.args.first + 1) c.args.b.now c.next_block.k (slice_index_or c.next_block.values 1 []) (at 1) in
    let of_c = ap cv c.full_block_input-of_c.ensures
    ∙ value_next c.args.mode.now (c.args.first + 2) c.args.c.now c.next_block.k (slice_index_or c.next_block.values 2 []) (at 2) in
    let of_d = ap cv c.block_input-of_d.ensures
    ∙ value_next c.args.mode.now (c.args.first + 3) c.args.d.now c.next_block.k (slice_index_or c.next_block.values 3 []) (at 3) in
    c.cv_two_pairs-values.ensures ∙ (λ i. of_a i ∷ of_b i ∷ of_c i ∷ of_d i ∷ [])

pub returns : goal.returns
returns c =
    let done : c.next_block.k ≡ c.args.to = omega arith in
    c.next_block.invariant
    ∙ ap (λ (k : ℕ). before_block c.args.mode.now c.args.first c.args.a.now k
    ∷ before_block c.args.mode.now (c.args.first + 1) c.args.b.now k
    ∷ before_block c.args.mode.now (c.args.first + 2) c.args.c.now k
    ∷ before_block c.args.mode.now (c.args.first + 3) c.args.d.now k ∷ []) done

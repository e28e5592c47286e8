use Rattle.std.proofs.Common.{◌≡◌, ℕ, ◌+◌, ◌*◌, List, [], ◌∷◌, slice_index_or, ◌∙◌, ap, arith}
use Rattle.b3word.proofs.EightLanes.{below_eight}
use Rattle.b3tree.specs.Bytes.{words_of}
use Rattle.b3tree.specs.Pieces.{piece}
use Rattle.b3tree.proofs.lanes.half_blocks.Goals as goal

pub returns : goal.returns
returns c =
    let half : ℕ → List ℕ = λ p. words_of 8 (piece c.args.bytes.now p 32) in
    let at : ℕ = c.args.at in
    let stride : ℕ = c.args.stride in
    let place : (p q : ℕ) (w : List ℕ) → w ≡ half p → p ≡ q → w ≡ half q = λ p q w is e. is ∙ ap half e in
    λ j h. c.transposed.ensures.lanes j h
    ∙ below_eight (λ (j : ℕ). slice_index_or (c.half_block.result ∷ c.half_block-2.result ∷ c.half_block-3.result ∷ c.half_block-4.result
    ∷ c.half_block-5.result ∷ c.half_block-6.result ∷ c.half_block-7.result ∷ c.half_block-8.result ∷ []) j [] ≡ half (at + stride * j))
    (place at (at + stride * 0) c.half_block.result c.half_block.ensures (omega arith))
    (place (at + stride) (at + stride * 1) c.half_block-2.result c.half_block-2.ensures (omega arith))
    c.half_block-3.ensures c.half_block-4.ensures c.half_block-5.ensures c.half_block-6.ensures c.half_block-7.ensures c.half_block-8.ensures
    j h

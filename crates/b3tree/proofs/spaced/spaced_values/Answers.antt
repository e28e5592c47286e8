use Rattle.std.proofs.Common.{◌≡◌, ℕ, ◌+◌, ◌*◌, List, [], ◌∷◌, slice_index_or, ◌∙◌, ap, arith}
use Rattle.b3word.proofs.EightLanes.{below_eight}
use Rattle.b3tree.specs.Bytes.{words_of}
use Rattle.b3tree.specs.Pieces.{lane_place, piece}
use Rattle.b3tree.proofs.spaced.spaced_values.Goals as goal

pub returns : goal.returns
returns c =
    let half : ℕ → List ℕ = λ p. words_of 8 (piece c.args.text.now p 32) in
    let at : ℕ = c.args.at in
    let step : ℕ = c.args.step in
    let place : (p q : ℕ) (w : List ℕ) → w ≡ half p → p ≡ q → w ≡ half q = λ p q w is e. is ∙ ap half e in
    λ j h. c.transposed.ensures.lanes j h
    ∙ below_eight (λ (j : ℕ). slice_index_or (c.half_block.result ∷ c.half_block-2.result ∷ c.half_block-3.result ∷ c.half_block-4.result
    ∷ c.half_block-5.result ∷ c.half_block-6.result ∷ c.half_block-7.result ∷ c.half_block-8.result ∷ []) j [] ≡ half (lane_place at step j))
    (place at (lane_place at step 0) c.half_block.result c.half_block.ensures (omega arith))
    (place (at + step) (lane_place at step 1) c.half_block-2.result c.half_block-2.ensures (omega arith))
    (place (at + step * 2 + 64) (lane_place at step 2) c.half_block-3.result c.half_block-3.ensures (omega arith))
    (place (at + step * 3 + 64) (lane_place at step 3) c.half_block-4.result c.half_block-4.ensures (omega arith))
    (place (at + step * 4 + 192) (lane_place at step 4) c.half_block-5.result c.half_block-5.ensures (omega arith))
    (place (at + step * 5 + 192) (lane_place at step 5) c.half_block-6.result c.half_block-6.ensures (omega arith))
    (place (at + step * 6 + 256) (lane_place at step 6) c.half_block-7.result c.half_block-7.ensures (omega arith))
    (place (at + step * 7 + 256) (lane_place at step 7) c.half_block-8.result c.half_block-8.ensures (omega arith))
    j h

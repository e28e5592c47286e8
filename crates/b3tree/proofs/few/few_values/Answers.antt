use Rattle.std.proofs.Common.{◌≡◌, ◌≤◌, ◌<◌, ℕ, ◌+◌, ◌-◌, ◌*◌, ◌/◌, List, [], ◌++◌, drop, length, replicate, slice_index_or, sym, ap, ◌∙◌, arith}
use Rattle.std.specs.Prelude.{slice_set}
use Rattle.std.proofs.lemmas.List.{drop-replicate, get_or-set_other, get_or-set_same}
use Rattle.b3word.specs.Lanes.{lane8}
use Rattle.b3word.proofs.EightLanes.{mapped-at}
use Rattle.b3tree.specs.declared.mode.Mode.{Mode}
use Rattle.b3tree.specs.Chunk.{block_count}
use Rattle.b3tree.specs.Parents.{value_at}
use Rattle.b3tree.specs.Pieces.{before_block, piece}
use Rattle.b3tree.specs.Tree.{subtree_cv}
use Rattle.b3tree.proofs.ShortInputs.{before_end, length-chunk, length-last, up_to_last}
use Rattle.b3tree.proofs.few.few_values.Goals as goal

-- bytes written over the first of as many zeros as eight chunks have
padded_text : (s front : List ℕ) → front ≡ s → front ++ drop (length s) (replicate 8192 0) ≡ s ++ replicate (8192 - length s) 0
padded_text s front e = λ i. e i ++ drop-replicate (length s) 8192 0 i

pub returns : goal.returns
returns c = λ j h.
    let mode : Mode = c.args.mode.now in
    let first : ℕ = c.args.first in
    let s : List ℕ = c.args.bytes.now in
    let last : ℕ = (length s - 1) / 1024 in
    let n : ℕ = length s - 1024 * last in
    let count : ℕ = c.block_count-count.result in
    let text = padded_text s c.copy_from_slice.new.self c.copy_from_slice.ensures.after in
    let size : length s ≡ 1024 * last + n = omega arith in
    let few : n ≤ 1024 = omega arith in
    let chunk : ℕ → List ℕ = λ q. piece s (1024 * q) 1024 in
    let end_len : length (chunk last) ≡ n = length-last s last n size few in
    let counted : count ≡ block_count (length (chunk last)) = c.block_count-count.ensures ∙ ap block_count (sym end_len) in
    let low : count ≤ 16 = omega (arith, c.block_count-count.ensures) in
    let ended : (q : ℕ) → q ≤ last → count ≤ block_count (length (chunk q)) → lane8 q c.lane_blocks-ended.result ≡ before_block mode (first + q) (chunk q) count =
    λ q reached many. c.lane_blocks-ended.ensures s q text size reached many (c.key_lanes.ensures q (omega arith)) in
    let of_last : slice_index_or c.transposed-2.result last [] ≡ subtree_cv mode (first + last) (chunk last) =
    c.transposed-2.ensures.vectors last (omega arith) ∙ ended last (omega arith) (omega arith)
    ∙ before_end mode (first + last) (chunk last) count counted (omega arith) in
    let of_whole : (q : ℕ) → q < last → slice_index_or c.map-values.result q [] ≡ subtree_cv mode (first + q) (chunk q) = λ q lt.
    let full : length (chunk q) ≡ 1024 = length-chunk s q last n size lt in
    let sixteen : 16 ≡ block_count (length (chunk q)) = sym (ap block_count full) in
    mapped-at _ _ (λ x y. y ≡ x) c.transposed.result c.map-values.result [] [] c.map-values.ensures.items (λ p x y q k. k.met) q (omega arith)
    ∙ c.transposed.ensures.vectors q (omega arith)
    ∙ c.lane_blocks-whole.ensures s q text size (omega arith) (omega arith) (ended q (omega arith) (omega arith))
    ∙ before_end mode (first + q) (chunk q) 16 sixteen (omega arith) in
    up_to_last (λ q. slice_index_or (slice_set c.map-values.result last (slice_index_or c.transposed-2.result last [])) q []) (value_at mode first s 1) last
    (get_or-set_same c.map-values.result last _ [] (omega (arith, c.map-values.ensures.items.long)) ∙ of_last)
    (λ q lt. get_or-set_other c.map-values.result last q _ [] (λ e. omega arith) ∙ of_whole q lt)
    j (omega arith)

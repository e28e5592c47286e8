use Rattle.std.proofs.Common.{◌≡◌, ◌<◌, ℕ, ◌+◌, ◌-◌, ◌*◌, List, length, slice_index, sym, ap, ◌∙◌, arith}
use Rattle.b3word.specs.Compression.{cv}
use Rattle.b3tree.specs.declared.mode.Mode.{Mode}
use Rattle.b3tree.specs.Chunk.{block, block_count, block_flags, block_words}
use Rattle.b3tree.specs.Pieces.{before_block, piece}
use Rattle.b3tree.proofs.ShortInputs.{block_words-padded, length-block, length-chunk, length-last, up_to_last}
use Rattle.b3tree.proofs.Pieces.{before_next, chunk_input-before}
use Rattle.b3tree.proofs.few.lane_blocks.Goals as goal

pub next_block-init : goal.next_block-init
next_block-init c = λ s j text size reached many start. start

pub next_block-preserved : goal.next_block-preserved
next_block-preserved c = λ s j text size reached many start.
    let mode : Mode = c.args.mode.now in
    let last : ℕ = c.args.last in
    let n : ℕ = c.args.last_len in
    let k : ℕ = c.next_block.k in
    let chunk : ℕ → List ℕ = λ q. piece s (1024 * q) 1024 in
    let low : k < 16 = omega arith in
    let lane : j < 8 = omega arith in
    let number : c.args.first + 1 * j ≡ c.args.first + j = omega arith in
    let place : 0 + 1024 * j ≡ 1024 * j = omega arith in
    let words = c.message-m.ensures j lane
    ∙ (λ i. block_words (block (piece (text i) (place i) 1024) k))
    ∙ block_words-padded s (8192 - length s) (1024 * j) k low (omega arith) in
    let len = up_to_last (slice_index c.all_but-len.result) (λ q. length (block (chunk q) k)) last
    (c.all_but-len.ensures.of_lane ∙ c.block_len.ensures (chunk last) (length-last s last n size (omega arith)))
    (λ q lt. c.all_but-len.ensures.others q lt ∙ sym (length-block s q last n k size lt low)) j reached in
    let flags = up_to_last (slice_index c.all_but-flags.result) (λ q. block_flags mode (block_count (length (chunk q))) k) last
    (c.all_but-flags.ensures.of_lane ∙ c.block_flags.ensures ∙ (λ i. block_flags mode (c.block_count-count.ensures i) k)
    ∙ ap (λ (len : ℕ). block_flags mode (block_count len) k) (sym (length-last s last n size (omega arith))))
    (λ q lt. c.all_but-flags.ensures.others q lt ∙ c.block_flags-in-next_block.ensures ∙ ap (λ (len : ℕ). block_flags mode (block_count len) k) (sym (length-chunk s q last n size lt))) j reached in
    c.cv_lanes-next.ensures j (c.args.first + 1 * j) lane (c.low_words-t_low.ensures j lane) (c.high_words-t_high.ensures j lane)
    ∙ (λ i. cv (record {
      h = c.next_block.invariant s j text size reached (omega arith) start i;
      m = words i;
      t = number i;
      b = len i;
      d = flags i;
    }))
    ∙ ap cv (sym (chunk_input-before mode (c.args.first + j) (chunk j) k))
    ∙ before_next mode (c.args.first + j) (chunk j) k

pub returns : goal.returns
returns c = λ s j text size reached many start.
    let done : c.next_block.k ≡ c.args.to = omega arith in
    c.next_block.invariant s j text size reached (omega arith) start
    ∙ ap (before_block c.args.mode.now (c.args.first + j) (piece s (1024 * j) 1024)) done

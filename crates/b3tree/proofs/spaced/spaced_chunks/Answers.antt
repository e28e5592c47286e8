use Rattle.std.proofs.Common.{◌≡◌, ◌≤◌, ℕ, ◌+◌, ◌-◌, ◌*◌, List, ◌++◌, length, refl, sym, ap, ◌∙◌, arith, add-one}
use Rattle.b3word.specs.Compression.{cv}
use Rattle.b3word.proofs.EightLanes.{splat-at}
use Rattle.b3tree.specs.declared.mode.Mode.{Mode}
use Rattle.b3tree.specs.Bytes.{words_of}
use Rattle.b3tree.specs.Chunk.{block, block_count, block_flags, chunk_input}
use Rattle.b3tree.specs.Pieces.{before_block, lane_place, piece}
use Rattle.b3tree.proofs.Pieces.{block-piece, block_words-piece, chunk_input-before, lane_fits, length-piece}
use Rattle.b3tree.proofs.spaced.spaced_chunks.Goals as goal

-- the value of a block comes before the next
before_next : (mode : Mode) (i : ℕ) (s : List ℕ) (k : ℕ) → cv (chunk_input mode i s k) ≡ before_block mode i s (k + 1)
before_next mode i s k = rw add-one refl

pub next_block-preserved : goal.next_block-preserved
next_block-preserved c = λ j h.
    let mode : Mode = c.args.mode.now in
    let number : ℕ = c.args.first + c.args.apart * j in
    let text : List ℕ = c.args.text.now in
    let at : ℕ = lane_place c.args.at c.args.step j in
    let s : List ℕ = piece text at 1024 in
    let k : ℕ = c.next_block.k in
    let fits : at + 1024 ≤ length text = lane_fits c.args.at c.args.step j 1024 (length text) (omega arith) (omega (arith, c.requires.len)) in
    let size : length s ≡ 1024 = length-piece text at 1024 fits in
    let full : length (block s k) ≡ 64 = ap length (block-piece text at k (omega arith)) ∙ length-piece text (at + 64 * k) 64 (omega arith) in
    let on : lane_place (c.args.at + 64 * k) c.args.step j ≡ at + 64 * k = omega arith in
    let words = c.spaced_words-m.ensures j h
    ∙ (λ i. words_of 8 (piece text (on i) 32) ++ words_of 8 (piece text (on i + 32) 32))
    ∙ block_words-piece text at k (omega arith) fits in
    let len = splat-at 64 j h ∙ sym full in
    let flags = splat-at c.block_flags-flags.result j h ∙ c.block_flags-flags.ensures ∙ ap (λ (n : ℕ). block_flags mode (block_count n) k) (sym size) in
    c.cv_lanes-next.ensures j number h (c.low_words-t_low.ensures j h) (c.high_words-t_high.ensures j h)
    ∙ (λ i. cv (record {
      h = c.next_block.invariant j h i;
      m = words i;
      t = number;
      b = len i;
      d = flags i;
    }))
    ∙ ap cv (sym (chunk_input-before mode number s k))
    ∙ before_next mode number s k

pub returns : goal.returns
returns c = λ j h.
    let mode : Mode = c.args.mode.now in
    let number : ℕ = c.args.first + c.args.apart * j in
    let text : List ℕ = c.args.text.now in
    let at : ℕ = lane_place c.args.at c.args.step j in
    let s : List ℕ = piece text at 1024 in
    let fits : at + 1024 ≤ length text = lane_fits c.args.at c.args.step j 1024 (length text) (omega arith) (omega (arith, c.requires.len)) in
    let size : length s ≡ 1024 = length-piece text at 1024 fits in
    let done : c.next_block.k ≡ 16 = omega arith in
    c.next_block.invariant j h
    ∙ ap (before_block mode number s) done
    ∙ ap (λ (n : ℕ). cv (chunk_input mode number s (block_count n - 1))) (sym size)

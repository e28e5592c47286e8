use Rattle.std.proofs.Common.{◌≡◌, ◌≤◌, ℕ, ◌+◌, ◌-◌, ◌*◌, List, length, refl, sym, ap, ◌∙◌, arith, add-one}
use Rattle.std.proofs.Math.Nat.{mul-le-mul_left}
use Rattle.b3word.specs.Compression.{cv}
use Rattle.b3word.proofs.EightLanes.{splat-at}
use Rattle.b3tree.specs.declared.mode.Mode.{Mode}
use Rattle.b3tree.specs.Chunk.{block, block_count, block_flags, chunk_input}
use Rattle.b3tree.specs.Pieces.{before_block, piece}
use Rattle.b3tree.proofs.Pieces.{block-piece, chunk_input-before, length-piece}
use Rattle.b3tree.proofs.lanes.chunk_lanes.Goals as goal

-- the value of a block comes before the next
before_next : (mode : Mode) (i : ℕ) (s : List ℕ) (k : ℕ) → cv (chunk_input mode i s k) ≡ before_block mode i s (k + 1)
before_next mode i s k = rw add-one refl

-- a chunk in its place ends within the bytes
chunk_fits : (at apart j n : ℕ) → j ≤ 7 → at + 1024 * apart * 7 + 1024 ≤ n → at + 1024 * apart * j + 1024 ≤ n
chunk_fits at apart j n h fits = let within : 1024 * apart * j ≤ 1024 * apart * 7 = mul-le-mul_left (1024 * apart) h in omega arith

pub next_block-preserved : goal.next_block-preserved
next_block-preserved c = λ j h.
    let mode : Mode = c.args.mode.now in
    let number : ℕ = c.args.first + c.args.apart * j in
    let at : ℕ = c.args.at + 1024 * c.args.apart * j in
    let s : List ℕ = piece c.args.bytes.now at 1024 in
    let k : ℕ = c.next_block.k in
    let fits : at + 1024 ≤ length c.args.bytes.now = chunk_fits c.args.at c.args.apart j (length c.args.bytes.now) (omega arith) c.requires.len in
    let size : length s ≡ 1024 = length-piece c.args.bytes.now at 1024 fits in
    let full : length (block s k) ≡ 64 =
    ap length (block-piece c.args.bytes.now at k (omega arith)) ∙ length-piece c.args.bytes.now (at + 64 * k) 64 (omega arith) in
    let len = splat-at 64 j h ∙ sym full in
    let flags = splat-at c.block_flags-flags.result j h ∙ c.block_flags-flags.ensures ∙ ap (λ (n : ℕ). block_flags mode (block_count n) k) (sym size) in
    c.cv_lanes-next.ensures j number h (c.low_words-t_low.ensures j h) (c.high_words-t_high.ensures j h)
    ∙ (λ i. cv (record {
      h = c.next_block.invariant j h i;
      m = c.message-m.ensures j h i;
      t = number;
      b = len i;
      d = flags i;
    }))
    ∙ ap cv (sym (chunk_input-before mode number s k))
    ∙ before_next mode number s k

pub returns : goal.returns
returns c = λ j h.
    let mode : Mode = c.args.mode.now in
    let number : ℕ = c.args.first + c.args.apart * j in
    let at : ℕ = c.args.at + 1024 * c.args.apart * j in
    let s : List ℕ = piece c.args.bytes.now at 1024 in
    let fits : at + 1024 ≤ length c.args.bytes.now = chunk_fits c.args.at c.args.apart j (length c.args.bytes.now) (omega arith) c.requires.len in
    let size : length s ≡ 1024 = length-piece c.args.bytes.now at 1024 fits in
    let done : c.next_block.k ≡ 16 = omega arith in
    c.next_block.invariant j h
    ∙ ap (before_block mode number s) done
    ∙ ap (λ (n : ℕ). cv (chunk_input mode number s (block_count n - 1))) (sym size)

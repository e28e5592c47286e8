use Rattle.std.proofs.Common.{◌≡◌, ◌≤◌, ℕ, ◌+◌, ◌-◌, ◌*◌, List, ◌++◌, length, replicate}
use Rattle.b3word.specs.Lanes.{lane8}
use Rattle.b3tree.specs.Chunk.{block_count}
use Rattle.b3tree.specs.Pieces.{before_block, piece}
use Rattle.b3tree.proofs.few.lane_blocks.Given as goal

-- each lane has what comes before block k of its chunk, as long as the chunk has as many
abbrev pub invariant-next_block : goal.invariant-next_block
invariant-next_block l = (s : List ℕ) (j : ℕ) → l.text ≡ s ++ replicate (8192 - length s) 0 → length s ≡ 1024 * l.last + l.last_len → j ≤ l.last
    → l.k ≤ block_count (length (piece s (1024 * j) 1024))
    → lane8 j l.before ≡ before_block l.mode (l.first + j) (piece s (1024 * j) 1024) l.from
    → lane8 j l.h ≡ before_block l.mode (l.first + j) (piece s (1024 * j) 1024) l.k

use Rattle.std.proofs.Common.{◌≡◌, ℕ, ◌+◌, ◌*◌, ◌<◌}
use Rattle.b3word.specs.Lanes.{lane8}
use Rattle.b3tree.specs.Pieces.{before_block, lane_place, piece}
use Rattle.b3tree.proofs.spaced.spaced_chunks.Given as goal

-- each lane has what comes before block k of its chunk
abbrev pub invariant-next_block : goal.invariant-next_block
invariant-next_block l = (j : ℕ) → j < 8
    → lane8 j l.h ≡ before_block l.mode (l.first + l.apart * j) (piece l.text (lane_place l.at l.step j) 1024) l.k

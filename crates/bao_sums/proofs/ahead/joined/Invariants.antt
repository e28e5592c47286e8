use Rattle.std.proofs.Common.{ℕ, List, ◌<◌, length, slice_index_or, All}
use Rattle.b3tree.specs.declared.mode.Mode.{Mode}
use Rattle.bao_files.specs.Disks.{FileState}
use Rattle.bao_sums.specs.Early.{IsHashedEarly}
use Rattle.bao_sums.proofs.ahead.joined.Given as goal

-- the hashes so far are right
abbrev pub invariant-loop-share : goal.invariant-loop-share
invariant-loop-share l =
    (at : List ℕ → FileState) (mode : Mode) → ((i : ℕ) (d : _) → i < length l.shares → All (IsHashedEarly at mode) (slice_index_or l.shares i d).items) → All (IsHashedEarly at mode) l.all.items

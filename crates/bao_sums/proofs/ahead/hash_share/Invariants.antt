use Rattle.std.proofs.Common.{ℕ, List, All}
use Rattle.bao_files.specs.Disks.{FileState}
use Rattle.bao_sums.specs.Early.{IsHashedEarly, IsOpened}
use Rattle.bao_sums.proofs.ahead.hash_share.Given as goal

-- the hashes so far are right
abbrev pub invariant-loop-opened : goal.invariant-loop-opened
invariant-loop-opened g l =
    (at : List ℕ → FileState) → All (IsOpened g.I.Source.contents g.I.Read.remaining at) l.batch → All (IsHashedEarly at l.mode) l.share.items

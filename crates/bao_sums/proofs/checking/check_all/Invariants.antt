use Rattle.std.proofs.Common.{◌≡◌, All, map, take}
use Rattle.bao_sums.specs.Checked.{IsOutcomeAt, check_line, tally_of, verdicts_of}
use Rattle.bao_sums.specs.Each.{PrintsEach}
use Rattle.bao_sums.specs.Early.{IsHashedEarly}
use Rattle.bao_sums.specs.Found.{sum_of}
use Rattle.bao_sums.proofs.checking.check_all.Given as goal

-- the verdicts so far were printed, and the hashes that were had before are right
abbrev pub invariant-items : goal.invariant-items
invariant-items g l =
    PrintsEach (IsOutcomeAt (g.D.Disk.faultless l.disk) (g.D.Disk.at l.disk) l.checking.mode.now l.checking.ranges) (check_line l.checking.quiet) (take l.index (map sum_of l.lines))
    (g.O.Write.contents l.initial.out) (g.O.Write.contents l.out) (λ outcomes. l.tally ≡ tally_of (verdicts_of outcomes))
    × All (IsHashedEarly (g.D.Disk.at l.disk) l.checking.mode.now) l.ahead.early.items

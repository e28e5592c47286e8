use Rattle.std.proofs.Common.{All}
use Rattle.bao_sums.specs.Early.{IsOpened}
use Rattle.bao_sums.proofs.ahead.open_batch.Given as goal

-- the files so far were opened
abbrev pub invariant-loop-path : goal.invariant-loop-path
invariant-loop-path g l = All (IsOpened g.D.Input.Source.contents g.D.Input.Read.remaining (g.D.Disk.at l.disk)) l.batch.items

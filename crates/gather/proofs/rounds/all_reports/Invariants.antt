use Rattle.gather.proofs.SeatCommon.{◌≡◌, take}
use Rattle.gather.specs.Crews.{all_of}
use Rattle.gather.proofs.rounds.all_reports.Given as goal

abbrev pub invariant-loop-crew : goal.invariant-loop-crew
invariant-loop-crew g l = l.all ≡ all_of (take l.crew-index l.crews)

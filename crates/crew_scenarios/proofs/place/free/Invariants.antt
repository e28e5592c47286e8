use Rattle.store_shared.specs.Seats.{IsSeatOf}
use Rattle.crew_scenarios.proofs.place.free.Given as goal

abbrev pub invariant-loop-group : goal.invariant-loop-group
invariant-loop-group l = IsSeatOf l.assembly l.seat

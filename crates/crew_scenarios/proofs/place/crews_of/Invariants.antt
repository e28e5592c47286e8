use Rattle.std.specs.Prelude.{All}
use Rattle.store_shared.specs.Seats.{IsSeatOf}
use Rattle.crew_scenarios.proofs.place.crews_of.Given as goal

abbrev pub invariant-loop-holders : goal.invariant-loop-holders
invariant-loop-holders g l = IsSeatOf l.assembly l.seat × All (λ crew. IsSeatOf l.assembly crew.seat) l.crews.items

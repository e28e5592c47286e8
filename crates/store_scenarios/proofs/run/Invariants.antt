use Rattle.store_scenarios.specs.Rooms.{IsWell}
use Rattle.store_scenarios.proofs.run.Given as goal

abbrev pub invariant-lines : goal.invariant-lines
invariant-lines g l = IsWell l.room

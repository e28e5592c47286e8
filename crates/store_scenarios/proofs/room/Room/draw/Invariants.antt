use Rattle.store_scenarios.specs.Rooms.{IsWell}
use Rattle.store_scenarios.proofs.room.Room.draw.Given as goal

abbrev pub invariant-calls : goal.invariant-calls
invariant-calls l = IsWell l.self

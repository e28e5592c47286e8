-- which seats a room has
use Rattle.std.specs.Prelude.{List, Option, IfSome, All}
use Rattle.store_shared.specs.Seats.{Gripped, IsSeatOf}
use Rattle.store_shared.specs.declared.assembly.Assembly.{Assembly}
use Rattle.store_scenarios.specs.declared.room.Room.{Room}

-- each seat that isn't away is one of this store's
abbrev pub AreSeatsOf : Assembly → List (Option Gripped) → Type 0
AreSeatsOf store seats = All (λ seat. IfSome seat (IsSeatOf store)) seats

abbrev pub IsWell : Room → Type 0
IsWell room = AreSeatsOf room.shared room.seats.items

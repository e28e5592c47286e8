use Rattle.std.proofs.Common.{◌*◌, ◌^◌, ◌≤◌}
use Rattle.gather.specs.SeatLasting.{RecordsOn}
use Rattle.holders.specs.Pieces.{length_of, piece_of}
use Rattle.store_shared.specs.Seats.{IsSeatOf, fixed_of}
use Rattle.berylwool.specs.Storing.{EachGroup, StoresGroup}
use Rattle.berylwool.proofs.storing.store_groups.Given as goal

abbrev pub invariant-loop-group : goal.invariant-loop-group
invariant-loop-group l = IsSeatOf l.store l.seat
    × EachGroup (StoresGroup (piece_of (fixed_of l.store).base l.piece)) l.group l.count l.fn.seat.view l.seat.view
    × RecordsOn l.seat (length_of (piece_of (fixed_of l.store).base l.piece))
    × (l.count ≤ l.group * 2 ^ 32)

use Rattle.holders.specs.Pieces.{piece_of}
use Rattle.store_shared.specs.Seats.{IsSeatOf, fixed_of}
use Rattle.determined_stores.specs.Serves.{AreStored, IsReady}
use Rattle.determined_stores.proofs.served.piece_is_stored.Given as goal

abbrev pub invariant-loop-group : goal.invariant-loop-group
invariant-loop-group l = IsSeatOf l.a l.seat
    × IsReady l.seat.view (piece_of (fixed_of l.a).base l.piece)
    × AreStored l.seat.view (piece_of (fixed_of l.a).base l.piece) l.group

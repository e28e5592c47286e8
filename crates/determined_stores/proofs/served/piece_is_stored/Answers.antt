use Rattle.holders.specs.Pieces.{piece_of}
use Rattle.store_shared.specs.Seats.{fixed_of}
use Rattle.determined_stores.proofs.LoneStoring.{none_stored}
use Rattle.determined_stores.proofs.served.piece_is_stored.Goals as goal

pub loop-group-init : goal.loop-group-init
loop-group-init c = (c.requires.of, c.requires.ready, none_stored c.args.seat.now.view (piece_of (fixed_of c.args.a.now).base c.args.piece.now))

pub loop-group-preserved : goal.loop-group-preserved
loop-group-preserved c = (c.group_is_stored.ensures.of, c.group_is_stored.ensures.ready, c.group_is_stored.ensures.stored c.loop-group.invariant.2)

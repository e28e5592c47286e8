use Rattle.holders.specs.declared.piece.Piece.{Piece}
use Rattle.holders.specs.Pieces.{piece_of}
use Rattle.store_shared.specs.Seats.{fixed_of}
use Rattle.determined_stores.proofs.LoneStoring.{begins}
use Rattle.determined_stores.proofs.PieceNodes.{every_slice}
use Rattle.determined_stores.proofs.served.every_slice_is_served.Goals as goal

pub stored_is_served-requires-clause-has : goal.stored_is_served-requires-clause-has
stored_is_served-requires-clause-has c =
    let piece : Piece = piece_of (fixed_of c.args.a.now).base c.args.piece.now in
    every_slice piece (begins c.args.a.now c.args.seat.now piece c.requires.of c.requires.ready) c.requires.whole.0 c.requires.whole.1 c.args.start c.args.len

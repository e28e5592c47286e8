use Rattle.std.proofs.Common.{ℕ, subst, sym}
use Rattle.holders.specs.declared.piece.Piece.{Piece}
use Rattle.holders.specs.Pieces.{piece_of}
use Rattle.store_shared.specs.Seats.{fixed_of}
use Rattle.determined_stores.proofs.LoneStoring.{begins}
use Rattle.determined_stores.proofs.PieceNodes.{own_slice}
use Rattle.determined_stores.specs.Serves.{HasSliceOf}
use Rattle.determined_stores.proofs.served.own_slice_is_served.Goals as goal

pub stored_is_served-requires-clause-has : goal.stored_is_served-requires-clause-has
stored_is_served-requires-clause-has c =
    let piece : Piece = piece_of (fixed_of c.args.a.now).base c.args.piece.now in
    subst (λ (n : ℕ). HasSliceOf piece n c.args.len) (sym c.requires.own.0)
    (subst (λ (n : ℕ). HasSliceOf piece piece.start n) (sym c.requires.own.1) (own_slice piece (begins c.args.a.now c.args.seat.now piece c.requires.of c.requires.ready)))

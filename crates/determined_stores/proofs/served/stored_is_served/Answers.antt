use Rattle.holders.specs.Pieces.{piece_of}
use Rattle.store_shared.specs.Seats.{fixed_of}
use Rattle.determined_stores.proofs.LoneStoring.{all_held}
use Rattle.determined_stores.proofs.served.stored_is_served.Goals as goal

pub returns : goal.returns
returns c =
    c.serve_slice.ensures.held
    (all_held c.args.a.now c.piece_is_stored.new.seat (piece_of (fixed_of c.args.a.now).base c.args.piece.now) c.piece_is_stored.ensures.of c.piece_is_stored.ensures.ready
    c.args.a.now.words.some c.piece_is_stored.ensures.stored c.args.start c.args.len c.requires.has)

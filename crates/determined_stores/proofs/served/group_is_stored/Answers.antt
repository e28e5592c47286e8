use Rattle.std.proofs.Common.{Err}
use Rattle.holders.specs.declared.piece.Piece.{Piece}
use Rattle.holders.specs.Pieces.{piece_of}
use Rattle.store_shared.specs.Seats.{fixed_of}
use Rattle.determined_stores.proofs.LoneStoring.{group_stored, never_unstored, ready_committed, still_ready}
use Rattle.determined_stores.proofs.served.group_is_stored.Goals as goal

pub unreachable-requires-in_default-commit_parents : goal.unreachable-requires-in_default-commit_parents
unreachable-requires-in_default-commit_parents c =
    let piece : Piece = piece_of (fixed_of c.args.a.now).base c.args.piece.now in
    never_unstored (fixed_of c.args.a.now) c.commit.new.seat c.commit_parents.new.seat c.args.group c.args.piece.now c.in_default-commit_parents.field-0
    (λ is. c.in_default-commit_parents.ensures.root.0 (λ i. Err (is i)) c.requires.piece)
    (ready_committed c.args.seat.now c.take.new.seat c.look_round.new.seat c.commit.new.seat c.args.group c.in-Ok._granted c.in-Ok-commit._committed piece
    c.in-Ok.ensures.called c.look_round.ensures.looked c.in-Ok-commit.ensures.called c.requires.ready)
    c.in_default-commit_parents.ensures.refused

pub returns-clause-ready : goal.returns-clause-ready
returns-clause-ready c =
    still_ready c.args.seat.now c.take.new.seat c.look_round.new.seat c.commit.new.seat c.commit_parents.new.seat c.args.group c.in-Ok._granted c.in-Ok-commit._committed c.in-Ok-commit_parents._stored
    (piece_of (fixed_of c.args.a.now).base c.args.piece.now)
    c.in-Ok.ensures.called c.look_round.ensures.looked c.in-Ok-commit.ensures.called c.in-Ok-commit_parents.ensures.called c.requires.ready

pub returns-clause-stored : goal.returns-clause-stored
returns-clause-stored c =
    let piece : Piece = piece_of (fixed_of c.args.a.now).base c.args.piece.now in
    let ready = ready_committed c.args.seat.now c.take.new.seat c.look_round.new.seat c.commit.new.seat c.args.group c.in-Ok._granted c.in-Ok-commit._committed piece
    c.in-Ok.ensures.called c.look_round.ensures.looked c.in-Ok-commit.ensures.called c.requires.ready in
    group_stored c.args.seat.now c.take.new.seat c.look_round.new.seat c.commit.new.seat c.commit_parents.new.seat c.args.group c.in-Ok._granted c.in-Ok-commit._committed c.in-Ok-commit_parents._stored
    piece c.in-Ok.ensures.called c.look_round.ensures.looked c.in-Ok-commit.ensures.called c.in-Ok-commit_parents.ensures.called c.requires.ready
    (c.in-Ok-commit_parents.ensures.held ready.alone.all)

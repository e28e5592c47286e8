use Rattle.std.proofs.Common.{subst}
use Rattle.holders.specs.declared.piece.Piece.{Piece}
use Rattle.store_shared.specs.Seats.{fixed_of}
use Rattle.berylwool.specs.Storing.{IsOfOther, StoresAll}
use Rattle.berylwool.proofs.Texts.{piece_is, refused_there}
use Rattle.berylwool.proofs.storing.stored_all.Goals as goal

pub returns-in-Ok-clause-stores : goal.returns-in-Ok-clause-stores
returns-in-Ok-clause-stores c = λ ok.
    let fixed = fixed_of c.args.store.now in
    subst (λ (p : Piece). StoresAll fixed p c.stored_piece.new.committed c.stored_piece.new.parents c.args.seat.now.view c.stored_piece.new.seat.view)
    (piece_is fixed.base c.in-Ok.piece c.mode.result c.root.result.0 c.args.start c.args.len c.args.text.now c.in-Ok.ensures.piece) (c.stored_piece.ensures.stores ok)

pub returns-in-Ok-clause-other_length : goal.returns-in-Ok-clause-other_length
returns-in-Ok-clause-other_length c = λ other.
    let fixed = fixed_of c.args.store.now in
    subst (λ (p : Piece). IsOfOther p c.args.seat.now.view c.stored_piece.new.seat.view)
    (piece_is fixed.base c.in-Ok.piece c.mode.result c.root.result.0 c.args.start c.args.len c.args.text.now c.in-Ok.ensures.piece) (c.stored_piece.ensures.other_length other)

pub returns-in-Err-clause-fault : goal.returns-in-Err-clause-fault
returns-in-Err-clause-fault c = λ _ _.
    refused_there (fixed_of c.args.store.now) c.mode.result c.root.result c.args.text.now _ c.in-Err.fault _ _ c.mode.ensures c.root.ensures c.told.ensures.status c.in-Err.ensures.fault

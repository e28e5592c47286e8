use Rattle.std.proofs.Common.{sym, subst}
use Rattle.holders.specs.declared.piece.Piece.{Piece}
use Rattle.holders.specs.Pieces.{IsAcceptedPiece}
use Rattle.store_core.proofs.SlotStates.{accepted_piece}
use Rattle.store_steps.specs.Plays.{LoadsToStore}
use Rattle.store_steps.proofs.Looking.{length_to_store_steps}
use Rattle.store_steps.proofs.StepViews.{step_asks}
use Rattle.store_steps.proofs.words.Words.length_to_store_asked.Goals as goal

pub load-found-requires : goal.load-found-requires
load-found-requires g c =
    let words = c.args.self.now in
    let seat = c.grip.inside.seat in
    step_asks words seat c.grip.view_is c.requires.of c.grip.invariant.0 c.length_place-place.ensures.place c.length_place-place.ensures.within
    (λ n. n) (λ n. LoadsToStore g.A.Arguments.group g.A.Arguments.piece n) (λ s kept at small.
    length_to_store_steps words.fixed s kept seat.id _ at g.A.Arguments.group g.A.Arguments.piece
    (subst (λ (p : Piece). IsAcceptedPiece words.fixed p) (sym c.requires.asked.1)
    (accepted_piece words.fixed c.args.piece.now c.is_accepted.ensures.bytes c.is_accepted.ensures.accepted c.requires.piece)))

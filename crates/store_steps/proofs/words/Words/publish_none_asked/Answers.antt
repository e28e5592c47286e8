use Rattle.std.proofs.Common.{sym, subst, refl, arith}
use Rattle.holders.specs.declared.piece.Piece.{Piece}
use Rattle.holders.specs.Pieces.{IsAcceptedPiece}
use Rattle.store_core.proofs.SlotStates.{accepted_piece}
use Rattle.store_steps.specs.Plays.{Publishes}
use Rattle.store_steps.proofs.StepViews.{step_asks}
use Rattle.store_steps.proofs.Absent.{publish_none_steps}
use Rattle.store_steps.proofs.words.Words.publish_none_asked.Goals as goal

pub load-requires : goal.load-requires
load-requires g c =
    let words = c.args.self.now in
    let seat = c.grip.inside.seat in
    step_asks words seat c.grip.view_is c.requires.of c.grip.invariant.0 refl (omega arith)
    (λ n. n) (λ n. Publishes g.A.Arguments.group g.A.Arguments.piece 0) (λ s kept at small.
    publish_none_steps words.fixed s kept seat.id _ at words.some g.A.Arguments.group
    (λ there. c.requires.group (omega (arith, there, c.requires.asked.0))) g.A.Arguments.piece
    (subst (λ (p : Piece). IsAcceptedPiece words.fixed p) (sym c.requires.asked.1)
    (accepted_piece words.fixed c.args.piece.now c.is_accepted.ensures.bytes c.is_accepted.ensures.accepted c.requires.piece)))

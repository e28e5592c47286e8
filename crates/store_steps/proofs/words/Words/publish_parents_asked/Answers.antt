use Rattle.std.proofs.Common.{◌≡◌, ℕ, Some, slice_index, sym, subst}
use Rattle.std.specs.Int.Bits.{bit_or}
use Rattle.holders.specs.declared.piece.Piece.{Piece}
use Rattle.store_core.specs.Histories.{state_after}
use Rattle.holders.specs.Pieces.{length_of, piece_of}
use Rattle.store_core.proofs.SlotStates.{accepted_piece}
use Rattle.store_steps.specs.Asks.{AreParentsWritten}
use Rattle.store_steps.specs.Grips.{Gripped, first_of}
use Rattle.store_steps.specs.Layout.{parent_held_place}
use Rattle.store_steps.specs.Plays.{PublishesParents}
use Rattle.store_steps.proofs.Publishing.{publish_parents_steps}
use Rattle.store_steps.proofs.StepViews.{Steps, step_asks}
use Rattle.store_steps.proofs.words.Words.publish_parents_asked.Goals as goal

pub fetch_or-requires : goal.fetch_or-requires
fetch_or-requires g c =
    let words = c.args.self.now in
    let seat = c.grip.inside.seat in
    let mask : ℕ = c.args.mask in
    let piece : Piece = piece_of words.fixed.base c.args.piece.now in
    let place : ℕ = parent_held_place words.fixed c.args.group in
    step_asks words seat c.grip.view_is c.requires.of c.grip.invariant.0 c.parent_held_place-place.ensures.place c.parent_held_place-place.ensures.within
    (λ n. bit_or n mask) (λ n. PublishesParents g.A.Arguments.group g.A.Arguments.piece mask) (λ s kept at small.
    subst (λ (x : ℕ × Piece). Steps words.fixed s seat.id place (bit_or (slice_index s.words place) mask) (λ new. PublishesParents x.0 x.1 mask (first_of seat.me.0) new))
    (λ i. (sym c.requires.asked.0 i, sym c.requires.asked.1 i))
    (publish_parents_steps words.fixed s kept seat.id _ at c.args.group mask piece c.requires.group
    (accepted_piece words.fixed c.args.piece.now c.is_accepted.ensures.bytes c.is_accepted.ensures.accepted c.requires.piece)
    (subst (λ (x : Gripped). (state_after x.view.seen).recorded ≡ Some (length_of piece)) (sym c.grip.view_is) c.requires.length)
    (subst (λ (x : Gripped). AreParentsWritten x.view c.args.group mask piece) (sym c.grip.view_is) c.requires.written)))

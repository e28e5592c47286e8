use Rattle.std.proofs.Common.{slice_index, ◌+◌, ◌==◌, ℕ, sym, subst}
use prog.Atomic.{either}
use Rattle.bao_check.specs.Tail.{tail_piece}
use Rattle.holders.specs.declared.piece.Piece.{Piece}
use Rattle.holders.specs.Pieces.{piece_of}
use Rattle.store_core.proofs.SlotStates.{accepted_piece}
use Rattle.store_steps.specs.Grips.{first_of}
use Rattle.store_steps.specs.Layout.{length_place}
use Rattle.store_steps.specs.Plays.{SettlesLength}
use Rattle.store_steps.proofs.StepViews.{Steps, step_asks}
use Rattle.store_steps.proofs.Settling.{settle_steps}
use Rattle.store_steps.proofs.words.Words.settle_asked.Goals as goal

pub compare_exchange-found-requires : goal.compare_exchange-found-requires
compare_exchange-found-requires g c =
    let words = c.args.self.now in
    let seat = c.grip.inside.seat in
    let place : ℕ = length_place words.fixed in
    let piece : Piece = piece_of words.fixed.base (tail_piece c.args.tail.now) in
    step_asks words seat c.grip.view_is c.requires.of c.grip.invariant.0 c.length_place-place.ensures.place c.length_place-place.ensures.within
    (λ n. either (n == 0) (c.length-length.result + 1) n) (λ n. SettlesLength g.A.Arguments.piece n) (λ s kept at small.
    let found : ℕ = slice_index s.words place in
    subst (λ (x : ℕ × Piece). Steps words.fixed s seat.id place (either (found == 0) (x.0 + 1) found) (λ new. SettlesLength x.1 found (first_of seat.me.0) new))
    (λ i. (sym c.length-length.ensures.value i, sym c.requires.asked i))
    (settle_steps words.fixed s kept seat.id _ at piece
    (accepted_piece words.fixed (tail_piece c.args.tail.now) c.is_last.ensures.bytes c.is_last.ensures.accepted c.requires.piece) c.is_last.ensures.last c.requires.fits))

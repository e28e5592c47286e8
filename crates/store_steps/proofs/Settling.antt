-- Settle: one exchange on the length word.
use Rattle.std.proofs.lemmas.Bool.Decides.{nat_tests}
use Rattle.std.proofs.Common.{◌≡◌, ℕ, ◌+◌, ◌==◌, true, List, [], ◌∷◌, Option, slice_index, refl, sym, ap, ◌∙◌, arith}
use prog.Atomic.{either}
use mathlib.Core.Option.{some}
use lib.ListN.{get_elem?}
use Rattle.atomic_table.specs.Table.{State as Table}
use Rattle.holders.specs.declared.fixed.Fixed.{Fixed}
use Rattle.store_core.specs.declared.history.Call.TheVariants.{Settle}
use Rattle.holders.specs.declared.piece.Piece.{Piece}
use Rattle.store_core.specs.declared.history.Settling.{Settling}
use Rattle.store_core.specs.declared.view.SeatView.{SeatView}
use Rattle.store_core.specs.Events.{recorded_after, settling}
use Rattle.holders.specs.Room.{has_room}
use Rattle.store_core.specs.Histories.{state_after}
use Rattle.holders.specs.Pieces.{EndsBlob, IsAcceptedPiece, length_of}
use Rattle.store_core.specs.States.{State}
use Rattle.store_steps.specs.Layout.{length_code, length_place}
use Rattle.store_steps.specs.Plays.{SettlesLength, length_in}
use Rattle.store_steps.specs.Rule.{RuleHolds}
use Rattle.store_steps.proofs.Looking.{length_back}
use Rattle.store_steps.proofs.WrittenWords.{length_stands}
use Rattle.store_steps.proofs.StepViews.{Steps, cells_past, did_step, sound, stored_past}

-- the word after the exchange is that of the length recorded then
pub word_then : (o : Option ℕ) (l : ℕ) → either (length_code o == 0) (l + 1) (length_code o) ≡ length_code (recorded_after (settling o l) l o)
word_then o l = grind (arith, nat_tests)

module _ (fixed : Fixed) (s : Table Unit (List SeatView)) (k : RuleHolds fixed s) (id : ℕ) (view : SeatView) (seat : get_elem? s.views id ≡ some (view ∷ []))
    (piece : Piece) (accepted : IsAcceptedPiece fixed piece) (ends : EndsBlob piece) (fits : has_room fixed (length_of piece) ≡ true) where
  abbrev state : State
  state = state_after k.history

  abbrev found : ℕ
  found = slice_index s.words (length_place fixed)

  abbrev exchanged : ℕ
  exchanged = either (found == 0) (length_of piece + 1) found

  answer : settling (length_in found) (length_of piece) ≡ settling state.recorded (length_of piece)
  answer = ap (λ (o : Option ℕ). settling o (length_of piece)) (ap (λ (n : ℕ). length_in n) k.words.recorded ∙ length_back state.recorded)

  word_is : exchanged ≡ length_code (recorded_after (settling (length_in found) (length_of piece)) (length_of piece) state.recorded)
  word_is = ap (λ (n : ℕ). either (n == 0) (length_of piece + 1) n) k.words.recorded ∙ word_then state.recorded (length_of piece)
      ∙ ap (λ (a : Settling). length_code (recorded_after a (length_of piece) state.recorded)) (sym answer)

  pub settle_steps : Steps fixed s id (length_place fixed) exchanged (λ new. SettlesLength piece found view new)
  settle_steps = did_step fixed s k id view seat (Settle piece (settling (length_in found) (length_of piece))) (length_place fixed) exchanged (omega arith) refl
      (accepted, ends, fits, answer)
      (length_stands fixed s.words state k.words (sound fixed s k id view seat) (recorded_after (settling (length_in found) (length_of piece)) (length_of piece) state.recorded) exchanged word_is)
      (stored_past fixed s k id view seat (length_place fixed) exchanged (omega arith)) (λ number c theirs. cells_past fixed s k id view seat (length_place fixed) exchanged (omega arith) number c)

-- What stands where a call does, and that what a settled length meets is one of the answers of the store.
use Rattle.std.proofs.lemmas.Bool.Decides.{nat_tests}
use Rattle.std.proofs.Common.{arith, ◌≡◌, ℕ, ◌++◌, Option, sym, ap, ◌∙◌}
use Rattle.bao_check.specs.declared.checked.Checked.{Checked}
use Rattle.holders.specs.declared.fixed.Fixed.{Fixed}
use Rattle.store_core.specs.declared.history.Call.{Call}
use Rattle.store_core.specs.declared.history.Call.TheVariants.{Length, Settle}
use Rattle.store_core.specs.declared.history.Settling.{Settling}
use Rattle.store_core.specs.declared.history.Settling.TheVariants.{Settled, Known, Differs, OtherRoot, TooLarge}
use Rattle.store_core.specs.declared.view.SeatView.{SeatView}
use Rattle.store_core.specs.Events.{settling}
use Rattle.store_core.specs.Histories.{state_after}
use Rattle.holders.specs.Pieces.{length_of, piece_of}
use Rattle.store_core.specs.States.{State}
use Rattle.store_shared.specs.Seats.{Gripped}
use Rattle.store_core.specs.Knowledge.{Called, Did}
use Rattle.store_shared.specs.Calls.{MaySettle, SeatSettles}
pub use Rattle.store_shared.proofs.Slices.{after_there, right_there, same_there}

pub called : (call : Call) (old new : SeatView) → Did call old new → Called call old new
called call old new did = record { between = did.between; goes_on = did.goes_on; claims_are = did.claims_are; storing_is = did.storing_is }

pub length_there : (old new : SeatView) (recorded : Option ℕ) → Called (Length recorded) old new → (state_after new.seen).recorded ≡ recorded
length_there old new recorded called =
    ap (λ (s : State). s.recorded) (after_there (Length recorded) old new called) ∙ sym (right_there (Length recorded) old new called)

never_other : (o : Option ℕ) (l : ℕ) → OtherRoot ≡ settling o l → ⊥
never_other o l e = grind (arith, nat_tests)

never_large : (o : Option ℕ) (l : ℕ) → TooLarge ≡ settling o l → ⊥
never_large o l e = grind (arith, nat_tests)

pub settled : (fixed : Fixed) (old new : Gripped) (piece : Checked) (answer : Settling) → MaySettle fixed piece
    → Called (Settle (piece_of fixed.base piece) answer) old.view new.view → SeatSettles fixed old new piece answer
settled fixed old new piece Settled may did = (may, did)
settled fixed old new piece Known may did = (may, did)
settled fixed old new piece Differs may did = (may, did)
settled fixed old new piece OtherRoot may did =
    absurd (never_other (state_after (old.view.seen ++ did.between)).recorded (length_of (piece_of fixed.base piece)) (right_there (Settle (piece_of fixed.base piece) OtherRoot) old.view new.view did).3)
settled fixed old new piece TooLarge may did =
    absurd (never_large (state_after (old.view.seen ++ did.between)).recorded (length_of (piece_of fixed.base piece)) (right_there (Settle (piece_of fixed.base piece) TooLarge) old.view new.view did).3)

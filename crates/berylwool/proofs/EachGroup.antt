-- Groups of which all that a piece has is stored, one after another.
use Rattle.std.proofs.Common.{◌≡◌, ℕ, suc, ◌+◌, ◌%◌, Bool, false, List, [], ◌∷◌, ◌++◌, Option, Some, IfSome, refl, sym, subst, ◌∙◌, arith}
use Rattle.bao_check.specs.declared.checked.Checked.{Checked}
use Rattle.gather.proofs.SeatKnowing.{length_records}
use Rattle.gather.proofs.Sharing.{goes_on}
use Rattle.gather.specs.SeatLasting.{RecordsOn, lasts}
use Rattle.holders.specs.Holders.{IsIt}
use Rattle.gather.specs.Worked.{IsFrom, parents_of}
use Rattle.store_core.proofs.Bits.{has_bit-zero}
use Rattle.store_core.proofs.Lasting.{legal-append}
use Rattle.holders.specs.declared.fixed.Fixed.{Fixed}
use Rattle.store_core.specs.declared.history.Call.{Call}
use Rattle.store_core.specs.declared.history.Call.TheVariants.{Length, Parents}
use Rattle.store_core.specs.declared.history.Event.{Event}
use Rattle.holders.specs.declared.piece.Piece.{Piece}
use Rattle.store_core.specs.declared.history.Storing.TheVariants.{OtherLength}
use Rattle.store_core.specs.declared.view.SeatView.{SeatView}
use Rattle.store_core.specs.Histories.{IsLegal}
use Rattle.store_core.specs.Knowledge.{Called, event_of}
use Rattle.store_core.specs.Laws.{chunks_of}
use Rattle.store_core.specs.Masks.{IsMaskOf, has_bit}
use Rattle.holders.specs.Pieces.{length_of, piece_of}
use Rattle.store_core.specs.States.{empty}
use Rattle.store_shared.proofs.Asking.{right_there}
use Rattle.store_shared.specs.Calls.{SeatIsUnstored}
use Rattle.store_shared.specs.declared.fault.ParentsFault.{ParentsFault}
use Rattle.store_shared.specs.declared.fault.ParentsFault.TheVariants as unstored
use Rattle.store_shared.specs.Seats.{Gripped}
use Rattle.berylwool.specs.Storing.{EachGroup, Passes}

-- a mask of none
pub passes : (has : ℕ → Bool) (group want count : ℕ) (old new : SeatView) → IsMaskOf group want has → want ≡ 0 → count ≡ 0 → new ≡ old → Passes has group count old new
passes has group want count old new is zero none same = record {
  none = λ c at. sym (is.bits c at) ∙ subst (λ (n : ℕ). has_bit n (c % 64) ≡ false) (sym zero) (has_bit-zero (c % 64));
  count_is = none;
  same = same;
}

-- no group
pub each_none : (step : ℕ → ℕ → SeatView → SeatView → Type 0) (view : SeatView) → EachGroup step 0 0 view view
unfolding EachGroup
each_none step view = (refl, refl)

-- one group more
pub each_next : (step : ℕ → ℕ → SeatView → SeatView → Type 0) (group before one : ℕ) (old between new : SeatView)
    → EachGroup step group before old between → step group one between new → EachGroup step (group + 1) (before + one) old new
unfolding EachGroup
each_next step group before one old between new so then =
    let next : suc group ≡ group + 1 = omega arith in
    subst (λ (n : ℕ). EachGroup step n (before + one) old new) next (before, one, between, so, then, refl)

-- a recorded length is recorded after a call of the piece's too
pub records_on : (piece : Piece) (call : Call) (old new : Gripped) (l : ℕ) → IsFrom (IsIt piece) call → Called call old.view new.view → RecordsOn old l → RecordsOn new l
records_on piece call old new l from called is = lasts.length (IsIt piece) old new (chunks_of call) (parents_of call) l (goes_on (IsIt piece) old new call from called) is

-- and after it was asked for
pub records_now : (old new : Gripped) (o : Option ℕ) (l : ℕ) → Called (Length o) old.view new.view → o ≡ Some l → RecordsOn new l
records_now old new o l called is = subst (λ (p : Option ℕ). IfSome p (λ k. RecordsOn new k)) is (length_records old new o called)

-- so that no other is met
pub never_other : (old new : Gripped) (group : ℕ) (piece : Piece) → RecordsOn old (length_of piece) → Called (Parents group piece OtherLength) old.view new.view → ⊥
never_other old new group piece is called =
    let legal = (legal-append new.view.fixed empty (old.view.seen ++ called.between) (event_of old.view (Parents group piece OtherLength) ∷ [])
    (subst (λ (h : List Event). IsLegal new.view.fixed h) called.goes_on.seen_is called.goes_on.legal)).0 in
    (right_there (Parents group piece OtherLength) old.view new.view called).1
    (is called.between (subst (λ (fixed : Fixed). IsLegal fixed (old.view.seen ++ called.between)) called.goes_on.fixed_is legal))

-- and parents of a piece of the store's root and of that length are stored
pub never_unstored : (fixed : Fixed) (old new : Gripped) (group : ℕ) (piece : Checked) (fault : ParentsFault) → (fault ≡ unstored.OtherRoot → ⊥)
    → RecordsOn old (length_of (piece_of fixed.base piece)) → SeatIsUnstored fixed group piece fault old new → ⊥
never_unstored fixed old new group piece unstored.OtherRoot same is called = same refl
never_unstored fixed old new group piece unstored.OtherLength same is called = never_other old new group (piece_of fixed.base piece) is called

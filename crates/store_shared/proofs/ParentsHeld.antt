-- A seat with all names stores what it has not seen held, so that all that the piece holds is held.
use Rattle.std.proofs.lemmas.Bool.Decides.{nat_tests}
use Rattle.std.proofs.Common.{arith, ◌≡◌, ℕ, ◌/◌, ◌%◌, Bool, true, false, not, ◌&&◌, List, ◌++◌, Option, None, Some, is_some, inl, inr, refl, sym, ap, ◌∙◌, eq-eqb}
use Rattle.std.proofs.lemmas.Bool.{cases_Bool}
use Rattle.store_core.specs.declared.history.Call.{Call}
use Rattle.store_core.specs.declared.history.Call.TheVariants.{Parents}
use Rattle.holders.specs.declared.piece.Piece.{Piece}
use Rattle.store_core.specs.declared.history.Storing.TheVariants.{Stored}
use Rattle.store_core.specs.declared.view.SeatView.{SeatView}
use Rattle.store_core.specs.Histories.{state_after}
use Rattle.store_core.specs.Knowledge.{Called}
use Rattle.store_core.specs.Masks.{IsMaskOf, has_bit, in_mask}
use Rattle.holders.specs.Pieces.{holds_parent}
use Rattle.store_core.specs.States.{State}
use Rattle.store_core.proofs.ParentOrigins.{parent_lasts}
use Rattle.store_shared.specs.Calls.{AreParentsHeld}
use Rattle.store_shared.proofs.Slices.{after_there, legal_there}

-- a parent that isn't stored though the piece holds it, was held
was_held : (hit holds was : Bool) → hit ≡ (holds && not was) → hit ≡ false → holds ≡ true → was ≡ true
was_held hit holds was is miss has = grind (arith, nat_tests)

-- what is held stays
still_held : (old new : Option (List ℕ)) → is_some old ≡ true → ((bytes : List ℕ) → old ≡ Some bytes → new ≡ Some bytes) → is_some new ≡ true
still_held None new held lasts = cc
still_held (Some bytes) new held lasts = ap (λ (o : Option (List ℕ)). is_some o) (lasts bytes refl)

pub parents_held : (old new : SeatView) (group mask : ℕ) (piece : Piece) → Called (Parents group piece (Stored mask)) old new
    → IsMaskOf group mask (λ m. holds_parent piece m && not (is_some ((state_after old.seen).parents m))) → AreParentsHeld new group piece
parents_held old new group mask piece called all m of holds =
    let call : Call = Parents group piece (Stored mask) in
    let now : (state_after new.seen).parents m ≡ _ = ap (λ (s : State). s.parents m) (after_there call old new called) in
    elim (cases_Bool (in_mask group mask m)) [
      | inl hit ↦ ap (λ (o : Option (List ℕ)). is_some o) now ∙ rw hit holds
      | inr miss ↦
          let bit : has_bit mask (m % 64) ≡ false = sym (ap (λ (b : Bool). b && has_bit mask (m % 64)) (eq-eqb (m / 64) group of)) ∙ miss in
          let was : is_some ((state_after old.seen).parents m) ≡ true =
          was_held (has_bit mask (m % 64)) (holds_parent piece m) (is_some ((state_after old.seen).parents m)) (all.bits m of) bit holds in
          ap (λ (o : Option (List ℕ)). is_some o) now
          ∙ rw miss (still_held ((state_after old.seen).parents m) ((state_after (old.seen ++ called.between)).parents m) was
          (λ bytes is. parent_lasts new.fixed old.seen called.between m bytes (legal_there call old new called).0 is))
    ]

-- The steps of a call that stores parents are one event.
use Rattle.std.proofs.lemmas.Bool.Decides.{nat_tests}
use Rattle.std.proofs.Common.{inl, inr, ◌≡◌, ℕ, ◌==◌, nat_lt, true, false, Bool, not, [], ◌∷◌, ◌++◌, Option, Some, refl, sym, ap, subst, ◌∙◌, eq-eqb, ◌/◌, ◌%◌, ◌&&◌, arith, eqb-true, ltb-true}
use Rattle.std.specs.Option.{option_eq}
use Rattle.std.proofs.Math.Dec.{eqb}
use Rattle.b3tree.specs.Valid.{IsKeyed}
use Rattle.holders.specs.declared.fixed.Fixed.{Fixed}
use Rattle.store_core.specs.declared.history.Call.{Call}
use Rattle.store_core.specs.declared.history.Call.TheVariants.{Parents}
use Rattle.holders.specs.declared.piece.Piece.{Piece}
use Rattle.store_core.specs.declared.history.Storing.TheVariants.{OtherLength, Stored}
use Rattle.store_core.specs.declared.view.SeatView.{SeatView}
use Rattle.store_core.specs.Histories.{IsLegal, run, state_after}
use Rattle.holders.specs.Room.{groups}
use Rattle.holders.specs.Pieces.{length_of, holds_parent}
use Rattle.store_core.specs.States.{State}
use Rattle.store_core.proofs.ServingLaws.{held_parent_binds}
use Rattle.store_steps.specs.Asks.{AreParentsWritten}
use Rattle.store_steps.specs.Grips.{Gripped}
use Rattle.store_steps.specs.Slices.{is_recorded, unstored_events}
use Rattle.store_steps.specs.Tells.{IsStoringNow}
use Rattle.store_core.specs.Knowledge.{Called, EndsStoring, Looked, Sees}
use Rattle.store_steps.specs.Words.{IsGripOf, fixed_of}
use Rattle.store_steps.specs.declared.words.Words.{Words}
use Rattle.store_core.proofs.Going.{called_then, sees_none, sees_then, stored_then, looked_state}
use Rattle.store_shared.specs.Parents.{SeatParentsBind}
use Rattle.store_steps.specs.Kinds.{parent_kind}
use Rattle.store_shared.specs.StoredCells.{AreOwnItems, HaveWords}
use Rattle.store_shared.proofs.Storing.{all_stored}
use Rattle.std.proofs.lemmas.Bool.{and_parts, cases_Bool}
use Rattle.store_core.specs.Masks.{IsMaskOf, has_bit, in_mask}
use Rattle.store_core.specs.Views.{is_storing, names_of}
use Rattle.store_steps.proofs.Looking.{none_after}

-- claims are among the boundaries that were wanted: the seat may store their parents, and the piece has them
pub own_parents : (group want mask capacity : ℕ) (piece : Piece) (old new : SeatView) → IsMaskOf group want (λ m. nat_lt m capacity && holds_parent piece m)
    → ((j : ℕ) → has_bit mask j ≡ true → has_bit want j ≡ true) → IsStoringNow group mask old new → new.fixed.capacity ≡ capacity → AreOwnItems parent_kind new group mask piece
own_parents group want mask capacity piece old new is among storing same =
    let each : (m : ℕ) → in_mask group mask m ≡ true → (nat_lt m capacity ≡ true) × (holds_parent piece m ≡ true) = λ m hit.
    let bit = and_parts (m / 64 == group) (has_bit mask (m % 64)) hit in
    and_parts (nat_lt m capacity) (holds_parent piece m) (sym (is.bits m (eqb-true (m / 64) group bit.0)) ∙ among (m % 64) bit.1) in
    record {
      own = λ m hit. (ap (λ (v : SeatView). is_storing v m) storing ∙ rw hit refl, omega (arith, ltb-true m capacity (each m hit).0, same));
      has = λ m hit. (each m hit).1;
    }

-- what the seat has seen held is the blob's
pub parents_bind : (words : Words) (grip : Gripped) → IsKeyed (fixed_of words).mode → IsGripOf words grip → SeatParentsBind grip.view
parents_bind words grip keyed of blob is m bytes held =
    held_parent_binds grip.view.fixed grip.view.seen blob m bytes (subst (λ (f : Fixed). IsKeyed f.mode) (sym of.knows.fixed_is) keyed) is of.knows.legal held

-- a length that was compared with the recorded one
pub other_is : (o : Option ℕ) (l : ℕ) (b : Bool) → b ≡ not (option_eq eqb o (Some l)) → b ≡ true → is_recorded o l ≡ false
other_is o l b is differs = grind (arith, nat_tests)

-- A seat claims boundaries, and stores the words of their parents.
module _ (group mask : ℕ) (piece : Piece) (view claimed words : SeatView) (storing : IsStoringNow group mask view claimed) (has : HaveWords parent_kind group mask piece 64 claimed words) where
  words_are : words ≡ record view { storing = record { group = group; mask = mask } ∷ []; parent_words = words.parent_words }
  words_are = has.rest ∙ ap (λ (v : SeatView). record v { parent_words = words.parent_words }) storing

  pub words_written : AreOwnItems parent_kind claimed group mask piece → AreParentsWritten words group mask piece
  words_written own = record {
    only = ap (λ (v : SeatView). v.storing) words_are;
    held = own.has;
    words = all_stored parent_kind group mask piece claimed words has;
  }

-- its load leaves the state
unstored_quiet : (view : SeatView) (group : ℕ) (piece : Piece) (s : State) → run s (unstored_events view group piece s) ≡ s
unstored_quiet view group piece s = elim (cases_Bool (is_recorded s.recorded (length_of piece))) [
  | inl known ↦ elim (cases_Bool (nat_lt group (groups view.fixed))) [ inl there ↦ rw (known, there) refl | inr absent ↦ rw (known, absent) (none_after group piece s (names_of view)) ]
  | inr other ↦ rw other refl
]

-- The length is loaded for parents of the piece.
module _ (group : ℕ) (piece : Piece) (old new : SeatView) (legal : IsLegal old.fixed old.seen) (looked : Looked (unstored_events old group piece) old new) where
  abbrev there : State
  there = state_after (old.seen ++ looked.between)

  -- it is the one that the load sees
  recorded_there : (state_after new.seen).recorded ≡ there.recorded
  recorded_there = ap (λ (s : State). s.recorded) (looked_state (unstored_events old group piece) old new (unstored_quiet old group piece) looked)

  -- the piece claims another
  pub length_differs : is_recorded (state_after new.seen).recorded (length_of piece) ≡ false → Called (Parents group piece OtherLength) old new
  length_differs differs =
      let fails : is_recorded there.recorded (length_of piece) ≡ false = ap (λ (o : Option ℕ). is_recorded o (length_of piece)) (sym recorded_there) ∙ differs in
      called_then old old new (unstored_events old group piece) (sees_none old legal) looked (Parents group piece OtherLength) (λ claimed c. refl) (rw fails refl)

  length_holds : (state_after new.seen).recorded ≡ Some (length_of piece) → is_recorded there.recorded (length_of piece) ≡ true
  length_holds is = ap (λ (o : Option ℕ). is_recorded o (length_of piece)) (sym recorded_there ∙ is) ∙ eq-eqb (length_of piece) (length_of piece) refl

  -- there is no such group
  pub group_absent : (state_after new.seen).recorded ≡ Some (length_of piece) → nat_lt group (groups old.fixed) ≡ false
      → Called (Parents group piece (Stored 0)) old new
  group_absent is absent =
      called_then old old new (unstored_events old group piece) (sees_none old legal) looked (Parents group piece (Stored 0)) (λ claimed c. refl)
      (rw (length_holds is) (rw absent refl))

  -- no event stands at the load
  pub only_seen : (state_after new.seen).recorded ≡ Some (length_of piece) → nat_lt group (groups old.fixed) ≡ true → Sees old new
  only_seen is within = sees_then old old new (unstored_events old group piece) (sees_none old legal) looked (rw (length_holds is) (rw within refl))

  -- parents are stored, of the boundaries that were claimed
  pub parents_stored : (mask : ℕ) (claimed words last : SeatView) → (state_after new.seen).recorded ≡ Some (length_of piece)
      → nat_lt group (groups old.fixed) ≡ true → old.storing ≡ [] → IsStoringNow group mask new claimed → HaveWords parent_kind group mask piece 64 claimed words
      → EndsStoring (Parents group piece (Stored mask)) words last → Called (Parents group piece (Stored mask)) old last
  parents_stored mask claimed words last is within none storing has ends =
      let call : Call = Parents group piece (Stored mask) in
      stored_then call old new last (record { group = group; mask = mask } ∷ []) words.parent_words (λ held c. refl) none (only_seen is within)
      (subst (λ (v : SeatView). EndsStoring call v last) (words_are group mask piece new claimed words storing has) ends)

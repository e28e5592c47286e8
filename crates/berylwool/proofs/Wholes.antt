-- A store that serves slices has a length recorded, and so is one from the blob's first chunk on.
use Rattle.std.proofs.Common.{◌≡◌, ℕ, List, [], ◌∷◌, ◌++◌, Option, None, Some, refl, subst}
use Rattle.store_core.proofs.HasRoom.{base_recorded}
use Rattle.store_core.proofs.Lasting.{legal-append}
use Rattle.holders.specs.declared.fixed.Fixed.{Fixed}
use Rattle.store_core.specs.declared.history.Call.{Call}
use Rattle.store_core.specs.declared.history.Call.TheVariants.{Serve}
use Rattle.store_core.specs.declared.history.Event.{Event}
use Rattle.store_core.specs.declared.history.Serving.{Serving}
use Rattle.store_core.specs.declared.history.Serving.TheVariants.{Lacking, NoLength, Text}
use Rattle.store_core.specs.declared.view.SeatView.{SeatView}
use Rattle.store_core.specs.Histories.{IsLegal, state_after}
use Rattle.store_core.specs.Knowledge.{Called, event_of}
use Rattle.store_core.specs.Serves.{serving_of}
use Rattle.store_core.specs.States.{State, empty}
use Rattle.store_shared.proofs.Asking.{right_there}

-- what a call comes after is a legal history
legal_before : (call : Call) (old new : SeatView) (d : Called call old new) → IsLegal new.fixed (old.seen ++ d.between)
legal_before call old new d =
    (legal-append new.fixed empty (old.seen ++ d.between) (event_of old call ∷ [])
    (subst (λ (h : List Event). IsLegal new.fixed h) d.goes_on.seen_is d.goes_on.legal)).0

-- the reply isn't that there is no length
abbrev pub HasLength : Serving → Type 0
HasLength NoLength = ⊥
HasLength (Lacking node) = Unit {0}
HasLength (Text text) = Unit {0}

recorded_of : (o : Option ℕ) (s : State) (start len : ℕ) → HasLength (serving_of o s start len) → (l : ℕ) × (o ≡ Some l)
recorded_of None s start len has = absurd has
recorded_of (Some l) s start len has = (l, refl)

pub serve_whole : (fixed : Fixed) (old new : SeatView) (start len : ℕ) (answer : Serving) → HasLength answer → new.fixed ≡ fixed
    → Called (Serve start len answer) old new → fixed.base ≡ 0
serve_whole fixed old new start len answer has is d =
    let s : State = state_after (old.seen ++ d.between) in
    let told = recorded_of s.recorded s start len (subst (λ (r : Serving). HasLength r) (right_there (Serve start len answer) old new d) has) in
    subst (λ (f : Fixed). f.base ≡ 0) is
    (base_recorded new.fixed (old.seen ++ d.between) told.0 (legal_before (Serve start len answer) old new d) told.1)

-- What a seat knows goes on twice in a row: a look, and then a look or a call, are one.
use Rattle.std.proofs.lemmas.Grind.{common_steps}
use Rattle.std.proofs.lemmas.Bool.Decides.{nat_tests}
use Rattle.std.proofs.Common.{arith, ◌≡◌, ℕ, Bool, List, [], ◌∷◌, ◌++◌, sym, subst, ◌∙◌, append-nil, append_assoc}
use Rattle.std.proofs.lemmas.List.Elements.{filter-append}
use Rattle.store_core.specs.declared.history.Call.{Call}
use Rattle.store_core.specs.declared.history.Event.{Event}
use Rattle.store_core.specs.declared.view.Boundaries.{Boundaries}
use Rattle.store_core.specs.declared.view.SeatView.{SeatView}
use Rattle.store_core.specs.declared.view.StoredWord.{StoredWord}
use Rattle.store_core.specs.Histories.{AreOfOthers, IsLegal, run, state_after}
use Rattle.store_core.specs.Knowledge.{Called, EndsStoring, GoesOn, Looked, Sees, claims_after, event_of}
use Rattle.store_core.specs.Names.{Name}
use Rattle.store_core.specs.States.{State}
use Rattle.store_core.specs.Views.{seat_claims}
use Rattle.store_core.proofs.Joining.{plain}
use Rattle.store_core.proofs.Lasting.{run-append}

-- events of others, joined
pub others-append : (names : List Name) (first second : List Event) → AreOfOthers names first → AreOfOthers names second → AreOfOthers names (first ++ second)
others-append names first second a b = grind (arith, nat_tests, filter-append)

pub goes_on_then : (first second third : SeatView) (a b own : List Event) → GoesOn first second a [] → GoesOn second third b own → GoesOn first third (a ++ b) own
goes_on_then first second third a b own one two = grind (arith, nat_tests, append-nil, append_assoc, others-append, plain)

-- nothing seen since
pub sees_none : (view : SeatView) → IsLegal view.fixed view.seen → Sees view view
sees_none view legal = grind (arith, nat_tests, append-nil)

-- the state that a load sees, where its events leave it
pub looked_state : (events : State → List Event) (old new : SeatView) → ((s : State) → run s (events s) ≡ s) → (looked : Looked events old new)
    → state_after new.seen ≡ state_after (old.seen ++ looked.between)
looked_state events old new quiet looked = grind (arith, nat_tests, run-append)

-- whether a call leaves its seat's claims
abbrev pub LeavesClaims : Call → Type 0
LeavesClaims call = (claimed : ℕ → Bool) (c : ℕ) → claims_after call claimed c ≡ claimed c

event_same : (first second : SeatView) (call : Call) → second.names ≡ first.names → event_of second call ≡ event_of first call
event_same first second call same = grind (arith, nat_tests, plain)

module _ (first second third : SeatView) (events : State → List Event) (one : Sees first second) (two : Looked events second third) where
  -- the state at the second's load
  abbrev there : State
  there = state_after (second.seen ++ two.between)

  onward : (own : List Event) → events there ≡ own → GoesOn first third (one.between ++ two.between) own
  onward own is =
      goes_on_then first second third one.between two.between own one.goes_on (subst (λ (es : List Event). GoesOn second third two.between es) is two.goes_on)

  pub sees_then : events there ≡ [] → Sees first third
  sees_then none = grind (arith, common_steps, nat_tests, onward)

  pub called_then : (call : Call) → LeavesClaims call → events there ≡ event_of second call ∷ [] → Called call first third
  called_then call leaves is = grind (arith, common_steps, nat_tests, onward, event_same)

-- A seat that stored no parents sees the history, is storing parents, and stores them in a call: it stores none again.
pub stored_then : (call : Call) (first second third : SeatView) (storing : List Boundaries) (words : List StoredWord) → LeavesClaims call → first.storing ≡ []
    → Sees first second → EndsStoring call (record second { storing = storing; parent_words = words }) third → Called call first third
stored_then call first second third storing words leaves none one two =
    let on : GoesOn second third two.between (event_of second call ∷ []) = record {
      fixed_is = two.goes_on.fixed_is;
      names_are = two.goes_on.names_are;
      seen_is = two.goes_on.seen_is;
      others = two.goes_on.others;
      mine_is = two.goes_on.mine_is;
      legal = two.goes_on.legal;
    } in
    record {
      between = one.between ++ two.between;
      goes_on = goes_on_then first second third one.between two.between (event_of first call ∷ []) one.goes_on
          (subst (λ (e : Event). GoesOn second third two.between (e ∷ [])) (event_same first second call one.goes_on.names_are) on);
      claims_are = λ c. two.claims_are c ∙ leaves (seat_claims second) c ∙ one.claims_are c ∙ sym (leaves (seat_claims first) c);
      storing_is = two.none ∙ sym none;
    }

-- Crews' seats joined to one.
use Rattle.std.specs.Prelude.{◌≡◌, ℕ, true, List, ◌⊎◌, Contains}
use Rattle.gather.specs.declared.crew.Crew.{Crew}
use Rattle.store_core.specs.declared.history.Event.{Event}
use Rattle.store_core.specs.declared.view.SeatView.{SeatView}
use Rattle.store_core.specs.Names.{Name, has_name}
use Rattle.store_core.specs.Views.{mine, names_of, seat_claims}

-- the call is one of a crew's own
pub record IsCallOf {H : Type 0} (crews : List (Crew H)) (e : Event) : Type 0 where
  pub crew : Crew H
  pub among : Contains crews crew
  pub call : Contains (mine crew.seat.view) e

-- each call of the one seat is the other seat's, or one of a crew's
abbrev pub AreCallsOf : {H : Type 0} → SeatView → List (Crew H) → SeatView → Type 0
AreCallsOf seat crews joined = (e : Event) → Contains (mine joined) e → Contains (mine seat) e ⊎ IsCallOf crews e

-- the one seat has all names of the other
abbrev pub HasNamesOf : SeatView → SeatView → Type 0
HasNamesOf joined view = (name : Name) → has_name (names_of view) name ≡ true → has_name (names_of joined) name ≡ true

-- it has those of a seat and of all crews' seats
abbrev pub HasAllNamesOf : {H : Type 0} → SeatView → List (Crew H) → SeatView → Type 0
HasAllNamesOf seat crews joined = HasNamesOf joined seat × ((crew : _) → Contains crews crew → HasNamesOf joined crew.seat.view)

-- a crew claims the chunk
pub record IsClaimedBy {H : Type 0} (crews : List (Crew H)) (c : ℕ) : Type 0 where
  pub crew : Crew H
  pub among : Contains crews crew
  pub claims : seat_claims crew.seat.view c ≡ true

-- each chunk that the one seat claims the other does, or a crew
abbrev pub AreClaimsOf : {H : Type 0} → SeatView → List (Crew H) → SeatView → Type 0
AreClaimsOf seat crews joined = (c : ℕ) → seat_claims joined c ≡ true → (seat_claims seat c ≡ true) ⊎ IsClaimedBy crews c

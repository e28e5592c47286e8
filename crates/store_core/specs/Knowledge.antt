-- How a seat's knowledge grows: by its own calls, by seeing those of others, and when seats part, merge and
-- meet.
use Rattle.std.specs.Prelude.{◌≡◌, ℕ, ◌<◌, Bool, false, true, not, ◌&&◌, ◌||◌, List, [], ◌∷◌, ◌++◌, map, Contains}
use Rattle.holders.specs.declared.fixed.Fixed.{Fixed}
use Rattle.store_core.specs.declared.history.Call.{Call}
use Rattle.store_core.specs.declared.history.Call.TheVariants.{Commit, Give, Length, Parents, Read, Serve, Settle, Take}
use Rattle.store_core.specs.declared.history.Event.{Event}
use Rattle.store_core.specs.declared.view.Named.{Named}
use Rattle.store_core.specs.declared.view.SeatView.{SeatView}
use Rattle.store_core.specs.Histories.{AreOfOthers, IsLegal, state_after}
use Rattle.store_core.specs.Masks.{in_mask}
use Rattle.store_core.specs.Names.{has_name, share_name}
use Rattle.store_core.specs.Orders.{AreInOrder}
use Rattle.store_core.specs.States.{State}
use Rattle.store_core.specs.Views.{Continues, IsJoined, mine, names_of, seat_claims, split_first, split_second, written_after}

-- The view of the first seat: its name is the empty list, and it has seen nothing.
abbrev pub opening_view : Fixed → SeatView
opening_view fixed = record { fixed = fixed; names = record { name = []; splits = 0 } ∷ []; seen = []; written = []; storing = []; parent_words = [] }

-- The view is of this store, and what it has seen is a legal history of the store. Its names are in dictionary
-- order, without duplicates.
pub record IsViewOf (fixed : Fixed) (view : SeatView) : Type 0 where
  pub fixed_is : view.fixed ≡ fixed
  pub legal : IsLegal view.fixed view.seen
  pub ordered : AreInOrder (names_of view)

-- The history seen begins with all that the seat had seen. Then come calls of others, and last the seat's own
-- new calls. The whole is a legal history, so each reply in it is right where it occurs. The seat is of the
-- same store, with the same names.
pub record GoesOn (old new : SeatView) (between own : List Event) : Type 0 where
  pub fixed_is : new.fixed ≡ old.fixed
  pub names_are : new.names ≡ old.names
  pub seen_is : new.seen ≡ (old.seen ++ between) ++ own
  pub others : AreOfOthers (names_of old) between
  pub mine_is : mine new ≡ mine old ++ own
  pub legal : IsLegal new.fixed new.seen

-- a call made by the seat
abbrev pub event_of : SeatView → Call → Event
event_of view call = record { who = names_of view; call = call }

-- whether a chunk is claimed after a call, given what was claimed before
abbrev pub claims_after : Call → (ℕ → Bool) → ℕ → Bool
claims_after (Take group want granted) claimed c = in_mask group granted c || claimed c
claims_after (Give group mask given) claimed c = not (in_mask group given c) && claimed c
claims_after (Commit group piece committed) claimed c = not (in_mask group committed c) && claimed c
claims_after (Settle piece answer) claimed c = claimed c
claims_after (Read at len bytes) claimed c = claimed c
claims_after (Length recorded) claimed c = claimed c
claims_after (Parents group piece answer) claimed c = claimed c
claims_after (Serve start len answer) claimed c = claimed c

-- The call linearizes: whether made in one step or in several, it is one event of the store. The history seen
-- afterwards is legal. It begins with all that the seat had seen, goes on with calls of others, and ends with
-- this call. So each of the seat's calls is in it once, in order. The seat's claims are those after the call,
-- and the parents that it is storing are unchanged.
pub record Called (call : Call) (old new : SeatView) : Type 0 where
  pub between : List Event
  pub goes_on : GoesOn old new between (event_of old call ∷ [])
  pub claims_are : (c : ℕ) → seat_claims new c ≡ claims_after call (seat_claims old) c
  pub storing_is : new.storing ≡ old.storing

-- The call linearizes in one step: the words that the seat stored for chunks whose claims it ends no longer
-- count.
pub record Did (call : Call) (old new : SeatView) : Type 0 where
  pub between : List Event
  pub goes_on : GoesOn old new between (event_of old call ∷ [])
  pub claims_are : (c : ℕ) → seat_claims new c ≡ claims_after call (seat_claims old) c
  pub written_are : new.written ≡ written_after call old.written
  pub storing_is : new.storing ≡ old.storing

-- The call linearizes in the same way, and the seat, which was storing parents, no longer is.
pub record EndsStoring (call : Call) (old new : SeatView) : Type 0 where
  pub between : List Event
  pub goes_on : GoesOn old new between (event_of old call ∷ [])
  pub claims_are : (c : ℕ) → seat_claims new c ≡ claims_after call (seat_claims old) c
  pub none : new.storing ≡ []

-- The seat sees the history so far, and makes the events that the state there determines: none, or one call of
-- its own that doesn't change the state.
pub record Looked (events : State → List Event) (old new : SeatView) : Type 0 where
  pub between : List Event
  pub goes_on : GoesOn old new between (events (state_after (old.seen ++ between)))
  pub claims_are : (c : ℕ) → seat_claims new c ≡ seat_claims old c
  pub written_are : new.written ≡ old.written
  pub storing_is : new.storing ≡ old.storing

-- the seat has seen more, and made no call
abbrev pub Sees : SeatView → SeatView → Type 0
Sees old new = Looked (λ s. []) old new

-- The first keeps everything, except that its count of splits grows. The second has seen the same history, and
-- its new name has neither calls nor claims.
pub record ArePartsOf (old first second : SeatView) : Type 0 where
  pub first_is : first ≡ split_first old
  pub second_is : second ≡ split_second old
  pub no_calls : AreOfOthers (names_of second) second.seen
  pub no_claims : (c : ℕ) → seat_claims second c ≡ false

-- The two seats have no common name, so their claims don't overlap, and the third is both of them. The history
-- that it has seen is legal.
pub record IsMerged (first second merged : SeatView) : Type 0 where
  pub apart : share_name (names_of first) (names_of second) ≡ false
  pub joined : IsJoined first second merged
  pub legal : IsLegal merged.fixed merged.seen

-- These are all existing names: they include the first name, which is empty, and, with each name, all that were
-- split off from it.
pub record AreAllNames (names : List Named) : Type 0 where
  pub first : has_name (map (λ named. named.name) names) [] ≡ true
  pub split : (named : Named) (number : ℕ) → Contains names named → number < named.splits
      → has_name (map (λ named. named.name) names) (named.name ++ number ∷ []) ≡ true

-- The seat has seen more and made no call. If it has all existing names, each call that it has seen is its own.
pub record LooksRound (old new : SeatView) : Type 0 where
  pub sees : Sees old new
  pub alone : AreAllNames old.names → mine new ≡ new.seen

-- no chunk is claimed by both
abbrev pub NoneIsClaimedByBoth : SeatView → SeatView → Type 0
NoneIsClaimedByBoth first second = (c : ℕ) → seat_claims first c ≡ true → seat_claims second c ≡ false

-- the seat's claims are unchanged
abbrev pub KeepsClaims : SeatView → SeatView → Type 0
KeepsClaims old new = (c : ℕ) → seat_claims new c ≡ seat_claims old c

-- Both have seen one legal history, which begins with all that each had seen and has no other call of either.
-- Nothing else changes. They have no common name, so their claims don't overlap.
pub record AreMet (first second new_first new_second : SeatView) : Type 0 where
  pub history : List Event
  pub first_is : new_first ≡ record first { seen = history }
  pub second_is : new_second ≡ record second { seen = history }
  pub after_first : Continues first history
  pub after_second : Continues second history
  pub legal : IsLegal first.fixed history
  pub apart : share_name (names_of first) (names_of second) ≡ false

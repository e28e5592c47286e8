-- Histories: lists of events, each legal in the state after those before it.
use Rattle.std.specs.Prelude.{◌≡◌, Bool, List, [], ◌∷◌, filter}
use Rattle.holders.specs.declared.fixed.Fixed.{Fixed}
use Rattle.store_core.specs.declared.history.Event.{Event}
use Rattle.store_core.specs.Names.{Name, share_name}
use Rattle.store_core.specs.States.{State, empty}
use Rattle.store_core.specs.Events.{IsLegalIn, after}

-- the state after events
abbrev pub run : State → List Event → State
run s [] = s
run s (e ∷ events) = run (after s e) events

-- each event is legal in the state after those before it
abbrev pub AreLegalFrom : Fixed → State → List Event → Type 0
AreLegalFrom fixed s [] = Unit {0}
AreLegalFrom fixed s (e ∷ events) = IsLegalIn fixed s e × AreLegalFrom fixed (after s e) events

-- the state after events, from the empty state
abbrev pub state_after : List Event → State
state_after history = run empty history

abbrev pub IsLegal : Fixed → List Event → Type 0
IsLegal fixed history = AreLegalFrom fixed empty history

-- whether the caller of an event has one of these names
abbrev pub is_by : List Name → Event → Bool
is_by names e = share_name names e.who

-- a caller's events, in order
abbrev pub events_of : List Name → List Event → List Event
events_of names history = filter (is_by names) history

-- all events are other callers'
abbrev pub AreOfOthers : List Name → List Event → Type 0
AreOfOthers names events = events_of names events ≡ []

-- The single-threaded store as the model of a shared one.
use Rattle.std.specs.Prelude.{◌≡◌, ◌≢◌, ℕ, zero, suc, ◌-◌, ◌/◌, ◌^◌, ◌==◌, true, ◌&&◌, ◌||◌, if◌then◌else◌, List, [], ◌∷◌, map, Some, option_map}
use Rattle.holders.specs.declared.fixed.Fixed.{Fixed}
use Rattle.store_core.specs.declared.history.Call.{Call}
use Rattle.store_core.specs.declared.history.Call.TheVariants.{Give, Take}
use Rattle.store_core.specs.declared.history.Event.{Event}
use Rattle.store_core.specs.declared.store.Store.{Store}
use Rattle.store_core.specs.Events.{after}
use Rattle.store_core.specs.Histories.{IsLegal, state_after}
use Rattle.store_core.specs.Laws.{is_partial, question}
use Rattle.holders.specs.Room.{groups}
use Rattle.store_core.specs.Names.{Name, has_name, least_name}
use Rattle.store_core.specs.Slots.{caller}
use Rattle.store_core.specs.States.{State, empty}
use Rattle.store_core.specs.Stores.{IsEvent, IsNew}

-- A request to a single-threaded store: a call of a seat, with its reply; or the move of a seat's claims in a
-- group to another seat, which from then on counts for both.
pub data AskedOfStore : Type 0 where
  calls : (seat : ℕ) (call : Call) → AskedOfStore
  moves : (group from to : ℕ) → AskedOfStore

-- The store answers the requests in order. Claims move by two calls: one seat gives all that it has in the
-- group, and the other takes it.
abbrev pub AnswersInTurn : Store → List AskedOfStore → Type 0
AnswersInTurn store [] = Unit {0}
AnswersInTurn store (calls seat call ∷ rest) = (next : Store) × IsEvent store next (caller seat) call × AnswersInTurn next rest
AnswersInTurn store (moves group from to ∷ rest) =
    (given : ℕ) × (taken : ℕ) × (middle : Store) × (next : Store)
    × IsEvent store middle (caller from) (Give group (2 ^ 64 - 1) given) × IsEvent middle next (caller to) (Take group given taken)
    × AnswersInTurn next rest

-- A numbering maps a name, at a chunk, to a seat of the single-threaded store. It may differ between chunks
-- while claims move.
abbrev pub Numbering : Type 0
Numbering = ℕ → Name → ℕ

-- the numbering after the claims of a group moved
abbrev pub moved : Numbering → ℕ → ℕ → ℕ → Numbering
moved number group from to c name = if (c / 64 == group) && (number c name == from) then to else number c name

-- Under a numbering the caller is this seat: its least name has the seat's number at each chunk, and of the
-- names that claim chunks exactly its own have that number there.
pub record IsSeat (number : Numbering) (s : State) (who : List Name) (seat : ℕ) : Type 0 where
  pub least : (c : ℕ) → option_map (number c) (least_name who) ≡ Some seat
  pub own : (c : ℕ) (name : Name) → s.claim c ≡ Some name → has_name who name ≡ (number c name == seat)

-- The requests are the calls of the events, in order and by their callers; where a reply may be partial, it is
-- the same. Moves of claims change only the numbering, so the claims of a seat that was joined to another move
-- to that seat before the two call as one.
abbrev pub AskTheSame : Numbering → State → List Event → List AskedOfStore → Type 0
AskTheSame number s events [] = events ≡ []
AskTheSame number s events (calls seat call ∷ rest) =
    (e : Event) × (later : List Event) × (events ≡ e ∷ later) × IsSeat number s e.who seat × (question call ≡ question e.call)
    × (is_partial e.call ≡ true → call ≡ e.call) × AskTheSame number (after s e) later rest
AskTheSame number s events (moves group from to ∷ rest) = AskTheSame (moved number group from to) s events rest

-- the calls among the requests, with their replies
abbrev pub calls_in : List AskedOfStore → List Call
calls_in [] = []
calls_in (calls seat call ∷ rest) = call ∷ calls_in rest
calls_in (moves group from to ∷ rest) = calls_in rest

-- A new single-threaded store that gets the calls of a legal history in order gives the history's replies.
abbrev pub RepliesAreTheStores : Type 0
RepliesAreTheStores = (fixed : Fixed) (history : List Event) (number : Name → ℕ) (store : Store) (asked : List AskedOfStore) → IsLegal fixed history
    → IsNew store fixed → AskTheSame (λ c. number) empty history asked → AnswersInTurn store asked
    → calls_in asked ≡ map (λ e. e.call) history

-- the numbering after the claims of all groups below n moved
abbrev pub all_moved : Numbering → ℕ → ℕ → ℕ → Numbering
all_moved number zero from to = number
all_moved number (suc n) from to = moved (all_moved number n from to) n from to

-- A joined seat counts as one: if two callers are two seats, and the claims of one moved to the other, a caller
-- with the names of both, whose least name is one of the other's, is that other seat.
abbrev pub JoinedCountsAsOne : Type 0
JoinedCountsAsOne = (fixed : Fixed) (history : List Event) (number : Numbering) (ours theirs joined : List Name) (seat other : ℕ) → IsLegal fixed history
    → IsSeat number (state_after history) ours seat → IsSeat number (state_after history) theirs other → seat ≢ other
    → ((name : Name) → has_name joined name ≡ (has_name ours name || has_name theirs name)) → least_name joined ≡ least_name ours
    → IsSeat (all_moved number (groups fixed) other seat) (state_after history) joined seat

-- All other callers remain the seats that they were.
abbrev pub OthersCountAsBefore : Type 0
OthersCountAsBefore = (fixed : Fixed) (history : List Event) (number : Numbering) (who : List Name) (seat other own : ℕ) → IsLegal fixed history
    → IsSeat number (state_after history) who own → own ≢ seat → own ≢ other
    → IsSeat (all_moved number (groups fixed) other seat) (state_after history) who own

-- A schedule that is running: what its store, its marks of written words and its players represent, and what a
-- step does.
use Rattle.std.specs.Prelude.{◌≡◌, ℕ, ◌+◌, ◌-◌, ◌*◌, ◌/◌, ◌%◌, ◌<◌, min, nat_lt, ◌==◌, Bool, false, true, ◌&&◌, if◌then◌else◌, List, [], ◌∷◌, ◌++◌, length, Option, None, Some, option_map, option_to_list, slice_index_or}
use Rattle.bao_check.specs.declared.checked.Checked.{Checked}
use Rattle.holders.specs.declared.fixed.Fixed.{Fixed}
use Rattle.store_core.specs.declared.history.Event.{Event}
use Rattle.store_core.specs.declared.micro.MicroStep.{MicroStep}
use Rattle.store_core.specs.declared.micro.Reply.{Reply}
use Rattle.store_core.specs.declared.schedule.Player.{Player}
use Rattle.store_core.specs.declared.reading.Reading.{Reading}
use Rattle.store_core.specs.declared.schedule.ScheduleRun.{ScheduleRun}
use Rattle.store_core.specs.declared.store.Store.{Store}
use Rattle.store_core.specs.Histories.{IsLegal, state_after}
use Rattle.store_core.specs.Machine.{Machine, MachineSeat, ReadUnderWay, is_shown, position, seat_has, start, store_of}
use Rattle.holders.specs.Pieces.{holds_chunk, piece_of}
use Rattle.store_core.specs.Schedules.{IsLegalStep, IsReply, Runs, after_step, step_events}
use Rattle.store_core.specs.MachineInvariant.{IsSoundMachine}
use Rattle.store_core.specs.Slots.{caller}
use Rattle.store_core.specs.States.{State, claims, read_bytes}
use Rattle.store_core.specs.Stores.{IsOf, fixed_of, state_of}

-- the seat's player, if it has one
abbrev pub player_in : List Player → ℕ → Option Player
player_in [] n = None
player_in (player ∷ players) n = if player.number == n then Some player else player_in players n

-- the player used for a step: the seat's, or a new one
abbrev pub IsTakenPlayer : Option Player → Player → Type 0
IsTakenPlayer None player = (player.piece ≡ None) × (player.reading ≡ None)
IsTakenPlayer (Some was) player = player ≡ was

-- whether word w of the chunk's cell is marked as written
abbrev pub is_marked : List Bool → ℕ → ℕ → Bool
is_marked written c w = slice_index_or written (129 * c + w) false

-- no word of the chunks that pass the test is marked, and the other marks are unchanged
abbrev pub IsCleared : (ℕ → Bool) → List Bool → List Bool → Type 0
IsCleared test old new = (c w : ℕ) → w < 129 → is_marked new c w ≡ (if test c then false else is_marked old c w)

-- all words are marked of each chunk of the group that the seat claims and the slice has
abbrev pub IsAllMarked : Store → List Bool → ℕ → ℕ → Checked → Type 0
IsAllMarked store written n group piece = (c w : ℕ) → c / 64 ≡ group → claims (caller n) (state_of store) c ≡ true → holds_chunk (piece_of (fixed_of store).base piece) c ≡ true
    → w < 129 → is_marked written c w ≡ true

abbrev pub reading_of : Reading → ReadUnderWay
reading_of r = record { at = r.at; len = r.len; bytes = r.bytes.items }

-- a read with what a load of one group adds to it
abbrev pub carried_on : Fixed → State → ReadUnderWay → ReadUnderWay
carried_on fixed s r = record r {
  bytes = if nat_lt (position r) (1024 * fixed.capacity) then r.bytes ++ read_bytes s (position r) (min (r.len - length r.bytes) (65536 - position r % 65536)) else r.bytes;
}

-- the player represents the seat, except for the words written; its slice is of the store's root and mode
pub record IsPlayer (fixed : Fixed) (player : Player) (seat : MachineSeat) : Type 0 where
  pub piece : seat.piece ≡ option_map (piece_of fixed.base) player.piece
  pub reading : seat.reading ≡ option_map reading_of player.reading
  pub of : (piece : Checked) → player.piece ≡ Some piece → IsOf fixed piece

abbrev pub StandsForSeat : Fixed → Option Player → MachineSeat → Type 0
StandsForSeat fixed None seat = (seat.piece ≡ None) × (seat.reading ≡ None)
StandsForSeat fixed (Some player) seat = IsPlayer fixed player seat

-- The store represents what the words do, and the players the seats. Of a chunk that isn't held, the words that
-- a seat wrote are those marked if the seat claims the chunk, and none otherwise. If nobody claims it, no word
-- is marked.
pub record StandsFor (fixed : Fixed) (s : State) (players : List Player) (written : List Bool) (m : Machine) : Type 0 where
  pub state : s ≡ store_of m
  pub seats : (n : ℕ) → StandsForSeat fixed (player_in players n) (m.seat n)
  pub wrote : (n c w : ℕ) → w < 129 → is_shown m c ≡ false → (m.seat n).written c w ≡ (seat_has m n c && is_marked written c w)
  pub clean : (c w : ℕ) → w < 129 → m.claim c ≡ None → is_shown m c ≡ false → is_marked written c w ≡ false

abbrev pub Stands : ScheduleRun → Machine → Type 0
Stands run m = StandsFor (fixed_of run.store) (state_of run.store) run.players.items run.written.items m

-- The run made these steps over the slices from the empty store, each legal in its turn, with these replies and
-- these events, which are a legal history of its store. It represents this machine.
pub record HasRun (fixed : Fixed) (pieces : List Checked) (steps : List MicroStep) (replies : List Reply) (history : List Event) (m : Machine) (run : ScheduleRun) : Type 0 where
  pub runs : Runs fixed pieces start steps replies history m
  pub legal : IsLegal fixed history
  pub events : state_after history ≡ store_of m
  pub fixed_is : fixed_of run.store ≡ fixed
  pub served : IsSoundMachine (fixed_of run.store) m
  pub stands : Stands run m

-- the run has made no step yet
abbrev pub IsFresh : Fixed → ScheduleRun → Type 0
IsFresh fixed run = (pieces : List Checked) → HasRun fixed pieces [] [] [] start run

-- the step is legal in the machine's state, this is its reply, and the run made it
pub record IsStepped (fixed : Fixed) (pieces : List Checked) (steps : List MicroStep) (replies : List Reply) (history : List Event) (m : Machine) (step : MicroStep) (reply : Option Reply) (new : ScheduleRun) : Type 0 where
  pub legal : IsLegalStep fixed pieces m step
  pub right : IsReply fixed m step reply
  pub has : HasRun fixed pieces (steps ++ step ∷ []) (replies ++ option_to_list reply) (history ++ step_events fixed m step reply) (after_step fixed pieces m step reply) new

-- the run made the step, whatever its earlier steps and whichever machine it represents
abbrev pub DoesStep : List Checked → ScheduleRun → ScheduleRun → MicroStep → Option Reply → Type 0
DoesStep pieces old new step reply = (fixed : Fixed) (steps : List MicroStep) (replies : List Reply) (history : List Event) (m : Machine)
    → HasRun fixed pieces steps replies history m old → IsStepped fixed pieces steps replies history m step reply new

-- the step isn't legal for any machine that the run represents
abbrev pub DoesRefuse : List Checked → ScheduleRun → MicroStep → Type 0
DoesRefuse pieces old step = (m : Machine) → IsSoundMachine (fixed_of old.store) m → Stands old m → ¬ IsLegalStep (fixed_of old.store) pieces m step

-- the step is legal for every machine that the run represents
abbrev pub IsLegalFor : List Checked → ScheduleRun → MicroStep → Type 0
IsLegalFor pieces old step = (m : Machine) → IsSoundMachine (fixed_of old.store) m → Stands old m → IsLegalStep (fixed_of old.store) pieces m step

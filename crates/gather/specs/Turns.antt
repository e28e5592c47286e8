-- Crews close in turn. Between turns all meet, so that each has seen what the others did.
use Rattle.std.specs.Prelude.{◌≡◌, ◌≢◌, ℕ, ◌<◌, List, ◌++◌, length, slice_index_or}
use Rattle.gather.specs.declared.crew.Crew.{Crew}
use Rattle.gather.specs.Crews.{Each}
use Rattle.gather.specs.Filling.{Closes, IsBusyBeside}
use Rattle.holders.specs.declared.form.Form.{Form}
use Rattle.store_core.specs.declared.history.Event.{Event}
use Rattle.store_core.specs.declared.view.SeatView.{SeatView}
use Rattle.store_core.specs.Knowledge.{Sees}
use Rattle.store_shared.specs.declared.assembly.Assembly.{Assembly}
use Rattle.store_shared.specs.Seats.{IsSeatOf}

-- the other has seen all that the one had seen
abbrev pub HasSeen : SeatView → SeatView → Type 0
HasSeen one other = (more : List Event) × (other.seen ≡ one.seen ++ more)

-- the crew's seat has seen more and made no call, and nothing else of the crew changed
pub record Looks {H : Type 0} (assembly : Assembly) (old new : Crew H) : Type 0 where
  pub of : IsSeatOf assembly new.seat
  pub sees : Sees old.seat.view new.seat.view
  pub same : new ≡ record old { seat = new.seat }

-- a crew met a seat
pub record Meets {H : Type 0} (assembly : Assembly) (before after : SeatView) (old new : Crew H) : Type 0 where
  pub looks : Looks assembly old new
  pub heard : HasSeen before new.seat.view
  pub told : HasSeen new.seat.view after

-- all crews met: each has seen what any had seen
pub record AllMeet {H : Type 0} (assembly : Assembly) (old new : List (Crew H)) : Type 0 where
  pub looks : Each (Looks assembly) old new
  pub seen : (i j : ℕ) (d e : Crew H) → i < length old → j < length old → HasSeen (slice_index_or old i d).seat.view (slice_index_or new j e).seat.view

-- one crew closes, and the others only look
pub record Turns {H : Type 0} (assembly : Assembly) (form : Form) (gives : H → ℕ → ℕ → List ℕ → Type 0) (count : H → ℕ) (number : ℕ) (old new : List (Crew H)) : Type 0 where
  pub len : length new ≡ length old
  pub others : (i : ℕ) (d : Crew H) → i < length old → i ≢ number → Looks assembly (slice_index_or old i d) (slice_index_or new i d)
  pub closes : (d : Crew H) → Closes assembly form gives count (IsBusyBeside old) (slice_index_or old number d) (slice_index_or new number d)

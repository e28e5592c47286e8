-- Reads over groups: which load of a held word is a read's last.
use Rattle.std.specs.Prelude.{ℕ, ◌+◌, ◌*◌, min, nat_le, nat_lt, Bool, ◌||◌, if◌then◌else◌, List, [], ◌∷◌, length}
use Rattle.holders.specs.declared.fixed.Fixed.{Fixed}
use Rattle.store_core.specs.declared.history.Call.TheVariants.{Read}
use Rattle.store_core.specs.declared.history.Event.{Event}
use Rattle.store_core.specs.declared.view.SeatView.{SeatView}
use Rattle.store_core.specs.States.{State, read_bytes}
use Rattle.store_core.specs.Knowledge.{event_of}

-- where a read ends at the latest: at the end of its range, or of the store's capacity
abbrev pub read_end : Fixed → ℕ → ℕ → ℕ
read_end fixed at len = min (at + len) (1024 * fixed.capacity)

-- the offset at which a group ends
abbrev pub group_end : ℕ → ℕ
group_end group = 65536 * (group + 1)

-- The load of this group is the read's last if no offset is asked for that could be held, if the read ends in
-- this group or before it, or if a byte before the group's end isn't held.
abbrev pub is_last : Fixed → ℕ → ℕ → ℕ → State → Bool
is_last fixed group at len s =
    nat_le (read_end fixed at len) at
    || (nat_le (read_end fixed at len) (group_end group) || nat_lt (at + length (read_bytes s at len)) (group_end group))

-- a Read at its last load, and no event before
abbrev pub read_events : SeatView → ℕ → ℕ → ℕ → State → List Event
read_events view group at len s = if is_last view.fixed group at len s then event_of view (Read at len (read_bytes s at len)) ∷ [] else []

-- Loads for slices to serve and for parents to store: which events occur at them.
use Rattle.std.specs.Prelude.{ℕ, ◌/◌, nat_lt, ◌==◌, Bool, false, ◌||◌, if◌then◌else◌, List, [], ◌∷◌, Option, None, Some, is_none}
use Rattle.bao_text.specs.declared.walk.Node.{Node}
use Rattle.bao_text.specs.declared.walk.Node.TheVariants.{Chunk, Parent}
use Rattle.holders.specs.declared.fixed.Fixed.{Fixed}
use Rattle.store_core.specs.declared.history.Call.TheVariants.{Parents, Serve}
use Rattle.store_core.specs.declared.history.Event.{Event}
use Rattle.holders.specs.declared.piece.Piece.{Piece}
use Rattle.store_core.specs.declared.history.Storing.TheVariants.{OtherLength, Stored}
use Rattle.store_core.specs.declared.view.SeatView.{SeatView}
use Rattle.holders.specs.Room.{groups}
use Rattle.holders.specs.Pieces.{length_of}
use Rattle.store_core.specs.Serves.{node_held, serving}
use Rattle.store_core.specs.States.{State}
use Rattle.store_steps.specs.Layout.{parent_held_place}
use Rattle.store_core.specs.Knowledge.{event_of}

-- a chunk's index, or a parent's boundary
abbrev pub node_number : Node → ℕ
node_number (Chunk c) = c
node_number (Parent m) = m

-- where the held word with a node's bit is
abbrev pub node_place : Fixed → Node → ℕ
node_place fixed (Chunk c) = c / 64
node_place fixed (Parent m) = parent_held_place fixed (m / 64)

-- A Serve at the load for a slice's last node, or for a node that isn't held, and no event before.
abbrev pub node_events : SeatView → Node → Bool → ℕ → ℕ → State → List Event
node_events view node last start len s =
    if last || is_none (node_held s node) then event_of view (Serve start len (serving s start len)) ∷ [] else []

-- a Serve if no length is recorded
abbrev pub unserved_events : SeatView → ℕ → ℕ → State → List Event
unserved_events view start len s = if is_none s.recorded then event_of view (Serve start len (serving s start len)) ∷ [] else []

-- whether this length is recorded
abbrev pub is_recorded : Option ℕ → ℕ → Bool
is_recorded None l = false
is_recorded (Some known) l = known == l

-- A Parents event if the slice claims another length than the recorded one, so that its parents aren't stored,
-- or if there is no such group; else no event.
abbrev pub unstored_events : SeatView → ℕ → Piece → State → List Event
unstored_events view group piece s =
    if is_recorded s.recorded (length_of piece)
    then (if nat_lt group (groups view.fixed) then [] else event_of view (Parents group piece (Stored 0)) ∷ [])
    else event_of view (Parents group piece OtherLength) ∷ []

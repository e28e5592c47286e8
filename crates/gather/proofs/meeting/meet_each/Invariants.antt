use Rattle.gather.proofs.SeatCommon.{◌≡◌, ◌<◌, ◌≤◌, ℕ, length, slice_index_or, IsSeatOf}
use Rattle.gather.specs.declared.crew.Crew.{Crew}
use Rattle.gather.specs.Turns.{Meets}
use Rattle.store_core.specs.Knowledge.{Sees}
use Rattle.gather.proofs.meeting.meet_each.Given as goal

abbrev pub invariant-loop-number : goal.invariant-loop-number
invariant-loop-number g l = IsSeatOf l.assembly l.seat
    × Sees l.fn.seat.view l.seat.view
    × ((i : ℕ) (d : Crew g.row.H.Denot) → i < length l.crews → l.number ≤ i → slice_index_or l.crews i d ≡ slice_index_or l.fn.crews i d)
    × ((i : ℕ) (d : Crew g.row.H.Denot) → i < l.number → Meets l.assembly l.fn.seat.view l.seat.view (slice_index_or l.fn.crews i d) (slice_index_or l.crews i d))

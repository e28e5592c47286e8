use Rattle.gather.proofs.SeatCommon.{◌≡◌, ◌<◌, ◌≤◌, ℕ, length, slice_index_or}
use Rattle.gather.specs.declared.crew.Crew.{Crew}
use Rattle.gather.specs.Filling.{Closes, IsBusyBeside}
use Rattle.gather.specs.Turns.{Looks}
use Rattle.gather.proofs.rounds.last_round.Given as goal

abbrev pub invariant-loop-number : goal.invariant-loop-number
invariant-loop-number g l = (length l.crews ≡ length l.fn.crews)
    × ((i : ℕ) (d : Crew g.row.H.Denot) → i < length l.fn.crews → l.number ≤ i → Looks l.assembly (slice_index_or l.fn.crews i d) (slice_index_or l.crews i d))
    × ((i : ℕ) (d : Crew g.row.H.Denot) → i < l.number
    → Closes l.assembly l.form g.H.Holder.gives g.H.Holder.count (IsBusyBeside l.fn.crews) (slice_index_or l.fn.crews i d) (slice_index_or l.crews i d))

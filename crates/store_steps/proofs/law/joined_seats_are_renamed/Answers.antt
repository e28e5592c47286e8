use Rattle.store_steps.proofs.JoinedSeats as seats
use Rattle.store_steps.proofs.law.joined_seats_are_renamed.Goals as goal

pub returns : goal.returns
returns c = record {
  enter = seats.enter_stays;
  join = seats.join_renames;
  merge = seats.merge_stays;
  meet = seats.meet_stays;
  leave = seats.leave_renames;
}

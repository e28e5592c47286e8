use Rattle.store_steps.proofs.SideSteps as sides
use Rattle.store_steps.proofs.law.side_steps_stay.Goals as goal

pub returns : goal.returns
returns c = record {
  opening = sides.opening_is_start;
  hash = sides.hash_is_no_step;
  look = sides.look_stays;
  copy = sides.copy_stays;
  absent = sides.absent_stays;
  part = sides.part_stays;
}

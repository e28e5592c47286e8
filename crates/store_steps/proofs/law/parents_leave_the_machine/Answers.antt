use Rattle.store_steps.proofs.SideSteps as sides
use Rattle.store_steps.proofs.law.parents_leave_the_machine.Goals as goal

pub returns : goal.returns
returns c = record {
  claim = sides.claim_parents_stays;
  store = sides.store_parent_stays;
  publish = sides.publish_parents_stays;
  copy = sides.copy_parent_stays;
}

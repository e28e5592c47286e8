use Rattle.store_steps.proofs.CellSteps as cells
use Rattle.store_steps.proofs.ClaimSteps as claims
use Rattle.store_steps.proofs.LengthSteps as lengths
use Rattle.store_steps.proofs.LoadSteps as loads
use Rattle.store_steps.proofs.law.steps_are_the_machines.Goals as goal

pub returns : goal.returns
returns c = record {
  take = claims.take_is_claim;
  give = claims.give_is_give_back;
  store = cells.store_is_write;
  publish = cells.publish_is_publish;
  settle = lengths.settle_is_settle;
  length = lengths.length_is_length;
  load = loads.load_is_load;
  too_large = lengths.look_is_too_large;
}

use Rattle.bao_plan.proofs.Ending.{ends}
use Rattle.bao_plan.proofs.law.ends.Goals as goal

pub returns : goal.returns
returns c = λ policy n events history. ends policy n events history

use Rattle.bao_decode.proofs.Cuttings.{ok_some}
use Rattle.bao_tasks.proofs.gathering.counted.Goals as goal

pub returns-clause-worth : goal.returns-clause-worth
returns-clause-worth g c = ok_some _ c.worth_of.result c.ok.result c.ok.ensures.value c.worth_of.ensures.worth

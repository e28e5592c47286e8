use Rattle.gather.proofs.worker.work.Goals as goal

pub returns-clause-served : goal.returns-clause-served
returns-clause-served g c = c.work_as.ensures.served tt

use Rattle.store_core.proofs.schedule.ScheduleRun.step.Goals as goal

pub returns-in-Length-clause-ok : goal.returns-in-Length-clause-ok
returns-in-Length-clause-ok c = rw c.in-Length.is (c.length.ensures c.args.pieces.now c.in-Length.seat)

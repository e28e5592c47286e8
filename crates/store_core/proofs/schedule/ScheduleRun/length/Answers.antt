use Rattle.std.proofs.Common.{refl}
use Rattle.store_core.proofs.RunSteps.{stepped}
use Rattle.store_core.proofs.Wordless.{length_next}
use Rattle.store_core.proofs.schedule.ScheduleRun.length.Goals as goal

pub returns : goal.returns
returns c = λ pieces seat fixed steps replies history m has. stepped has refl tt (length_next pieces c.args.self.now m seat c.length.result has.stands c.length.ensures.event)

use Rattle.std.proofs.Common.{arith}
use Rattle.store_core.proofs.RunSteps.{claim_next, stepped}
use Rattle.store_core.proofs.schedule.ScheduleRun.claim.Goals as goal

pub returns-in-Ok-clause-ok : goal.returns-in-Ok-clause-ok
returns-in-Ok-clause-ok c = λ pieces fixed steps replies history m has.
    let e = c.in-Ok.ensures.ok in
    stepped has e.fixed tt (claim_next pieces c.args.seat has.served has.stands (omega (arith, c.groups.ensures, c.if-group-groups.false)) e.right e.after)

use Rattle.std.proofs.Common.{arith}
use Rattle.std.proofs.lemmas.List.{with_items_is}
use Rattle.store_core.proofs.RunSteps.{give_next, stepped}
use Rattle.store_core.proofs.schedule.ScheduleRun.give_back.Goals as goal

pub returns-clause-ok : goal.returns-clause-ok
returns-clause-ok c = λ pieces fixed steps replies history m has.
    let e = c.give-given.ensures in
    stepped has e.fixed tt (give_next pieces c.args.seat has.served has.stands (omega (arith, c.groups.ensures, c.if-group-groups.false)) e.right e.after
    (rw (with_items_is c.args.self.now.written c.unmark_group.new.written (omega (arith, c.unmark_group.auto.written, c.as_mut_slice.ensures.len)))
    (rw c.as_mut_slice.ensures.value at c.unmark_group.ensures)))

use Rattle.store_core.proofs.Replaying.{fresh}
use Rattle.store_core.proofs.schedule.ScheduleRun.new.Goals as goal

pub returns-clause-fresh : goal.returns-clause-fresh
returns-clause-fresh c =
    fresh (record { root = c.args.root; mode = c.args.mode; capacity = c.args.capacity; base = 0 }) _
    c.in_ok-new.ensures.made.fixed_is c.in_ok-new.ensures.made.state c.new-3.ensures.items c.new-2.ensures.items

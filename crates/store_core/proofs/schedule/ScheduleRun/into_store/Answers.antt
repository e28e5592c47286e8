use Rattle.std.proofs.Common.{subst, ap, ◌∙◌}
use Rattle.b3tree.specs.Valid.{IsKeyed}
use Rattle.b3tree.specs.declared.mode.Mode.{Mode}
use Rattle.holders.specs.declared.fixed.Fixed.{Fixed}
use Rattle.store_core.proofs.Listed.{replay_binds}
use Rattle.store_core.proofs.Replaying.{run_done}
use Rattle.store_core.proofs.schedule.ScheduleRun.into_store.Goals as goal

pub returns-clause-left : goal.returns-clause-left
returns-clause-left c = run_done c.args.self

pub returns-clause-binds : goal.returns-clause-binds
returns-clause-binds c = λ fixed pieces steps replies blob is by.
    let keyed : IsKeyed fixed.mode =
    subst (λ (mode : Mode). IsKeyed mode) (ap (λ (f : Fixed). f.mode) (c.fixed.ensures ∙ by.fixed_is)) c.is_keyed.ensures in
    replay_binds fixed pieces steps replies c.args.self.store keyed blob is by

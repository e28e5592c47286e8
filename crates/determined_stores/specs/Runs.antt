-- Two schedules on their way that took the same steps.
use Rattle.std.specs.Prelude.{List}
use Rattle.bao_check.specs.declared.checked.Checked.{Checked}
use Rattle.holders.specs.declared.fixed.Fixed.{Fixed}
use Rattle.store_core.specs.declared.history.Event.{Event}
use Rattle.store_core.specs.declared.micro.MicroStep.{MicroStep}
use Rattle.store_core.specs.declared.micro.Reply.{Reply}
use Rattle.store_core.specs.declared.schedule.ScheduleRun.{ScheduleRun}
use Rattle.store_core.specs.Machine.{Machine}
use Rattle.store_core.specs.ScheduleRuns.{HasRun}

-- Both took these steps over the pieces from an empty store of this root, mode, capacity and first chunk, with these replies.
pub record TookTheSame (pieces : List Checked) (one other : ScheduleRun) : Type 0 where
  pub fixed : Fixed
  pub steps : List MicroStep
  pub replies : List Reply
  pub history : List Event
  pub last : Machine
  pub first : HasRun fixed pieces steps replies history last one
  pub second : HasRun fixed pieces steps replies history last other

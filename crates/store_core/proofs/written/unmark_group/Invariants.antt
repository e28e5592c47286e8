use Rattle.std.proofs.Common.{◌%◌, ◌&&◌, nat_lt}
use Rattle.store_core.specs.Masks.{in_mask}
use Rattle.store_core.specs.ScheduleRuns.{IsCleared}
use Rattle.store_core.proofs.written.unmark_group.Given as goal

abbrev pub invariant-loop-j : goal.invariant-loop-j
invariant-loop-j l = IsCleared (λ c. in_mask l.group l.mask c && nat_lt (c % 64) l.j) l.initial.written l.written

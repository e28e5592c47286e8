use Rattle.std.proofs.Common.{◌&&◌, nat_lt}
use Rattle.store_core.specs.Slots.{caller}
use Rattle.store_core.specs.ScheduleRuns.{IsCleared}
use Rattle.store_core.specs.States.{claims}
use Rattle.store_core.specs.Stores.{state_of}
use Rattle.store_core.proofs.written.unmark_claims.Given as goal

abbrev pub invariant-loop-chunk : goal.invariant-loop-chunk
invariant-loop-chunk l = IsCleared (λ c. nat_lt c l.chunk && claims (caller l.seat) (state_of l.store) c) l.initial.written l.written

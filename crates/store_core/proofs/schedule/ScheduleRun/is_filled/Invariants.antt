use Rattle.std.proofs.Common.{◌≡◌, ℕ, ◌+◌, ◌*◌, ◌<◌, true}
use Rattle.holders.specs.Pieces.{holds_chunk, piece_of}
use Rattle.store_core.specs.Slots.{caller}
use Rattle.store_core.specs.ScheduleRuns.{is_marked}
use Rattle.store_core.specs.States.{claims}
use Rattle.store_core.specs.Stores.{state_of}
use Rattle.store_core.proofs.schedule.ScheduleRun.is_filled.Given as goal

abbrev pub invariant-loop-j : goal.invariant-loop-j
invariant-loop-j l = (j w : ℕ) → j < l.j → claims (caller l.seat) (state_of l.self.store) (64 * l.group + j) ≡ true
    → holds_chunk (piece_of l.self.store.fixed.base l.piece) (64 * l.group + j) ≡ true → w < 129 → is_marked l.self.written.items (64 * l.group + j) w ≡ true

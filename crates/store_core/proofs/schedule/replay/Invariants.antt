use Rattle.store_core.proofs.Replaying.{IsInRun}
use Rattle.store_core.proofs.schedule.replay.Given as goal

abbrev pub invariant-loop-i : goal.invariant-loop-i
invariant-loop-i l = IsInRun (record { root = l.fn.root; mode = l.fn.mode; capacity = l.capacity; base = 0 }) l.pieces l.steps l.i l.replies.items l.run

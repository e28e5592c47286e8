use Rattle.store_core.proofs.Marks.{IsUnmarked}
use Rattle.store_core.proofs.written.unmark.Given as goal

abbrev pub invariant-loop-w : goal.invariant-loop-w
invariant-loop-w l = IsUnmarked l.chunk l.w l.initial.written l.written

use Rattle.gather.proofs.Common.{◌≤◌, ◌-◌, length}
use Rattle.gather.proofs.Finishing.{IsBegun}
use Rattle.gather.proofs.judging.read_all.Given as goal

abbrev pub invariant-loop-part : goal.invariant-loop-part
invariant-loop-part l = IsBegun l.store l.blob.items × (length l.blob.items ≤ l.end)

abbrev pub decreases-loop-part : goal.decreases-loop-part
decreases-loop-part l = l.end - length l.blob.items

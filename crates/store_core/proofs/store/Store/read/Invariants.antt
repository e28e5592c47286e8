use Rattle.std.proofs.Common.{◌-◌, length}
use Rattle.store_core.proofs.Copying.{IsCopied}
use Rattle.store_core.proofs.store.Store.read.Given as goal

abbrev pub invariant-loop-done : goal.invariant-loop-done
invariant-loop-done l = IsCopied l.self.slots.items l.at l.done l.initial.out l.out

abbrev pub decreases-loop-done : goal.decreases-loop-done
decreases-loop-done l = length l.out - l.done

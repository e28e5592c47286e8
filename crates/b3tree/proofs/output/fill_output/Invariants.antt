use Rattle.std.proofs.Common.{◌≡◌, ◌-◌, ◌≤◌, length, take}
use Rattle.b3tree.specs.Hashing.{output}
use Rattle.b3tree.proofs.output.fill_output.Given as goal

abbrev pub invariant-fill : goal.invariant-fill
invariant-fill l = (l.done ≤ length l.initial.out) × (take l.done l.out ≡ output l.root l.at l.done)

abbrev pub decreases-fill : goal.decreases-fill
decreases-fill l = length l.initial.out - l.done

use Rattle.std.proofs.Common.{◌≡◌, ◌+◌, ◌-◌, ◌≤◌, length}
use Rattle.store_core.specs.Histories.{state_after}
use Rattle.store_shared.specs.Filled.{IsBufferFilled}
use Rattle.store_steps.specs.Reads.{group_end}
use Rattle.store_steps.specs.Words.{IsGripOf}
use Rattle.store_shared.proofs.groups.copy_group.Given as goal

abbrev pub invariant-loop-done : goal.invariant-loop-done
invariant-loop-done l = (l.grip ≡ l.initial.grip) × IsGripOf l.words l.grip
    × IsBufferFilled (state_after l.initial.grip.view.seen) l.at l.from l.done l.initial.out l.out
    × (l.at + l.done ≤ group_end l.group)

abbrev pub decreases-loop-done : goal.decreases-loop-done
decreases-loop-done l = length l.out - l.done

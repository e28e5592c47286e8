use Rattle.std.proofs.Common.{◌+◌, ◌*◌, ◌-◌, ◌<◌, ◌≤◌, length}
use Rattle.store_core.specs.Histories.{state_after}
use Rattle.holders.specs.Room.{groups}
use Rattle.store_shared.specs.Filled.{IsBufferFilled}
use Rattle.store_core.specs.Knowledge.{Sees}
use Rattle.store_steps.specs.Reads.{group_end}
use Rattle.store_steps.specs.Words.{IsGripOf}
use Rattle.store_shared.proofs.reading.read_groups.Given as goal

abbrev pub invariant-groups : goal.invariant-groups
invariant-groups l = IsGripOf l.words l.grip × Sees l.initial.grip.view l.grip.view
    × IsBufferFilled (state_after l.grip.view.seen) l.at 0 l.done l.initial.out l.out
    × (65536 * l.group ≤ l.at + l.done) × (l.at + l.done < group_end l.group)
    × (l.at + l.done < 1024 * l.words.fixed.capacity) × (l.done < length l.out)

abbrev pub decreases-groups : goal.decreases-groups
decreases-groups l = groups l.words.fixed - l.group

use Rattle.std.proofs.Common.{◌≡◌, ◌+◌, ◌*◌}
use Rattle.store_core.specs.Histories.{state_after}
use Rattle.store_shared.specs.Filled.{IsBufferFilled}
use Rattle.store_shared.proofs.CopiedParents.{beside}
use Rattle.store_steps.specs.Words.{IsGripOf}
use Rattle.store_shared.proofs.nodes.copy_parent.Given as goal

abbrev pub invariant-words : goal.invariant-words
invariant-words l = (l.grip ≡ l.initial.grip) × IsGripOf l.words l.grip
    × IsBufferFilled (beside (state_after l.initial.grip.view.seen) l.boundary) 0 0 (0 + 8 * l.word) l.initial.out l.out

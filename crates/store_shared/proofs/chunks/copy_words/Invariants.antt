use Rattle.std.proofs.Common.{◌≡◌, ◌+◌, ◌*◌}
use Rattle.store_core.specs.Histories.{state_after}
use Rattle.store_shared.specs.Filled.{IsBufferFilled}
use Rattle.store_steps.specs.Words.{IsGripOf}
use Rattle.store_shared.proofs.chunks.copy_words.Given as goal

abbrev pub invariant-words : goal.invariant-words
invariant-words l = (l.grip ≡ l.initial.grip) × IsGripOf l.words l.grip
    × IsBufferFilled (state_after l.initial.grip.view.seen) l.at l.from (l.from + 8 * l.i) l.initial.out l.out

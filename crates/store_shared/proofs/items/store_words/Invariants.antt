use Rattle.store_steps.specs.Words.{IsGripOf}
use Rattle.store_shared.specs.StoredCells.{HasWords}
use Rattle.store_shared.proofs.items.store_words.Given as goal

abbrev pub invariant-loop-word : goal.invariant-loop-word
invariant-loop-word g l = IsGripOf l.words l.grip × HasWords g.K.Item.kind l.item l.bytes l.word l.initial.grip.view l.grip.view

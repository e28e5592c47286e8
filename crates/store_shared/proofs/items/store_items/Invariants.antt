use Rattle.holders.specs.Pieces.{piece_of}
use Rattle.store_steps.specs.Words.{IsGripOf}
use Rattle.store_shared.specs.StoredCells.{HaveWords}
use Rattle.store_shared.proofs.items.store_items.Given as goal

abbrev pub invariant-loop-j : goal.invariant-loop-j
invariant-loop-j g l = IsGripOf l.words l.grip × HaveWords g.K.Item.kind l.group l.mask (piece_of l.words.fixed.base l.piece) l.j l.initial.grip.view l.grip.view

use Rattle.std.proofs.Common.{ℕ, ◌<◌, subst}
use Rattle.store_shared.proofs.Storing.{word_more}
use Rattle.store_shared.proofs.items.store_words.Goals as goal

pub loop-word-preserved : goal.loop-word-preserved
loop-word-preserved g c = (
  c.store.ensures.of,
  word_more g.K.Item.kind c.args.item c.args.bytes.now c.loop-word.word c.word.result c.args.grip.now.view c.loop-word.grip.view c.store.new.grip.view
      c.loop-word.invariant.1 (subst (λ (n : ℕ). c.loop-word.word < n) c.width-word-end.ensures c.loop-word-test.true) c.word.ensures c.store.ensures.stored,
)

use Rattle.std.proofs.Common.{subst, sym}
use Rattle.store_core.specs.declared.view.SeatView.{SeatView}
use Rattle.store_core.specs.Histories.{state_after}
use Rattle.store_steps.specs.Kinds.{Kind, held_in, word_of}
use Rattle.store_steps.specs.Tells.{FindsWord}
use Rattle.determined_stores.proofs.Pairs.{one_word}
use Rattle.determined_stores.proofs.steps.words_copy_determined.Goals as goal

pub returns : goal.returns
returns g c =
    let kind : Kind = g.K.Item.kind in
    one_word (held_in kind (state_after c.args.first.now.view.seen) c.args.item) (λ bytes. word_of kind bytes c.args.word) c.copy.result c.copy-2.result c.requires.held c.copy.ensures.word
    (subst (λ (v : SeatView). FindsWord kind c.args.item c.args.word c.copy-2.result v) (sym c.requires.same) c.copy-2.ensures.word)

use Rattle.std.proofs.Common.{refl}
use Rattle.store_core.specs.declared.history.Call.{Call}
use Rattle.store_core.specs.declared.history.Call.TheVariants.{Give}
use Rattle.determined_stores.proofs.Lone.{as_called}
use Rattle.determined_stores.proofs.Pairs.{same_after}
use Rattle.determined_stores.proofs.steps.words_give_alone.Goals as goal

pub returns : goal.returns
returns c =
    let call : Call = Give c.args.group c.args.mask c.args.given in
    same_after c.args.first.now.view c.give.new.grip.view c.look_round.new.grip.view c.args.second.now.view c.give-2.new.grip.view c.look_round-2.new.grip.view call call c.requires.alike
    (as_called call c.args.first.now.view c.give.new.grip.view c.give.ensures.did) c.look_round.ensures.looked
    (as_called call c.args.second.now.view c.give-2.new.grip.view c.give-2.ensures.did) c.look_round-2.ensures.looked refl

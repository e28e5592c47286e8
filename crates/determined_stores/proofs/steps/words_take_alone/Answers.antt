use Rattle.store_core.specs.declared.history.Call.TheVariants.{Take}
use Rattle.determined_stores.proofs.Lone.{as_called}
use Rattle.determined_stores.proofs.Pairs.{grants_alike}
use Rattle.determined_stores.proofs.steps.words_take_alone.Goals as goal

pub returns : goal.returns
returns c =
    grants_alike c.args.first.now.view c.take-ours.new.grip.view c.look_round.new.grip.view c.args.second.now.view c.take-theirs.new.grip.view c.look_round-2.new.grip.view c.args.group
    c.args.want c.take-ours.result c.take-theirs.result c.requires.alike
    (as_called (Take c.args.group c.args.want c.take-ours.result) c.args.first.now.view c.take-ours.new.grip.view c.take-ours.ensures.did) c.look_round.ensures.looked
    (as_called (Take c.args.group c.args.want c.take-theirs.result) c.args.second.now.view c.take-theirs.new.grip.view c.take-theirs.ensures.did) c.look_round-2.ensures.looked

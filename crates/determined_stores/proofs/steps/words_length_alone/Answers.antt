use Rattle.store_core.specs.declared.history.Call.TheVariants.{Length}
use Rattle.determined_stores.proofs.Lone.{as_called}
use Rattle.determined_stores.proofs.Pairs.{lengths_alike}
use Rattle.determined_stores.proofs.steps.words_length_alone.Goals as goal

pub returns : goal.returns
returns c =
    lengths_alike c.args.first.now.view c.length-ours.new.grip.view c.look_round.new.grip.view c.args.second.now.view c.length-theirs.new.grip.view c.look_round-2.new.grip.view
    c.length-ours.result c.length-theirs.result c.requires.alike
    (as_called (Length c.length-ours.result) c.args.first.now.view c.length-ours.new.grip.view c.length-ours.ensures.did) c.look_round.ensures.looked
    (as_called (Length c.length-theirs.result) c.args.second.now.view c.length-theirs.new.grip.view c.length-theirs.ensures.did) c.look_round-2.ensures.looked

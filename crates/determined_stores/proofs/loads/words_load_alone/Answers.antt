use Rattle.determined_stores.proofs.Looking.{loads_alike}
use Rattle.determined_stores.proofs.loads.words_load_alone.Goals as goal

pub returns : goal.returns
returns c =
    loads_alike c.args.first.now.view c.load-ours.new.grip.view c.look_round.new.grip.view c.args.second.now.view c.load-theirs.new.grip.view c.look_round-2.new.grip.view c.requires.alike
    c.look_round.ensures.looked c.look_round-2.ensures.looked c.args.group c.args.at c.args.len c.load-ours.result c.load-theirs.result c.load-ours.ensures.looked c.load-theirs.ensures.looked c.load-ours.type_inv
    c.load-theirs.type_inv c.load-ours.ensures.held c.load-theirs.ensures.held

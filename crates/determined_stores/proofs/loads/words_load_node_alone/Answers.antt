use Rattle.determined_stores.proofs.Looking.{nodes_alike}
use Rattle.determined_stores.proofs.loads.words_load_node_alone.Goals as goal

pub returns : goal.returns
returns c =
    nodes_alike c.args.first.now.view c.load_node-ours.new.grip.view c.look_round.new.grip.view c.args.second.now.view c.load_node-theirs.new.grip.view c.look_round-2.new.grip.view c.requires.alike
    c.look_round.ensures.looked c.look_round-2.ensures.looked c.args.node.now c.args.last c.args.start c.args.len c.load_node-ours.result c.load_node-theirs.result c.load_node-ours.ensures.looked
    c.load_node-theirs.ensures.looked c.load_node-ours.ensures.held c.load_node-theirs.ensures.held

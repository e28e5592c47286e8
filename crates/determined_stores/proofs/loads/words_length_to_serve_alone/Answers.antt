use Rattle.determined_stores.proofs.Looking.{unserved_alike}
use Rattle.determined_stores.proofs.loads.words_length_to_serve_alone.Goals as goal

pub returns : goal.returns
returns c =
    unserved_alike c.args.first.now.view c.length_to_serve-ours.new.grip.view c.look_round.new.grip.view c.args.second.now.view c.length_to_serve-theirs.new.grip.view c.look_round-2.new.grip.view c.requires.alike
    c.look_round.ensures.looked c.look_round-2.ensures.looked c.args.start c.args.len c.length_to_serve-ours.result c.length_to_serve-theirs.result
    c.length_to_serve-ours.ensures.looked c.length_to_serve-theirs.ensures.looked c.length_to_serve-ours.ensures.recorded c.length_to_serve-theirs.ensures.recorded

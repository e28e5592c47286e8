use Rattle.determined_stores.proofs.Pairs.{lengths_alike}
use Rattle.determined_stores.proofs.alone.length_alone.Goals as goal

pub returns : goal.returns
returns c =
    lengths_alike c.args.first.now.view c.length-ours.new.seat.view c.look_round.new.seat.view c.args.second.now.view c.length-theirs.new.seat.view c.look_round-2.new.seat.view
    c.length-ours.result c.length-theirs.result c.requires.alike c.length-ours.ensures.called c.look_round.ensures.looked c.length-theirs.ensures.called c.look_round-2.ensures.looked

use Rattle.determined_stores.proofs.Pairs.{gives_alike}
use Rattle.determined_stores.proofs.alone.give_alone.Goals as goal

pub returns : goal.returns
returns c =
    gives_alike c.args.first.now.view c.give-ours.new.seat.view c.look_round.new.seat.view c.args.second.now.view c.give-theirs.new.seat.view c.look_round-2.new.seat.view c.args.group
    c.args.mask c.give-ours.result c.give-theirs.result c.requires.alike c.give-ours.ensures.called c.look_round.ensures.looked c.give-theirs.ensures.called
    c.look_round-2.ensures.looked

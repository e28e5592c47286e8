use Rattle.determined_stores.proofs.Pairs.{takes_alike}
use Rattle.determined_stores.proofs.alone.take_alone.Goals as goal

pub returns : goal.returns
returns c =
    takes_alike c.args.a.now.words.fixed c.args.b.now.words.fixed c.args.first.now c.take-ours.new.seat c.look_round.new.seat.view c.args.second.now c.take-theirs.new.seat
    c.look_round-2.new.seat.view c.args.group c.args.want c.take-ours.result c.take-theirs.result c.requires.alike c.requires.first.knows.fixed_is c.requires.second.knows.fixed_is
    c.take-ours.ensures.group c.take-theirs.ensures.group c.take-ours.ensures.called c.take-ours.ensures.same c.look_round.ensures.looked c.take-theirs.ensures.called
    c.take-theirs.ensures.same c.look_round-2.ensures.looked

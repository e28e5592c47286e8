use Rattle.determined_stores.proofs.Pairs.{neither}
use Rattle.determined_stores.proofs.alone.look_round_alone.Goals as goal

pub returns : goal.returns
returns c =
    neither c.args.first.now.view c.look_round.new.seat.view c.args.second.now.view c.look_round-2.new.seat.view c.requires.alike c.look_round.ensures.looked
    c.look_round-2.ensures.looked

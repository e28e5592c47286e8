use Rattle.determined_stores.proofs.Pairs.{reads_alike}
use Rattle.determined_stores.proofs.alone.read_alone.Goals as goal

pub returns : goal.returns
returns c =
    reads_alike c.args.first.now.view c.read-one.new.seat.view c.look_round.new.seat.view c.args.second.now.view c.read-other.new.seat.view c.look_round-2.new.seat.view c.args.at
    c.args.ours.now c.args.theirs.now c.read-one.new.out c.read-other.new.out c.read-one.result c.read-other.result c.requires.alike c.requires.buffers c.read-one.ensures.event
    c.look_round.ensures.looked c.read-other.ensures.event c.look_round-2.ensures.looked

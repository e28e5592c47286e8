use Rattle.determined_stores.proofs.Partners.{reads_as_store}
use Rattle.determined_stores.proofs.one_thread.read_is_the_stores.Goals as goal

pub returns : goal.returns
returns c = λ number alike.
    reads_as_store c.args.store.now number c.args.seat.now.view c.read-one.new.seat.view c.look_round.new.seat.view c.args.at c.args.ours.now c.args.theirs.now c.read-one.new.out
    c.read-other.new.out c.read-one.result c.read-other.result alike c.requires.buffers c.read-one.ensures.event c.look_round.ensures.looked c.read-other.ensures.event

use Rattle.determined_stores.proofs.Partners.{lengths_as_store}
use Rattle.determined_stores.proofs.one_thread.length_is_the_stores.Goals as goal

pub returns : goal.returns
returns c = λ number alike.
    lengths_as_store c.args.store.now number c.args.seat.now.view c.length-ours.new.seat.view c.look_round.new.seat.view c.length-ours.result c.length-theirs.result alike
    c.length-ours.ensures.called c.look_round.ensures.looked c.length-theirs.ensures.event

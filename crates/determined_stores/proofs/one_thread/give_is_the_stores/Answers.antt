use Rattle.determined_stores.proofs.Partners.{gives_as_store}
use Rattle.determined_stores.proofs.one_thread.give_is_the_stores.Goals as goal

pub returns : goal.returns
returns c =
    gives_as_store c.args.store.now c.give-theirs.new.self c.args.number c.args.seat.now.view c.give-ours.new.seat.view c.look_round.new.seat.view c.args.group c.args.mask
    c.give-ours.result c.give-theirs.result c.requires.alike c.give-ours.ensures.called c.look_round.ensures.looked c.give-theirs.ensures

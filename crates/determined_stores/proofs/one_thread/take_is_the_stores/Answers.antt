use Rattle.determined_stores.proofs.Partners.{takes_as_store}
use Rattle.determined_stores.proofs.one_thread.take_is_the_stores.Goals as goal

pub returns : goal.returns
returns c =
    takes_as_store c.args.a.now.words.fixed c.args.store.now c.take-theirs.new.self c.args.number c.args.seat.now c.take-ours.new.seat c.look_round.new.seat.view c.args.group
    c.args.want c.take-ours.result c.take-theirs.result c.requires.alike c.requires.of.knows.fixed_is c.take-ours.ensures.group c.take-theirs.ensures.no_group c.take-theirs.ensures.never
    c.take-theirs.ensures.never_length c.take-ours.ensures.called c.take-ours.ensures.same c.look_round.ensures.looked c.take-theirs.ensures.ok c.take-theirs.ensures.err

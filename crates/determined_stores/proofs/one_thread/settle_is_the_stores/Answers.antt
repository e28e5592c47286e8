use Rattle.bao_check.specs.Tail.{tail_piece}
use Rattle.determined_stores.proofs.Partners.{settles_as_store, store_fixed}
use Rattle.determined_stores.proofs.one_thread.settle_is_the_stores.Goals as goal

pub returns : goal.returns
returns c = λ number alike.
    settles_as_store c.args.a.now.words.fixed c.args.store.now c.settle-theirs.new.self number c.args.seat.now c.settle-ours.new.seat c.look_round.new.seat.view
    (tail_piece c.args.tail.now) alike (store_fixed c.args.store.now number c.args.seat.now.view c.args.a.now.words.fixed alike c.requires.of.knows.fixed_is)
    c.look_round.ensures.looked c.settle-ours.result c.settle-theirs.result c.settle-ours.ensures.settles c.settle-theirs.ensures.other_root c.settle-theirs.ensures.event

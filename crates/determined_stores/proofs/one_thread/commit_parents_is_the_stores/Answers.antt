use Rattle.determined_stores.proofs.Partners.{store_fixed}
use Rattle.determined_stores.proofs.ParentPairs.{parents_as_store}
use Rattle.determined_stores.proofs.one_thread.commit_parents_is_the_stores.Goals as goal

pub returns : goal.returns
returns c = λ number alike.
    parents_as_store c.args.a.now.words.fixed c.args.store.now c.commit_parents-theirs.new.self number c.args.seat.now c.commit_parents-ours.new.seat c.look_round.new.seat.view
    c.args.group c.args.piece.now alike (store_fixed c.args.store.now number c.args.seat.now.view c.args.a.now.words.fixed alike c.requires.of.knows.fixed_is)
    c.look_round.ensures.looked c.commit_parents-ours.result c.commit_parents-theirs.result c.commit_parents-ours.ensures.root c.commit_parents-theirs.ensures.other_root
    c.commit_parents-theirs.ensures.other_length c.commit_parents-theirs.ensures.never c.commit_parents-ours.ensures.called c.commit_parents-ours.ensures.refused
    c.commit_parents-ours.ensures.alone c.commit_parents-theirs.ensures.ok c.commit_parents-theirs.ensures.all c.commit_parents-theirs.ensures.refused

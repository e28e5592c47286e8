use Rattle.determined_stores.proofs.Partners.{commits_as_store}
use Rattle.determined_stores.proofs.one_thread.commit_is_the_stores.Goals as goal

pub returns : goal.returns
returns c =
    commits_as_store c.args.a.now.words.fixed c.args.store.now c.commit-theirs.new.self c.args.number c.args.seat.now c.commit-ours.new.seat c.look_round.new.seat.view c.args.group
    c.args.piece.now c.commit-ours.result c.commit-theirs.result c.requires.alike c.requires.of.knows.fixed_is c.commit-ours.ensures.root c.commit-theirs.ensures.other_root
    c.commit-theirs.ensures.never c.commit-theirs.ensures.never_length c.commit-ours.ensures.called c.commit-ours.ensures.same c.look_round.ensures.looked c.commit-theirs.ensures.ok
    c.commit-theirs.ensures.err

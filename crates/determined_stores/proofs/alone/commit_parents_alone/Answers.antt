use Rattle.determined_stores.proofs.Pairs.{one_fixed}
use Rattle.determined_stores.proofs.ParentPairs.{parents_alike}
use Rattle.determined_stores.proofs.alone.commit_parents_alone.Goals as goal

pub returns : goal.returns
returns c =
    parents_alike c.args.a.now.words.fixed c.args.b.now.words.fixed c.args.first.now c.commit_parents-ours.new.seat c.look_round.new.seat.view c.args.second.now
    c.commit_parents-theirs.new.seat c.look_round-2.new.seat.view c.args.group c.args.piece.now c.requires.alike
    (one_fixed c.args.a.now.words.fixed c.args.b.now.words.fixed c.args.first.now.view c.args.second.now.view c.requires.alike c.requires.first.knows.fixed_is
    c.requires.second.knows.fixed_is) c.look_round.ensures.looked c.look_round-2.ensures.looked c.commit_parents-ours.result c.commit_parents-theirs.result
    c.commit_parents-ours.ensures.root c.commit_parents-theirs.ensures.root c.commit_parents-ours.ensures.called c.commit_parents-ours.ensures.refused c.commit_parents-ours.ensures.alone
    c.commit_parents-theirs.ensures.called c.commit_parents-theirs.ensures.refused c.commit_parents-theirs.ensures.alone

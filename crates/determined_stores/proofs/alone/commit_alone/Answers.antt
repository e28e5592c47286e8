use Rattle.determined_stores.proofs.Pairs.{commits_alike}
use Rattle.determined_stores.proofs.alone.commit_alone.Goals as goal

pub returns : goal.returns
returns c =
    commits_alike c.args.a.now.words.fixed c.args.b.now.words.fixed c.args.first.now c.commit-ours.new.seat c.look_round.new.seat.view c.args.second.now c.commit-theirs.new.seat
    c.look_round-2.new.seat.view c.args.group c.args.piece.now c.commit-ours.result c.commit-theirs.result c.requires.alike c.requires.first.knows.fixed_is
    c.requires.second.knows.fixed_is c.commit-ours.ensures.root c.commit-theirs.ensures.root c.commit-ours.ensures.called c.commit-ours.ensures.same c.look_round.ensures.looked
    c.commit-theirs.ensures.called c.commit-theirs.ensures.same c.look_round-2.ensures.looked

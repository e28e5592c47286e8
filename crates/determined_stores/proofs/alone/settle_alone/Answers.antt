use Rattle.bao_check.specs.Tail.{tail_piece}
use Rattle.determined_stores.proofs.Pairs.{one_fixed, settles_alike}
use Rattle.determined_stores.proofs.alone.settle_alone.Goals as goal

pub returns : goal.returns
returns c =
    settles_alike c.args.a.now.words.fixed c.args.b.now.words.fixed c.args.first.now c.settle-ours.new.seat c.look_round.new.seat.view c.args.second.now c.settle-theirs.new.seat
    c.look_round-2.new.seat.view (tail_piece c.args.tail.now) c.settle-ours.result c.settle-theirs.result c.requires.alike
    (one_fixed c.args.a.now.words.fixed c.args.b.now.words.fixed c.args.first.now.view c.args.second.now.view c.requires.alike c.requires.first.knows.fixed_is
    c.requires.second.knows.fixed_is) c.settle-ours.ensures.settles c.look_round.ensures.looked c.settle-theirs.ensures.settles c.look_round-2.ensures.looked

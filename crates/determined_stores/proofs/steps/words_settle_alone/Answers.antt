use Rattle.bao_check.specs.Tail.{tail_piece}
use Rattle.holders.specs.declared.fixed.Fixed.{Fixed}
use Rattle.store_core.specs.declared.history.Call.TheVariants.{Settle}
use Rattle.holders.specs.Pieces.{piece_of}
use Rattle.determined_stores.proofs.Lone.{as_called}
use Rattle.determined_stores.proofs.Pairs.{one_piece, records_alike}
use Rattle.determined_stores.proofs.steps.words_settle_alone.Goals as goal

pub returns : goal.returns
returns c =
    let a : Fixed = c.args.a.now.fixed in
    let b : Fixed = c.args.b.now.fixed in
    let piece = piece_of a.base (tail_piece c.args.tail.now) in
    let its = piece_of b.base (tail_piece c.args.tail.now) in
    records_alike c.args.first.now.view c.settle-ours.new.grip.view c.look_round.new.grip.view c.args.second.now.view c.settle-theirs.new.grip.view c.look_round-2.new.grip.view piece its
    c.settle-ours.result c.settle-theirs.result c.requires.alike
    (one_piece a b c.args.first.now.view c.args.second.now.view (tail_piece c.args.tail.now) c.requires.alike c.requires.first.knows.fixed_is c.requires.second.knows.fixed_is)
    (as_called (Settle piece c.settle-ours.result) c.args.first.now.view c.settle-ours.new.grip.view c.settle-ours.ensures.did) c.look_round.ensures.looked
    (as_called (Settle its c.settle-theirs.result) c.args.second.now.view c.settle-theirs.new.grip.view c.settle-theirs.ensures.did) c.look_round-2.ensures.looked

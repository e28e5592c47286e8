use Rattle.holders.specs.declared.fixed.Fixed.{Fixed}
use Rattle.holders.specs.Pieces.{piece_of}
use Rattle.determined_stores.proofs.Looking.{unstored_alike}
use Rattle.determined_stores.proofs.Pairs.{one_piece}
use Rattle.determined_stores.proofs.loads.words_length_to_store_alone.Goals as goal

pub returns : goal.returns
returns c =
    let a : Fixed = c.args.a.now.fixed in
    let b : Fixed = c.args.b.now.fixed in
    unstored_alike c.args.first.now.view c.length_to_store-ours.new.grip.view c.look_round.new.grip.view c.args.second.now.view c.length_to_store-theirs.new.grip.view c.look_round-2.new.grip.view c.requires.alike
    c.look_round.ensures.looked c.look_round-2.ensures.looked c.args.group (piece_of a.base c.args.piece.now) (piece_of b.base c.args.piece.now) c.length_to_store-ours.result
    c.length_to_store-theirs.result (one_piece a b c.args.first.now.view c.args.second.now.view c.args.piece.now c.requires.alike c.requires.first.knows.fixed_is c.requires.second.knows.fixed_is)
    c.length_to_store-ours.ensures.looked c.length_to_store-theirs.ensures.looked c.length_to_store-ours.ensures.recorded c.length_to_store-theirs.ensures.recorded

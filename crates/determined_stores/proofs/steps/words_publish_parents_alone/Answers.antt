use Rattle.std.proofs.Common.{ap, sym}
use Rattle.holders.specs.declared.fixed.Fixed.{Fixed}
use Rattle.store_core.specs.declared.history.Call.TheVariants.{Parents}
use Rattle.holders.specs.declared.piece.Piece.{Piece}
use Rattle.store_core.specs.declared.history.Storing.TheVariants.{Stored}
use Rattle.holders.specs.Pieces.{piece_of}
use Rattle.determined_stores.proofs.Pairs.{ends_alike, one_piece}
use Rattle.determined_stores.proofs.steps.words_publish_parents_alone.Goals as goal

pub returns : goal.returns
returns c =
    let a : Fixed = c.args.a.now.fixed in
    let b : Fixed = c.args.b.now.fixed in
    ends_alike c.args.first.now.view c.publish_parents.new.grip.view c.look_round.new.grip.view c.args.second.now.view c.publish_parents-2.new.grip.view c.look_round-2.new.grip.view
    (Parents c.args.group (piece_of a.base c.args.piece.now) (Stored c.args.mask)) (Parents c.args.group (piece_of b.base c.args.piece.now) (Stored c.args.mask)) c.requires.alike
    (ap (λ (p : Piece). Parents c.args.group p (Stored c.args.mask)) (sym (one_piece a b c.args.first.now.view c.args.second.now.view c.args.piece.now c.requires.alike c.requires.first.knows.fixed_is c.requires.second.knows.fixed_is)))
    c.publish_parents.ensures.called c.look_round.ensures.looked
    c.publish_parents-2.ensures.called c.look_round-2.ensures.looked

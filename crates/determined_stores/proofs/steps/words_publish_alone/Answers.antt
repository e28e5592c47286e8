use Rattle.std.proofs.Common.{ap, sym}
use Rattle.holders.specs.declared.fixed.Fixed.{Fixed}
use Rattle.store_core.specs.declared.history.Call.{Call}
use Rattle.store_core.specs.declared.history.Call.TheVariants.{Commit}
use Rattle.holders.specs.declared.piece.Piece.{Piece}
use Rattle.holders.specs.Pieces.{piece_of}
use Rattle.determined_stores.proofs.Lone.{as_called}
use Rattle.determined_stores.proofs.Pairs.{one_piece, same_after}
use Rattle.determined_stores.proofs.steps.words_publish_alone.Goals as goal

pub returns : goal.returns
returns c =
    let a : Fixed = c.args.a.now.fixed in
    let b : Fixed = c.args.b.now.fixed in
    let call : Call = Commit c.args.group (piece_of a.base c.args.piece.now) c.args.mask in
    let also : Call = Commit c.args.group (piece_of b.base c.args.piece.now) c.args.mask in
    same_after c.args.first.now.view c.publish.new.grip.view c.look_round.new.grip.view c.args.second.now.view c.publish-2.new.grip.view c.look_round-2.new.grip.view call also c.requires.alike
    (as_called call c.args.first.now.view c.publish.new.grip.view c.publish.ensures.did) c.look_round.ensures.looked
    (as_called also c.args.second.now.view c.publish-2.new.grip.view c.publish-2.ensures.did) c.look_round-2.ensures.looked
    (ap (λ (p : Piece). Commit c.args.group p c.args.mask) (sym (one_piece a b c.args.first.now.view c.args.second.now.view c.args.piece.now c.requires.alike c.requires.first.knows.fixed_is c.requires.second.knows.fixed_is)))

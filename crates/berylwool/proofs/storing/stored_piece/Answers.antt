use Rattle.std.proofs.Common.{◌≡◌, ◌∙◌, ℕ, Option, Some, ap, subst}
use Rattle.store_core.proofs.StoredParents.{recorded_is}
use Rattle.store_core.specs.declared.history.Call.TheVariants.{Length}
use Rattle.holders.specs.declared.piece.Piece.{Piece}
use Rattle.store_core.specs.Knowledge.{Called}
use Rattle.holders.specs.Pieces.{length_of, piece_of}
use Rattle.store_shared.specs.Seats.{fixed_of}
use Rattle.berylwool.proofs.EachGroup.{records_now}
use Rattle.berylwool.proofs.storing.stored_piece.Goals as goal

pub store_groups-requires-clause-records : goal.store_groups-requires-clause-records
store_groups-requires-clause-records c =
    let piece : Piece = piece_of (fixed_of c.args.store.now).base c.args.piece.now in
    let is : c.length.result ≡ Some (length_of piece) =
    recorded_is c.length.result c.claimed.result c.ne.result c.ne.ensures c.if-ne.false ∙ ap (λ (l : ℕ). Some l) c.claimed.ensures in
    c.commit_groups.ensures.records (records_now c.args.seat.now c.length.new.seat c.length.result (length_of piece) c.length.ensures.called is)

pub returns-clause-stores : goal.returns-clause-stores
returns-clause-stores c = λ _.
    let piece : Piece = piece_of (fixed_of c.args.store.now).base c.args.piece.now in
    let is : c.length.result ≡ Some (length_of piece) =
    recorded_is c.length.result c.claimed.result c.ne.result c.ne.ensures c.if-ne.false ∙ ap (λ (l : ℕ). Some l) c.claimed.ensures in
    record {
      asked = c.length.new.seat.view;
      committed = c.commit_groups.new.seat.view;
      length_is = subst (λ (o : Option ℕ). Called (Length o) c.args.seat.now.view c.length.new.seat.view) is c.length.ensures.called;
      commits = c.commit_groups.ensures.commits;
      stores = c.store_groups.ensures.stores;
    }

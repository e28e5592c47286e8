use Rattle.std.proofs.Common.{ℕ, inl, inr, refl, subst}
use Rattle.store_core.specs.declared.history.Call.TheVariants.{Commit, Take}
use Rattle.store_core.specs.Masks.{IsMaskOf}
use Rattle.holders.specs.Pieces.{holds_chunk, length_of, piece_of}
use Rattle.store_shared.specs.Seats.{fixed_of}
use Rattle.berylwool.proofs.EachGroup.{passes, records_on}
use Rattle.berylwool.proofs.storing.commit_group.Goals as goal

pub returns-then-want-eq0-clause-commits : goal.returns-then-want-eq0-clause-commits
returns-then-want-eq0-clause-commits c =
    let wants : IsMaskOf c.args.group c.chunks_in-want.result (λ k. holds_chunk (piece_of (fixed_of c.args.store.now).base c.args.piece.now) k) =
    subst (λ (base : ℕ). IsMaskOf c.args.group c.chunks_in-want.result (λ k. holds_chunk (piece_of base c.args.piece.now) k)) c.base.ensures c.chunks_in-want.ensures in
    inl (passes _ c.args.group c.chunks_in-want.result 0 c.args.seat.now.view c.args.seat.now.view wants c.if-want-eq0.true refl refl)

pub returns-clause-commits : goal.returns-clause-commits
returns-clause-commits c =
    let wants : IsMaskOf c.args.group c.chunks_in-want.result (λ k. holds_chunk (piece_of (fixed_of c.args.store.now).base c.args.piece.now) k) =
    subst (λ (base : ℕ). IsMaskOf c.args.group c.chunks_in-want.result (λ k. holds_chunk (piece_of base c.args.piece.now) k)) c.base.ensures c.chunks_in-want.ensures in
    inr (record {
      want = c.chunks_in-want.result;
      granted = c.in-Ok._granted;
      mask = c.in-Ok-commit.mask;
      claimed = c.take.new.seat.view;
      wants = wants;
      takes = c.in-Ok.ensures.called;
      commits = c.in-Ok-commit.ensures.called;
      binds = c.in-Ok-commit.ensures.binds;
      count_is = refl;
    })

pub returns-clause-records : goal.returns-clause-records
returns-clause-records c = λ is.
    let piece = piece_of (fixed_of c.args.store.now).base c.args.piece.now in
    records_on piece (Commit c.args.group piece c.in-Ok-commit.mask) c.take.new.seat c.commit.new.seat (length_of piece) refl c.in-Ok-commit.ensures.called
    (records_on piece (Take c.args.group c.chunks_in-want.result c.in-Ok._granted) c.args.seat.now c.take.new.seat (length_of piece) tt c.in-Ok.ensures.called is)

use Rattle.std.proofs.Common.{◌≡◌, ◌∙◌, length, slice_get, Some, sym, subst, refl, arith}
use Rattle.std.proofs.lemmas.List.{with_items_is}
use Rattle.std.proofs.lemmas.Option.{slice_get_read}
use Rattle.b3tree.specs.Valid.{AreBytes}
use Rattle.bao_check.specs.declared.checked.Checked.{Checked}
use Rattle.bao_check.specs.Checked.{piece_text}
use Rattle.store_core.proofs.RunSteps.{hash_next, may_hash, put_back, stepped}
use Rattle.store_core.proofs.schedule.ScheduleRun.hash.Goals as goal
use Rattle.store_core.proofs.schedule.ScheduleRun.hash.Goals.{After-is_of}

found : (c : After-is_of) → slice_get c.args.pieces.now c.args.index ≡ Some c.index-pieces-index.result
found c = slice_get_read c.args.pieces.now (length c.args.pieces.now) c.args.index c.index-pieces-index.result refl (omega (arith, c.if-index-pieces.false)) c.index-pieces-index.is

pub returns-clause-ok : goal.returns-clause-ok
returns-clause-ok c = λ fixed steps replies history m has.
    let there = found (goal.at.returns-clause-ok c).After-is_of in
    let bytes : (p : Checked) → slice_get c.args.pieces.now c.args.index ≡ Some p → AreBytes (piece_text p) = λ p is.
    let both : Some c.index-pieces-index.result ≡ Some p = sym there ∙ is in
    let same : c.index-pieces-index.result ≡ p = cc in
    subst (λ (x : Checked). AreBytes (piece_text x)) same c.is_accepted.ensures.bytes in
    let took = c.take_player-player.ensures in
    stepped has refl bytes (hash_next c.args.pieces.now c.args.seat has.served has.stands c.take_player-player.result took.is _ _
    (put_back _ c.take_player-player.new.players.items _ c.args.seat _ took.number took.others c.in_ok-put_player.ensures) there (c.is_of.ensures.0 c.if-not-is_of.false)
    (rw (with_items_is c.args.self.now.written c.unmark_claims.new.written (omega (arith, c.unmark_claims.auto.written, c.as_mut_slice.ensures.len)))
    (rw c.as_mut_slice.ensures.value at c.unmark_claims.ensures)) refl refl)

pub returns-in_err-put_player-clause-memory : goal.returns-in_err-put_player-clause-memory
returns-in_err-put_player-clause-memory c = λ out m served is.
    may_hash c.args.self.now.store.fixed c.args.pieces.now m c.args.seat c.args.index c.index-pieces-index.result
    (found (goal.at.returns-in_err-put_player-clause-memory c).After-is_of) (c.is_of.ensures.0 c.if-not-is_of.false)

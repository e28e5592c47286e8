use Rattle.std.proofs.Common.{[], refl, sym, ◌∙◌, arith}
use Rattle.std.proofs.lemmas.Bool.{both_ways}
use Rattle.store_core.proofs.RunSteps.{may_write, put_back, stepped, write_legal, write_next}
use Rattle.store_core.proofs.schedule.ScheduleRun.write.Goals as goal
use Rattle.store_core.proofs.schedule.ScheduleRun.write.Goals.{then-word-ge-CELL_WORDS-via-then-word-ge-CELL_WORDS, then-word-ge-CELL_WORDS-via-else-word-ge-CELL_WORDS+then-not-holds, then-word-ge-CELL_WORDS-via-else-word-ge-CELL_WORDS+else-not-holds+then-not-has_claim}

pub returns-then-word-ge-CELL_WORDS-clause-illegal : goal.returns-then-word-ge-CELL_WORDS-clause-illegal
returns-then-word-ge-CELL_WORDS-clause-illegal c = λ refused m served is legal.
    let parts = write_legal [] c.args.seat served is c.take_player-player.result c.take_player-player.ensures.is c.args.chunk c.args.word legal in
    elim c.then-word-ge-CELL_WORDS.branch [
      | then-word-ge-CELL_WORDS-via-then-word-ge-CELL_WORDS w ↦ absurd (omega (arith, w.if-word-ge-CELL_WORDS.true, legal.0))
      | then-word-ge-CELL_WORDS-via-else-word-ge-CELL_WORDS+then-not-holds w ↦ both_ways _ w.if-not-holds.true (c.does_hold-holds.ensures ∙ parts.1)
      | then-word-ge-CELL_WORDS-via-else-word-ge-CELL_WORDS+else-not-holds+then-not-has_claim w ↦ both_ways _ w.if-not-has_claim.true (w.has_claim.ensures ∙ parts.0)
    ]

pub returns-clause-ok : goal.returns-clause-ok
returns-clause-ok c = λ pieces fixed steps replies history m has.
    let took = c.take_player-player.ensures in
    stepped has refl tt (write_next pieces c.args.seat has.served has.stands c.take_player-player.result took.is _ _
    (put_back _ c.take_player-player.new.players.items _ c.args.seat c.take_player-player.result took.number took.others c.in_ok-put_player.ensures) refl
    (omega (arith, c.if-word-ge-CELL_WORDS.false)) (sym c.has_claim.ensures ∙ c.if-not-has_claim.false) (sym c.does_hold-holds.ensures ∙ c.if-not-holds.false) c.in_ok-mark.ensures)

pub returns-in_err-mark-clause-memory : goal.returns-in_err-mark-clause-memory
returns-in_err-mark-clause-memory c = λ out m served is.
    may_write [] c.args.seat served is c.take_player-player.result c.take_player-player.ensures.is c.args.chunk c.args.word
    (omega (arith, c.if-word-ge-CELL_WORDS.false)) (sym c.has_claim.ensures ∙ c.if-not-has_claim.false) (sym c.does_hold-holds.ensures ∙ c.if-not-holds.false)

pub returns-in_err-put_player-clause-memory : goal.returns-in_err-put_player-clause-memory
returns-in_err-put_player-clause-memory c = λ out m served is.
    may_write [] c.args.seat served is c.take_player-player.result c.take_player-player.ensures.is c.args.chunk c.args.word
    (omega (arith, c.if-word-ge-CELL_WORDS.false)) (sym c.has_claim.ensures ∙ c.if-not-has_claim.false) (sym c.does_hold-holds.ensures ∙ c.if-not-holds.false)

use Rattle.std.proofs.lemmas.Bool.Decides.{nat_tests}
use Rattle.std.proofs.Common.{arith, refl, subst}
use Rattle.bao_check.specs.declared.checked.Checked.{Checked}
use Rattle.store_core.specs.Stores.{Settles}
use Rattle.store_core.proofs.RunSteps.{may_settle, put_back, stepped}
use Rattle.store_core.proofs.Wordless.{settle_fixed, settle_next}
use Rattle.store_core.proofs.schedule.ScheduleRun.settle.Goals as goal

pub returns-in-None-tail-clause-illegal : goal.returns-in-None-tail-clause-illegal
returns-in-None-tail-clause-illegal c = grind (arith, nat_tests)

pub returns-clause-ok : goal.returns-clause-ok
returns-clause-ok c = λ pieces fixed steps replies history m has.
    let from = c.args.self.now.store in
    let settles : Settles from c.settle-answer.new.self c.in-Some.piece c.settle-answer.result =
    subst (λ (p : Checked). Settles from c.settle-answer.new.self p c.settle-answer.result) c.in-Some-tail.ensures.piece c.settle-answer.ensures.event in
    let took = c.take_player-player.ensures in
    stepped has (settle_fixed from c.settle-answer.new.self c.in-Some.piece c.settle-answer.result settles) tt
    (settle_next pieces from c.settle-answer.new.self c.take_player-player.result has.served has.stands took.is
    (put_back _ c.take_player-player.new.players.items _ c.args.seat c.take_player-player.result took.number took.others c.in_ok-put_player.ensures)
    c.in-Some.is (c.in-Some-tail.ensures.there.0 refl) settles)

pub returns-in_err-put_player-clause-memory : goal.returns-in_err-put_player-clause-memory
returns-in_err-put_player-clause-memory c = grind (arith, nat_tests, may_settle)

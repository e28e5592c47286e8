use Rattle.std.proofs.Common.{[], refl, arith}
use Rattle.std.proofs.lemmas.Bool.{both_ways}
use Rattle.store_core.proofs.RunSteps.{may_publish, publish_filled, publish_next, put_back, stepped}
use Rattle.store_core.proofs.schedule.ScheduleRun.publish.Goals as goal
use Rattle.store_core.proofs.schedule.ScheduleRun.publish.Goals.{then-group-groups-via-then-group-groups, then-group-groups-via-else-group-groups+then-not-is_filled}

pub returns-then-group-groups-clause-illegal : goal.returns-then-group-groups-clause-illegal
returns-then-group-groups-clause-illegal c = λ refused m served is legal. elim c.then-group-groups.branch [
  | then-group-groups-via-then-group-groups w ↦ absurd (omega (arith, c.groups.ensures, w.if-group-groups.true, legal.0))
  | then-group-groups-via-else-group-groups+then-not-is_filled w ↦
      both_ways _ w.if-not-is_filled.true
      (w.is_filled.ensures.1 (publish_filled [] c.args.seat served is c.take_player-player.result c.take_player-player.ensures.is c.in-Some.is legal))
]

pub returns-clause-ok : goal.returns-clause-ok
returns-clause-ok c = λ pieces fixed steps replies history m has.
    let e = c.in-Ok.ensures.ok in
    let took = c.take_player-player.ensures in
    stepped has e.fixed tt (publish_next pieces c.args.seat has.served has.stands c.take_player-player.result took.is _ _
    (put_back _ c.take_player-player.new.players.items _ c.args.seat c.take_player-player.result took.number took.others c.in_ok-put_player.ensures) refl c.in-Some.is
    (omega (arith, c.groups.ensures, c.if-group-groups.false)) (c.is_filled.ensures.0 c.if-not-is_filled.false) e.right e.after)

pub returns-in-Err-clause-memory : goal.returns-in-Err-clause-memory
returns-in-Err-clause-memory c = λ out m served is.
    may_publish [] c.args.seat served is c.take_player-player.result c.take_player-player.ensures.is c.in-Some.is
    (omega (arith, c.groups.ensures, c.if-group-groups.false)) (c.is_filled.ensures.0 c.if-not-is_filled.false)

pub returns-in_err-put_player-clause-memory : goal.returns-in_err-put_player-clause-memory
returns-in_err-put_player-clause-memory c = λ out m served is.
    may_publish [] c.args.seat served is c.take_player-player.result c.take_player-player.ensures.is c.in-Some.is
    (omega (arith, c.groups.ensures, c.if-group-groups.false)) (c.is_filled.ensures.0 c.if-not-is_filled.false)

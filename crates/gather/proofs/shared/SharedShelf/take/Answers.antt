use Rattle.gather.proofs.SeatCommon.{sym, ◌∙◌, IsNone, Take}
use Rattle.gather.proofs.SeatAlone.{looks_on, rest_there}
use Rattle.gather.proofs.SeatKnowing.{granted_there}
use Rattle.gather.proofs.Sharing.{among_same, goes_on, stays_same, taken}
use Rattle.gather.proofs.shared.SharedShelf.take.Goals as goal
use Rattle.gather.specs.Going.{goes}

pub returns-in-Ok-clause-gained : goal.returns-in-Ok-clause-gained
returns-in-Ok-clause-gained c =
    goes.adds IsNone c.args.seat.now c.take.new.seat c.look_round.new.seat 0 0 0 0
    (goes_on IsNone c.args.seat.now c.take.new.seat (Take c.args.group c.args.want c.in-Ok.granted) tt c.in-Ok.ensures.called)
    (looks_on IsNone c.take.new.seat c.look_round.new.seat c.look_round.ensures.looked)

pub returns-in-Ok-clause-claims : goal.returns-in-Ok-clause-claims
returns-in-Ok-clause-claims c = λ n is.
    taken c.args.seat.now c.take.new.seat c.args.group c.args.want c.in-Ok.granted c.in-Ok.ensures.called n (sym (c.look_round.ensures.looked.sees.claims_are n) ∙ is)

pub returns-in-Ok-clause-granted : goal.returns-in-Ok-clause-granted
returns-in-Ok-clause-granted c = λ n hit.
    let both = granted_there c.args.seat.now c.take.new.seat c.args.group c.args.want c.in-Ok.granted c.in-Ok.ensures.called n hit in
    (both.0, c.look_round.ensures.looked.sees.claims_are n ∙ both.1)

pub returns-in-Ok-clause-rest : goal.returns-in-Ok-clause-rest
returns-in-Ok-clause-rest c =
    rest_there c.args.seat.now c.take.new.seat c.look_round.new.seat c.args.group c.args.want c.in-Ok.granted c.in-Ok.ensures.called c.look_round.ensures.looked

pub returns-in-Err-clause-gained : goal.returns-in-Err-clause-gained
returns-in-Err-clause-gained c = stays_same IsNone c.args.seat.now c.take.new.seat c.in-Err.ensures.same

pub returns-in-Err-clause-claims : goal.returns-in-Err-clause-claims
returns-in-Err-clause-claims c = among_same c.args.seat.now c.take.new.seat c.in-Err.ensures.same

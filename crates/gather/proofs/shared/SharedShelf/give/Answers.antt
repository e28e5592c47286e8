use Rattle.gather.proofs.Sharing.{given, goes_on}
use Rattle.gather.proofs.SeatCommon.{IsNone, Give}
use Rattle.gather.proofs.shared.SharedShelf.give.Goals as goal

pub returns-clause-gained : goal.returns-clause-gained
returns-clause-gained c = goes_on IsNone c.args.seat.now c.give.new.seat (Give c.args.group c.args.mask c.give.result) tt c.give.ensures.called

pub returns-clause-claims : goal.returns-clause-claims
returns-clause-claims c = given c.args.seat.now c.give.new.seat c.args.group c.args.mask c.give.result c.give.ensures.called

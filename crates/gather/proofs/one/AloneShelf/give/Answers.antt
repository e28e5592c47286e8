use Rattle.gather.proofs.Common.{Give}
use Rattle.holders.specs.Holders.{IsNone}
use Rattle.gather.proofs.Alone.{given, worked_one}
use Rattle.gather.proofs.one.AloneShelf.give.Goals as goal

pub returns-clause-gained : goal.returns-clause-gained
returns-clause-gained c = worked_one IsNone c.args.store.now c.give.new.self (Give c.args.group c.args.mask c.give.result) tt c.give.ensures

pub returns-clause-claims : goal.returns-clause-claims
returns-clause-claims c = given c.args.store.now c.give.new.self c.args.group c.args.mask c.give.result c.give.ensures

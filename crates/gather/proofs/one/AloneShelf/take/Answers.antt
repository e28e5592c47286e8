use Rattle.gather.proofs.Alone.{take_claims, take_gains}
use Rattle.gather.proofs.Knowing.{take_granted, take_rest}
use Rattle.gather.proofs.one.AloneShelf.take.Goals as goal

pub returns-clause-gained : goal.returns-clause-gained
returns-clause-gained c = take_gains c.args.store.now c.take.new.self c.args.group c.args.want c.take.result c.take.ensures.ok c.take.ensures.err

pub returns-clause-claims : goal.returns-clause-claims
returns-clause-claims c = take_claims c.args.store.now c.take.new.self c.args.group c.args.want c.take.result c.take.ensures.ok c.take.ensures.err

pub returns-clause-granted : goal.returns-clause-granted
returns-clause-granted c = take_granted c.args.store.now c.take.new.self c.args.group c.args.want c.take.result c.take.ensures.ok

pub returns-clause-rest : goal.returns-clause-rest
returns-clause-rest c = take_rest c.args.store.now c.take.new.self c.args.group c.args.want c.take.result c.take.ensures.ok

use Rattle.store_core.specs.Slots.{caller}
use Rattle.determined_stores.proofs.Agreeing.{gives_agree}
use Rattle.determined_stores.proofs.store.give_determined.Goals as goal

pub returns : goal.returns
returns c =
    gives_agree c.args.a.now c.give.new.self c.args.b.now c.give-2.new.self (caller c.args.seat) c.args.group c.args.mask c.give.result c.give-2.result c.requires c.give.ensures c.give-2.ensures

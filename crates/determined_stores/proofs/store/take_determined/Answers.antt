use Rattle.holders.specs.Room.{groups}
use Rattle.store_core.specs.Slots.{caller}
use Rattle.store_core.specs.Stores.{fixed_of}
use Rattle.determined_stores.proofs.Agreeing.{take_pins, takes_agree}
use Rattle.determined_stores.proofs.store.take_determined.Goals as goal

pub returns : goal.returns
returns c =
    takes_agree c.args.a.now c.take.new.self c.args.b.now c.take-2.new.self (caller c.args.seat) c.args.group c.args.want c.take.result c.take-2.result c.requires
    c.take.ensures.ok c.take-2.ensures.ok
    (take_pins c.args.group (fixed_of c.args.a.now) (fixed_of c.args.b.now) groups c.take.result c.take-2.result c.requires.fixed c.take.ensures.no_group c.take-2.ensures.no_group
    c.take.ensures.never c.take-2.ensures.never c.take.ensures.never_length c.take-2.ensures.never_length)

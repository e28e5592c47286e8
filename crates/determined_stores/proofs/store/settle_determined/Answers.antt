use Rattle.bao_check.specs.Tail.{tail_piece}
use Rattle.determined_stores.proofs.Agreeing.{settles_agree}
use Rattle.determined_stores.proofs.store.settle_determined.Goals as goal

pub returns : goal.returns
returns c =
    settles_agree c.args.a.now c.settle.new.self c.args.b.now c.settle-2.new.self (tail_piece c.args.tail.now) c.settle.result c.settle-2.result c.requires c.settle.ensures.other_root
    c.settle-2.ensures.other_root c.settle.ensures.event c.settle-2.ensures.event

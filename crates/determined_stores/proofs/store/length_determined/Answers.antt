use Rattle.determined_stores.proofs.Agreeing.{lengths_agree}
use Rattle.determined_stores.proofs.store.length_determined.Goals as goal

pub returns : goal.returns
returns c = lengths_agree c.args.a.now c.args.b.now c.length.result c.length-2.result c.requires c.length.ensures.event c.length-2.ensures.event

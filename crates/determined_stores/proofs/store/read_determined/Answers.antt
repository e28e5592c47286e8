use Rattle.determined_stores.proofs.Agreeing.{reads_agree}
use Rattle.determined_stores.proofs.store.read_determined.Goals as goal

pub returns : goal.returns
returns c =
    reads_agree c.args.a.now c.args.b.now c.args.at c.args.ours.now c.args.theirs.now c.read.new.out c.read-2.new.out c.read.result c.read-2.result c.requires.stores c.requires.buffers
    c.read.ensures.event c.read-2.ensures.event

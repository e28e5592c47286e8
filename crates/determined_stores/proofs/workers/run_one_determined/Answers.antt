use Rattle.holders.specs.Holders.{IsHanded}
use Rattle.determined_stores.proofs.Stored.{committed_agree, gains_agree}
use Rattle.determined_stores.proofs.workers.run_one_determined.Goals as goal

pub returns-clause-held : goal.returns-clause-held
returns-clause-held g c =
    gains_agree (IsHanded g.H.Holder.gives) c.args.a.now c.run_one-one.new.store c.args.b.now c.run_one-other.new.store c.args.ours.now c.args.theirs.now c.requires.stores c.requires.holders
    c.run_one-one.ensures.binds c.run_one-other.ensures.binds

pub returns-clause-committed : goal.returns-clause-committed
returns-clause-committed g c =
    committed_agree (IsHanded g.H.Holder.gives) c.args.a.now c.run_one-one.new.store c.args.b.now c.run_one-other.new.store c.args.ours.now c.args.theirs.now
    c.run_one-one.result c.run_one-other.result c.requires.stores c.run_one-one.ensures.worked c.run_one-other.ensures.worked

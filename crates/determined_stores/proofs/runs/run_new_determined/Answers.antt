use Rattle.determined_stores.proofs.Running.{fresh_agree}
use Rattle.determined_stores.proofs.runs.run_new_determined.Goals as goal

pub returns-clause-fresh : goal.returns-clause-fresh
returns-clause-fresh c = λ pieces.
    fresh_agree (record { root = c.args.root; mode = c.args.mode; capacity = c.args.capacity; base = 0 }) pieces c.new-one.result c.new-other.result c.new-one.ensures.fresh
    c.new-other.ensures.fresh

use Rattle.determined_stores.proofs.Running.{stores_same}
use Rattle.determined_stores.proofs.runs.into_store_determined.Goals as goal

pub returns : goal.returns
returns c = λ pieces same. stores_same pieces c.args.a c.args.b c.into_store-one.result c.into_store-other.result same c.into_store-one.ensures.left c.into_store-other.ensures.left

use Rattle.determined_stores.proofs.LoneStoring.{first_made_alone}
use Rattle.determined_stores.proofs.served.first_is_alone.Goals as goal

pub returns : goal.returns
returns c = first_made_alone c.new.result c.new.ensures.view

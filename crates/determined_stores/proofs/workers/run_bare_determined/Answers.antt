use Rattle.determined_stores.proofs.Sums.{answers_agree}
use Rattle.determined_stores.proofs.workers.run_bare_determined.Goals as goal

pub returns : goal.returns
returns g c = answers_agree c.run_bare-one.new.crews c.run_bare-other.new.crews c.run_bare-one.result c.run_bare-other.result c.run_bare-one.ensures.all c.run_bare-other.ensures.all

use Rattle.determined_stores.proofs.Sums.{answers_agree}
use Rattle.determined_stores.proofs.workers.run_determined.Goals as goal

pub returns : goal.returns
returns g c = answers_agree c.run-one.new.crews c.run-other.new.crews c.run-one.result c.run-other.result c.run-one.ensures.all c.run-other.ensures.all

use Rattle.bao_plan.proofs.RunLemmas.{run_or}
use Rattle.bao_plan.proofs.runs.Run.or.Goals as goal

pub returns : goal.returns
returns c = λ group p q x y. rw c.min.ensures (run_or group c.args.self.end c.args.other.end c.args.self.mask c.args.other.mask p q x y)

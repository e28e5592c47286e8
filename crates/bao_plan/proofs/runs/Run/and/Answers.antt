use Rattle.bao_plan.proofs.RunLemmas.{run_and}
use Rattle.bao_plan.proofs.runs.Run.and.Goals as goal

pub returns : goal.returns
returns c = λ group p q x y. rw c.min.ensures (run_and group c.args.self.end c.args.other.end c.args.self.mask c.args.other.mask p q x y)

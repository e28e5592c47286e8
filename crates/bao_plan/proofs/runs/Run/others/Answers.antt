use Rattle.std.proofs.Common.{arith}
use Rattle.bao_plan.proofs.RunLemmas.{run_others}
use Rattle.bao_plan.proofs.runs.Run.others.Goals as goal

pub returns-clause-others : goal.returns-clause-others
returns-clause-others c = λ group p x. run_others group c.args.self.end c.args.self.mask p (omega arith) x

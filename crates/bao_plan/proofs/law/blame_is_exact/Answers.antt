use Rattle.bao_plan.proofs.Histories.{refused_is}
use Rattle.bao_plan.proofs.Rows.{left_out_is}
use Rattle.bao_plan.proofs.law.blame_is_exact.Goals as goal

pub returns-clause-refused : goal.returns-clause-refused
returns-clause-refused c = λ policy n events h k. refused_is policy n events h k

pub returns-clause-left_out : goal.returns-clause-left_out
returns-clause-left_out c = λ policy n events h out. left_out_is policy n events h out

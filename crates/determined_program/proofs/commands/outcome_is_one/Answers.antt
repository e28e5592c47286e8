use Rattle.determined_program.proofs.CommandOutcomes.{one_outcome}
use Rattle.determined_program.proofs.commands.outcome_is_one.Goals as goal

pub returns : goal.returns
returns c = λ at mode task a b ours theirs. one_outcome at mode task a b ours theirs

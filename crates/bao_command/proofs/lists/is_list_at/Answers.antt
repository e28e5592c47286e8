use Rattle.std.proofs.Common.{inr}
use Rattle.bao_command.proofs.lists.is_list_at.Goals as goal

pub returns-else-eq-clause-yes : goal.returns-else-eq-clause-yes
returns-else-eq-clause-yes c = λ is. rw c.in-Some.is (inr (c.is_output.ensures.yes is))

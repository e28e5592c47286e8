use Rattle.std.proofs.Common.{refl}
use Rattle.bao_script.specs.Steps.{fill_steps}
use Rattle.bao_script.proofs.steps.step_count.Goals as goal

pub returns-in-Fill : goal.returns-in-Fill
unfolding fill_steps
returns-in-Fill c = λ piece. rw c.in-Fill.is refl

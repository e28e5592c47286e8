use Rattle.std.proofs.Common.{◌∙◌}
use Rattle.bao_tasks.proofs.missing.lack_by.Goals as goal

pub returns-in-Ok : goal.returns-in-Ok
returns-in-Ok g c = λ is. (c.in-Ok.ensures.total ∙ c.total_for-total.ensures.same is, c.in-Ok.ensures.certified, c.in-Ok.ensures.parts)

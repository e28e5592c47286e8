use Rattle.std.proofs.Common.{◌∙◌}
use Rattle.bao_plan.proofs.RunLemmas.{nth_is}
use Rattle.bao_plan.proofs.runs.nth.Goals as goal

pub returns : goal.returns
returns c = c.copied.ensures ∙ nth_is c.args.runs.now c.args.index c.get.result c.get.ensures.lookup.0 c.get.ensures.lookup.1

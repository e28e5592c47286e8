use Rattle.std.proofs.Common.{◌∙◌}
use Rattle.std.proofs.lemmas.List.{take-replicate}
use Rattle.store_steps.proofs.zeros.zeros.Goals as goal

pub returns : goal.returns
returns c = c.front.ensures ∙ take-replicate c.args.count 1048576 0 c.requires

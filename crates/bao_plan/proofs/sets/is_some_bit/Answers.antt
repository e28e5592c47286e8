use Rattle.std.proofs.Common.{sym}
use Rattle.bao_plan.specs.Sets.{has_bit}
use Rattle.bao_plan.proofs.Any.{any_from}
use Rattle.bao_plan.proofs.sets.is_some_bit.Goals as goal

pub returns-in-Some : goal.returns-in-Some
returns-in-Some c = sym (any_from 64 c.in-Some.field-0 (has_bit c.args.mask) c.in-Some.ensures.0 c.in-Some.ensures.1)

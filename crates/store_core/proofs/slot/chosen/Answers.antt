use Rattle.std.proofs.lemmas.Bool.Decides.{nat_tests}
use Rattle.std.proofs.Common.{arith}
use Rattle.store_core.proofs.Choosing.{up_to_none}
use Rattle.store_core.proofs.slot.chosen.Goals as goal

pub loop-j-init : goal.loop-j-init
loop-j-init c = up_to_none c.args.group _

pub loop-j-preserved : goal.loop-j-preserved
loop-j-preserved c = grind (arith, nat_tests)

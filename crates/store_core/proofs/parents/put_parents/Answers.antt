use Rattle.std.proofs.Common.{get_or-set_same, get_or-set_other, ◌+◌, ◌*◌, arith}
use Rattle.std.proofs.lemmas.Bool.Decides.{nat_tests}
use Rattle.store_core.proofs.parents.put_parents.Goals as goal

pub bounds-parents-m : goal.bounds-parents-m
bounds-parents-m c = grind (arith, nat_tests, c.requires.within (64 * c.args.group + c.loop-j.j))

pub loop-j-preserved : goal.loop-j-preserved
loop-j-preserved c = λ x. grind (arith, nat_tests, c.loop-j.invariant x, c.requires.within (64 * c.args.group + c.loop-j.j), get_or-set_same, get_or-set_other)

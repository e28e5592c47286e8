use Rattle.std.proofs.lemmas.Bool.Decides.{nat_tests}
use Rattle.std.proofs.Common.{arith}
use Rattle.store_core.proofs.Bits.{below_all, below_part}
use Rattle.store_core.proofs.masks.mask_below.Goals as goal

pub returns-then-count : goal.returns-then-count
returns-then-count c = grind (arith, nat_tests, below_part)

pub returns-else-count : goal.returns-else-count
returns-else-count c = record {
  small = omega arith;
  bits = λ k here.
      below_all c.args.group c.args.end c.saturating_sub-count.result k here (omega (arith, c.saturating_sub-count.ensures, c.from.ensures)) (omega arith);
}

use Rattle.std.proofs.Common.{arith}
use Rattle.bao_plan.proofs.Bits.{below_all, below_part}
use Rattle.bao_plan.proofs.sets.mask_below.Goals as goal

pub returns-then-count-lt-GROUP_LEN : goal.returns-then-count-lt-GROUP_LEN
returns-then-count-lt-GROUP_LEN c = λ k here. below_part c.args.group c.args.end c.saturating_sub-count.result k here (omega (arith, c.saturating_sub-count.ensures, c.saturating_mul-start.ensures, c.ranges.end.fits)) (omega arith)

pub returns-else-count-lt-GROUP_LEN : goal.returns-else-count-lt-GROUP_LEN
returns-else-count-lt-GROUP_LEN c = λ k here. below_all c.args.group c.args.end c.saturating_sub-count.result k here (omega (arith, c.saturating_sub-count.ensures, c.saturating_mul-start.ensures, c.ranges.end.fits)) (omega arith)

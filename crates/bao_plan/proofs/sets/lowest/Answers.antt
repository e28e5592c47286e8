use Rattle.std.proofs.Common.{◌∙◌, ap, arith, eq-eqb, w64}
use Rattle.std.proofs.lemmas.Nat.Bits.{bit_at-trailing_zeros}
use Rattle.bao_plan.specs.Sets.{has_bit}
use Rattle.bao_plan.proofs.Any.{any_none_of}
use Rattle.bao_plan.proofs.Bits.{has_bit-zero}
use Rattle.bao_plan.proofs.sets.lowest.Goals as goal

pub returns-then-mask-eq0 : goal.returns-then-mask-eq0
returns-then-mask-eq0 c = any_none_of 64 (has_bit c.args.mask) (λ j _. ap (λ m. has_bit m j) c.if-mask-eq0.true ∙ has_bit-zero j)

pub returns-else-mask-eq0 : goal.returns-else-mask-eq0
unfolding has_bit
returns-else-mask-eq0 c =
    let lowest = bit_at-trailing_zeros w64 c.args.mask (omega arith) c.ranges.mask.fits in
    (lowest.0, eq-eqb _ 1 lowest.1)

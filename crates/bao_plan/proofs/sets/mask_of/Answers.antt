use Rattle.std.proofs.Common.{◌%◌, ◌+◌, ◌&&◌, not, nat_lt, ap, ◌∙◌, arith, w64}
use Rattle.std.specs.Int.{bit_not}
use Rattle.bao_plan.specs.Sets.{has_bit}
use Rattle.bao_plan.proofs.Bits.{has_bit-and, has_bit-not}
use Rattle.bao_plan.proofs.RunLemmas.{in_range_by}
use Rattle.bao_plan.proofs.sets.mask_of.Goals as goal

pub returns : goal.returns
returns c = λ k here.
    has_bit-and c.mask_below.result (bit_not w64 c.mask_below-2.result) (k % 64)
    ∙ (ap (λ b. b && has_bit (bit_not w64 c.mask_below-2.result) (k % 64)) (c.mask_below.ensures k here)
    ∙ (ap (λ b. nat_lt k (c.args.first + c.args.count) && b) (has_bit-not c.mask_below-2.result (k % 64) (omega arith) (omega arith) ∙ ap not (c.mask_below-2.ensures k here))
    ∙ in_range_by c.args.first c.args.count k))

use Rattle.std.proofs.Common.{ap, nat_eq}
use Rattle.std.proofs.lemmas.Nat.Bits.{shr_and_one}
use Rattle.bao_plan.specs.Sets.{has_bit}
use Rattle.bao_plan.proofs.sets.has_bit.Goals as goal

pub returns : goal.returns
unfolding has_bit
returns c = ap (λ x. nat_eq x 1) (shr_and_one c.args.mask c.args.j)

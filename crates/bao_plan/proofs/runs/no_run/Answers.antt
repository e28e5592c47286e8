use Rattle.std.proofs.Common.{◌%◌, arith}
use Rattle.bao_plan.proofs.Bits.{has_bit-zero}
use Rattle.bao_plan.proofs.runs.no_run.Goals as goal

pub returns : goal.returns
returns c = λ group below. record { ahead = omega arith; bits = λ k from to. has_bit-zero (k % 64) }

use Rattle.std.proofs.Common.{◌%◌, ◌∙◌, arith}
use Rattle.std.proofs.lemmas.Bool.{lt-ltb}
use Rattle.bao_plan.proofs.Bits.{has_bit-ones}
use Rattle.bao_plan.proofs.runs.whole_run.Goals as goal

pub returns-clause-all : goal.returns-clause-all
returns-clause-all c = λ group below. record { ahead = below; bits = λ k from to. has_bit-ones 64 (k % 64) ∙ lt-ltb (k % 64) 64 (omega arith) }

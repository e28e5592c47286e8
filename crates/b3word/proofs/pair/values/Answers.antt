use Rattle.std.proofs.Common.{refl, arith}
use Rattle.b3word.proofs.pair.values.Goals as goal

pub returns-clause-first : goal.returns-clause-first
returns-clause-first c = λ h. rw (
  c.xor.ensures 0 (omega arith),
  c.xor.ensures 1 (omega arith),
  c.xor.ensures 2 (omega arith),
  c.xor.ensures 3 (omega arith),
  c.xor-2.ensures 0 (omega arith),
  c.xor-2.ensures 1 (omega arith),
  c.xor-2.ensures 2 (omega arith),
  c.xor-2.ensures 3 (omega arith),
) refl

pub returns-clause-second : goal.returns-clause-second
returns-clause-second c = λ h. rw (
  c.xor.ensures 4 (omega arith),
  c.xor.ensures 5 (omega arith),
  c.xor.ensures 6 (omega arith),
  c.xor.ensures 7 (omega arith),
  c.xor-2.ensures 4 (omega arith),
  c.xor-2.ensures 5 (omega arith),
  c.xor-2.ensures 6 (omega arith),
  c.xor-2.ensures 7 (omega arith),
) refl

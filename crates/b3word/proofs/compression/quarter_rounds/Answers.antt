use Rattle.std.proofs.Common.{refl}
use Rattle.b3word.specs.Compression.{quarter_round}
use Rattle.b3word.proofs.compression.quarter_rounds.Goals as goal

pub returns : goal.returns
unfolding quarter_round
returns c j h =
    rw (
      c.xor_rotated-b2.ensures j h,
      c.add-c2.ensures j h,
      c.xor_rotated-d2.ensures j h,
      c.add-a2.ensures j h,
      c.add-ab1.ensures j h,
      c.xor_rotated-b1.ensures j h,
      c.add-c1.ensures j h,
      c.xor_rotated-d1.ensures j h,
      c.add-a1.ensures j h,
      c.add-ab.ensures j h,
    ) refl

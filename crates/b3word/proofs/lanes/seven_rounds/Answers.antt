use Rattle.std.proofs.Common.{refl}
use Rattle.b3word.specs.Compression.{rounds, round_words}
use Rattle.b3word.proofs.lanes.seven_rounds.Goals as goal

pub returns : goal.returns
unfolding rounds round_words
returns g c j h =
    rw (
      c.round.ensures j h,
      c.round-v6.ensures j h,
      c.round-v5.ensures j h,
      c.round-v4.ensures j h,
      c.round-v3.ensures j h,
      c.round-v2.ensures j h,
      c.round-v1.ensures j h,
      c.permuted-m6.ensures j h,
      c.permuted-m5.ensures j h,
      c.permuted-m4.ensures j h,
      c.permuted-m3.ensures j h,
      c.permuted-m2.ensures j h,
      c.permuted-m1.ensures j h,
    ) refl

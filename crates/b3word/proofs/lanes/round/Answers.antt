use Rattle.b3word.specs.Compression.{g, round}
use Rattle.b3word.proofs.lanes.round.Goals as goal

pub returns : goal.returns
unfolding round g
returns c j h =
    rw (
      ← c.quarter_round.ensures j h,
      ← c.quarter_round-2.ensures j h,
      ← c.quarter_round-3.ensures j h,
      ← c.quarter_round-4.ensures j h,
      ← c.quarter_round-5.ensures j h,
      ← c.quarter_round-6.ensures j h,
      ← c.quarter_round-7.ensures j h,
      ← c.quarter_round-8.ensures j h,
    )

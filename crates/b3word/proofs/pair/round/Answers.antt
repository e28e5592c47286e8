use Rattle.std.proofs.Common.{◌<◌, ℕ, slice_index, refl, ◌∙◌, arith}
use Rattle.b3word.specs.Compression.{g, quarter_round, round}
use Rattle.b3word.proofs.EightLanes.{below_two}
use Rattle.b3word.proofs.pair.round.Goals as goal

pub returns : goal.returns
unfolding round g
returns c =
    let diagonal = λ (j : ℕ) (h : j < 8). c.quarter_round-2.ensures j h
    ∙ (λ i. quarter_round (slice_index c.quarter_round.result.0 j) (slice_index (c.turned.ensures i) j) (slice_index (c.half_turned.ensures i) j)
    (slice_index (c.turned_back.ensures i) j)
    (slice_index c.args.z j) (slice_index c.args.w j)) in
    below_two _
    (rw (
      c.turned_back-2.ensures,
      c.half_turned-2.ensures,
      c.turned-2.ensures,
      ← c.quarter_round.ensures 0 (omega arith),
      ← c.quarter_round.ensures 1 (omega arith),
      ← c.quarter_round.ensures 2 (omega arith),
      ← c.quarter_round.ensures 3 (omega arith),
      ← diagonal 0 (omega arith),
      ← diagonal 1 (omega arith),
      ← diagonal 2 (omega arith),
      ← diagonal 3 (omega arith),
    ) refl)
    (rw (
      c.turned_back-2.ensures,
      c.half_turned-2.ensures,
      c.turned-2.ensures,
      ← c.quarter_round.ensures 4 (omega arith),
      ← c.quarter_round.ensures 5 (omega arith),
      ← c.quarter_round.ensures 6 (omega arith),
      ← c.quarter_round.ensures 7 (omega arith),
      ← diagonal 4 (omega arith),
      ← diagonal 5 (omega arith),
      ← diagonal 6 (omega arith),
      ← diagonal 7 (omega arith),
    ) refl)

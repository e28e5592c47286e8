use Rattle.std.proofs.Common.{◌<◌, ℕ, slice_index, refl, ◌∙◌, arith}
use Rattle.b3word.specs.Compression.{g, quarter_round, round}
use Rattle.b3word.proofs.compression.round.Goals as goal

pub returns : goal.returns
unfolding round g
returns c =
    let diagonal = λ (j : ℕ) (h : j < 4). c.quarter_rounds-2.ensures j h
    ∙ (λ i. quarter_round (slice_index c.quarter_rounds.result.0 j) (slice_index (c.turned.ensures i) j) (slice_index (c.half_turned.ensures i) j)
    (slice_index (c.turned_back.ensures i) j)
    (slice_index c.args.z j) (slice_index c.args.w j)) in
    rw (
      c.turned_back-2.ensures,
      c.half_turned-2.ensures,
      c.turned-2.ensures,
      ← c.quarter_rounds.ensures 0 (omega arith),
      ← c.quarter_rounds.ensures 1 (omega arith),
      ← c.quarter_rounds.ensures 2 (omega arith),
      ← c.quarter_rounds.ensures 3 (omega arith),
      ← diagonal 0 (omega arith),
      ← diagonal 1 (omega arith),
      ← diagonal 2 (omega arith),
      ← diagonal 3 (omega arith),
    ) refl

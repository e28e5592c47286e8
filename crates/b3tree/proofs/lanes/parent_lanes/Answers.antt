use Rattle.std.proofs.Common.{ℕ, ◌∙◌, bit_or, ap}
use Rattle.b3word.specs.Compression.{cv}
use Rattle.b3word.proofs.EightLanes.{splat-at}
use Rattle.b3tree.proofs.lanes.parent_lanes.Goals as goal

pub returns : goal.returns
returns c = λ j h.
    let flags = splat-at (bit_or c.flags.result 4) j h ∙ ap (λ (d : ℕ). bit_or d 4) c.flags.ensures in
    c.cv_lanes.ensures j 0 h (splat-at 0 j h) (splat-at 0 j h)
    ∙ (λ i. cv (record {
      h = c.key_lanes.ensures j h i;
      m = c.joined-m.ensures j h i;
      t = 0;
      b = splat-at 64 j h i;
      d = flags i;
    }))

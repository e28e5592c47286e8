use Rattle.std.proofs.Common.{◌≡◌, ◌<◌, ℕ, ◌+◌, ◌-◌, ◌*◌, List, false, subst, arith}
use Rattle.b3word.specs.Lanes.{lane8}
use Rattle.b3tree.specs.declared.mode.Mode.{Mode}
use Rattle.b3tree.specs.Parents.{lane_parents}
use Rattle.b3tree.specs.Pieces.{lane_place, piece}
use Rattle.b3tree.proofs.Pieces.{IsPowerOfTwo_double}
use Rattle.bao_check.specs.Whole.{HasEight, IsWholeOf, IsWholeText, lane_top, whole_len}
use Rattle.bao_check.proofs.WholeGood.{eight_whole}
use Rattle.bao_check.proofs.whole.is_whole_outline.Goals as goal

pub returns-then-same : goal.returns-then-same
returns-then-same c = λ good number power.
    let mode : Mode = c.args.mode.now in
    let text : List ℕ = c.args.text.now in
    let n : ℕ = c.args.pairs + c.args.pairs in
    let s : ℕ = whole_len false n in
    let step : 128 * c.args.pairs - 64 ≡ s = omega arith in
    let v : ℕ → List ℕ = λ j. lane8 j c.outline_lanes-values.result in
    let has : HasEight text s (lane_parents mode v) = subst (λ (k : ℕ). HasEight text k (lane_parents mode v)) step (c.has_top.ensures.eight good) in
    let each : (j : ℕ) → j < 8 → IsWholeOf false mode (number + n * j) n (v j) (piece text (lane_place 192 s j) s) =
    λ j h. subst (λ (k : ℕ). IsWholeOf false mode (number + n * j) n (v j) (piece text (lane_place 192 k j) s)) step
    (c.outline_lanes-values.ensures.whole c.if-same.true j (number + n * j) power h) in
    let all : 8 * n ≡ 16 * c.args.pairs = omega arith in (
      lane_top mode v,
      c.has_top.ensures.meets good,
      subst (λ (k : ℕ). IsWholeText false mode number k (lane_top mode v) text) all
          (eight_whole false mode text number n v (IsPowerOfTwo_double c.args.pairs power) (omega (arith, c.requires.len, c.requires.some)) each has),
    )

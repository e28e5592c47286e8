use Rattle.std.proofs.Common.{◌<◌, ℕ, ◌+◌, ◌*◌, List, true, arith}
use Rattle.b3word.specs.Lanes.{lane8}
use Rattle.b3tree.specs.declared.mode.Mode.{Mode}
use Rattle.b3tree.specs.Pieces.{lane_place, piece}
use Rattle.bao_check.specs.Whole.{IsWholeOf, lane_top, whole_len}
use Rattle.bao_check.proofs.WholeGood.{eight_whole}
use Rattle.bao_check.proofs.whole.is_whole_text.Goals as goal

pub returns-then-same : goal.returns-then-same
returns-then-same c = λ good power.
    let mode : Mode = c.args.mode.now in
    let text : List ℕ = c.args.text.now in
    let n : ℕ = c.args.chunks in
    let v : ℕ → List ℕ = λ j. lane8 j c.text_lanes-values.result in
    let each : (j : ℕ) → j < 8 → IsWholeOf true mode (c.args.number + n * j) n (v j) (piece text (lane_place 192 (whole_len true n) j) (whole_len true n)) =
    λ j h. c.text_lanes-values.ensures.whole c.if-same.true j power h in (
      lane_top mode v,
      c.has_top.ensures.meets good,
      eight_whole true mode text c.args.number n v power (omega (arith, c.requires.len, c.requires.some)) each (c.has_top.ensures.eight good),
    )

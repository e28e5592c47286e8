use Rattle.std.proofs.Common.{◌≡◌, ℕ, ◌+◌, List, ◌∙◌, arith}
use Rattle.b3word.specs.Compression.{cv}
use Rattle.b3tree.specs.Bytes.{words_of}
use Rattle.b3tree.specs.Pieces.{lane_place, piece}
use Rattle.b3tree.specs.Tree.{parent_input}
use Rattle.bao_check.proofs.text_lanes.told_lanes.Goals as goal

pub returns : goal.returns
returns c = λ j h.
    let text : List ℕ = c.args.text.now in
    let far : lane_place (c.args.at + 32) c.args.step j ≡ lane_place c.args.at c.args.step j + 32 = omega arith in
    let right = c.spaced_values-right.ensures j h ∙ (λ i. words_of 8 (piece text (far i) 32)) in
    c.parent_lanes.ensures j h ∙ (λ i. cv (parent_input c.args.mode.now (c.spaced_values-left.ensures j h i) (right i)))

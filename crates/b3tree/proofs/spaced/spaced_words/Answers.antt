use Rattle.std.proofs.Common.{◌≡◌, ℕ, ◌+◌, List, ◌++◌, ◌∙◌, arith}
use Rattle.b3tree.specs.Bytes.{words_of}
use Rattle.b3tree.specs.Pieces.{lane_place, piece}
use Rattle.b3tree.proofs.spaced.spaced_words.Goals as goal

pub returns : goal.returns
returns c = λ j h.
    let s : List ℕ = c.args.text.now in
    let at : ℕ = lane_place c.args.at c.args.step j in
    let far : lane_place (c.args.at + 32) c.args.step j ≡ at + 32 = omega arith in
    c.joined.ensures j h
    ∙ (λ i. c.spaced_values-front.ensures j h i ++ c.spaced_values-back.ensures j h i)
    ∙ (λ i. words_of 8 (piece s at 32) ++ words_of 8 (piece s (far i) 32))

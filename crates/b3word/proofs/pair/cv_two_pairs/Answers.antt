use Rattle.std.proofs.Common.{◌≡◌, ℕ, List, [], ◌∷◌, take, ◌∙◌, arith}
use Rattle.b3word.specs.declared.input.Input.{Input}
use Rattle.b3word.specs.Compression.{cv, initial_state, out, output_words, rounds}
use Rattle.b3word.proofs.pair.cv_two_pairs.Goals as goal

-- the value of an input, of its state after the rounds
value_of : (x : Input) (start words after value : List ℕ) → start ≡ initial_state x → words ≡ x.m → after ≡ rounds start words 7
    → ((h : List ℕ) → value ≡ take 8 (output_words h after)) → value ≡ cv x
unfolding out
value_of x start words after value at_start at_words at_end is =
    is x.h ∙ (λ i. take 8 (output_words x.h ((at_end ∙ (λ j. rounds (at_start j) (at_words j) 7)) i)))

pub returns : goal.returns
returns c =
    let b = c.seven_rounds_of_both.ensures in
    let of_a = value_of c.args.a.now _ _ _ c.values.result.0 c.initial_state.ensures.first c.paired_rows-m.ensures.first (b.front 0 (omega arith)) c.values.ensures.first in
    let of_b = value_of c.args.b.now _ _ _ c.values.result.1 c.initial_state.ensures.second c.paired_rows-m.ensures.second (b.front 1 (omega arith)) c.values.ensures.second in
    let of_c = value_of c.args.c.now _ _ _ c.values-2.result.0 c.initial_state-2.ensures.first c.paired_rows-n.ensures.first (b.back 0 (omega arith)) c.values-2.ensures.first in
    let of_d = value_of c.args.d.now _ _ _ c.values-2.result.1 c.initial_state-2.ensures.second c.paired_rows-n.ensures.second (b.back 1 (omega arith)) c.values-2.ensures.second in
    λ i. of_a i ∷ of_b i ∷ of_c i ∷ of_d i ∷ []

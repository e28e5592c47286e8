use Rattle.std.proofs.Common.{◌∙◌, ap}
use Rattle.b3word.specs.Compression.{out, output_words, rounds}
use Rattle.b3word.proofs.compression.compress.Goals as goal

pub returns : goal.returns
unfolding out
returns c =
    c.output_words.ensures
    ∙ ap (output_words c.args.input.now.h) (c.seven_rounds-v.ensures ∙ (λ i. rounds (c.initial_state.ensures i) (c.paired_rows.ensures i) 7))

use Rattle.std.proofs.Common.{◌≡◌, ℕ, List, take, ap, ◌∙◌, arith}
use Rattle.b3word.specs.declared.input.Input.{Input}
use Rattle.b3word.specs.Compression.{initial_state, out, output_words, rounds}
use Rattle.b3word.specs.Lanes.{halves, rows}
use Rattle.b3word.proofs.pair.cv_pair.Goals as goal

pub returns-clause-first : goal.returns-clause-first
unfolding out
returns-clause-first g c =
    let x : Input = c.args.a.now in
    let done : rows (halves 0 c.seven_rounds.result) ≡ rounds (initial_state x) x.m 7 =
    c.seven_rounds.ensures 0 (omega arith) ∙ (λ i. rounds (c.initial_state.ensures.first i) (c.paired_rows.ensures.first i) 7) in
    c.values.ensures.first x.h ∙ ap (λ (v : List ℕ). take 8 (output_words x.h v)) done

pub returns-clause-second : goal.returns-clause-second
unfolding out
returns-clause-second g c =
    let x : Input = c.args.b.now in
    let done : rows (halves 1 c.seven_rounds.result) ≡ rounds (initial_state x) x.m 7 =
    c.seven_rounds.ensures 1 (omega arith) ∙ (λ i. rounds (c.initial_state.ensures.second i) (c.paired_rows.ensures.second i) 7) in
    c.values.ensures.second x.h ∙ ap (λ (v : List ℕ). take 8 (output_words x.h v)) done

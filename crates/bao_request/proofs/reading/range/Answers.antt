use Rattle.std.proofs.Common.{ℕ, rules}
use Rattle.clap.specs.Words.{found_of, rows_of}
use Rattle.bao_request.specs.Requests.{GivesRange}
use Rattle.bao_request.proofs.Missing.{nothing}
use Rattle.bao_request.proofs.reading.range.Goals as goal

pub returns-in_err-number : goal.returns-in_err-number
returns-in_err-number c =
    let rows = rows_of (found_of c.args.words.now) in
    nothing (λ (range : ℕ × ℕ). GivesRange rows range.0 range.1) c.from_residual.result (search rules) (λ range a. c.in_err-number.ensures range.0 a.0)

pub returns-in_err-number-2 : goal.returns-in_err-number-2
returns-in_err-number-2 c =
    let rows = rows_of (found_of c.args.words.now) in
    nothing (λ (range : ℕ × ℕ). GivesRange rows range.0 range.1) c.from_residual-in_err-number-2.result (search rules) (λ range a. c.in_err-number-2.ensures range.1 a.1)

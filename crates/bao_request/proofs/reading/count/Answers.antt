use Rattle.std.proofs.Common.{rules}
use Rattle.clap.specs.Words.{found_of, rows_of}
use Rattle.bao_request.specs.Requests.{GivesNumber}
use Rattle.bao_request.proofs.Missing.{nothing, wider}
use Rattle.bao_request.proofs.reading.count.Goals as goal

pub returns-in_err-number : goal.returns-in_err-number
returns-in_err-number c =
    let rows = rows_of (found_of c.args.words.now) in
    nothing (GivesNumber 32 rows c.args.id.now) c.from_residual.result (search rules) (λ n a. c.in_err-number.ensures n (wider rows c.args.id.now n a))

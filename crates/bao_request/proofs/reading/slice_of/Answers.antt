use Rattle.std.proofs.Common.{codes, rules}
use Rattle.clap.specs.Words.{found_of, rows_of}
use Rattle.bao_request.specs.Requests.{GivesTask}
use Rattle.bao_request.proofs.Missing.{no_slice, nothing}
use Rattle.bao_request.proofs.reading.slice_of.Goals as goal

pub returns-in_err-start : goal.returns-in_err-start
returns-in_err-start c =
    let rows = rows_of (found_of c.args.words.now) in
    nothing (GivesTask (codes "slice") rows) c.from_residual.result (search rules) (no_slice rows (λ start len a. c.in_err-start.ensures (start, len) a))

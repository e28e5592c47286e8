use Rattle.std.proofs.Common.{codes, rules}
use Rattle.clap.specs.Words.{found_of, rows_of}
use Rattle.bao_request.specs.Requests.{GivesTask}
use Rattle.bao_request.proofs.Missing.{no_decode_slice, nothing}
use Rattle.bao_request.proofs.reading.decode_slice_of.Goals as goal

pub returns-in_err-start : goal.returns-in_err-start
returns-in_err-start c =
    let rows = rows_of (found_of c.args.words.now) in
    nothing (GivesTask (codes "decode-slice") rows) c.from_residual.result (search rules) (no_decode_slice rows (λ start len root slice out a b file text. c.in_err-start.ensures (start, len) a))

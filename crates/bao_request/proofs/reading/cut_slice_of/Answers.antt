use Rattle.std.proofs.Common.{codes, rules}
use Rattle.clap.specs.Words.{found_of, rows_of}
use Rattle.bao_request.specs.Requests.{GivesTask}
use Rattle.bao_request.proofs.Missing.{no_cut_slice, nothing}
use Rattle.bao_request.proofs.reading.cut_slice_of.Goals as goal

pub returns-in_err-start : goal.returns-in_err-start
returns-in_err-start c =
    let rows = rows_of (found_of c.args.words.now) in
    nothing (GivesTask (codes "cut-slice") rows) c.from_residual.result (search rules) (no_cut_slice rows (λ start len root file out a b d text. c.in_err-start.ensures (start, len) a))

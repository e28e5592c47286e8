use Rattle.std.proofs.Common.{List, ℕ, subst, sym}
use Rattle.clap.specs.Words.{found_of, rows_of}
use Rattle.bao_request.specs.Requests.{Finds, GivesTask}
use Rattle.bao_request.proofs.reading.task_of.Goals as goal

pub returns-in-text : goal.returns-in-text
returns-in-text c =
    subst (λ (name : List ℕ). Finds (GivesTask name (rows_of (found_of c.args.words.now))) c.cut_slice_of.result) (sym c.in-text.is) c.cut_slice_of.ensures

pub returns-in-text-2 : goal.returns-in-text-2
returns-in-text-2 c =
    subst (λ (name : List ℕ). Finds (GivesTask name (rows_of (found_of c.args.words.now))) c.decode_slice_of.result) (sym c.in-text-2.is) c.decode_slice_of.ensures

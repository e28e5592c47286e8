use Rattle.std.proofs.Common.{List, Bor, codes}
use Rattle.clap.specs.Words.{Text, found_of, rows_of}
use Rattle.bao_request.specs.Requests.{GivesTexts}
use Rattle.bao_request.proofs.Missing.{absent, no_info}
use Rattle.bao_request.proofs.reading.info_of.Goals as goal

pub returns-in_default : goal.returns-in_default
returns-in_default c =
    let rows = rows_of (found_of c.args.words.now) in
    no_info rows (λ files. absent (λ (texts : Bor (List (Bor Text))). GivesTexts rows (codes "FILE") texts.now) c.texts.result (record { ref_ptr = c.args.words.ref_ptr; now = files }) c.in_default.is c.texts.ensures)

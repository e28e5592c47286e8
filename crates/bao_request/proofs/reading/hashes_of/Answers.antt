use Rattle.std.proofs.Common.{List, Bor, codes}
use Rattle.clap.specs.Words.{Text, found_of, rows_of}
use Rattle.bao_request.specs.Requests.{GivesNumber, GivesTexts}
use Rattle.bao_request.proofs.Missing.{absent, no_hashes}
use Rattle.bao_request.proofs.reading.hashes_of.Goals.{in_default-via-in-Some+in-Some+in_default, in_default-via-in-Some+in_default, in_default-via-in_default}
use Rattle.bao_request.proofs.reading.hashes_of.Goals as goal

pub returns-in_default : goal.returns-in_default
returns-in_default c =
    let rows = rows_of (found_of c.args.words.now) in
    no_hashes rows (λ at size files from most all many. elim c.in_default.branch [
      | in_default-via-in-Some+in-Some+in_default w ↦
          absent (λ (texts : Bor (List (Bor Text))). GivesTexts rows (codes "FILE") texts.now) c.texts.result (record { ref_ptr = c.args.words.ref_ptr; now = files }) w.in_default.is-2 c.texts.ensures all
      | in_default-via-in-Some+in_default w ↦ absent (GivesNumber 32 rows (codes "length")) c.count.result size w.in_default.is-1 c.count.ensures most
      | in_default-via-in_default w ↦ absent (GivesNumber 64 rows (codes "at")) c.number.result at w.in_default.is-0 c.number.ensures from
    ])

use Rattle.std.proofs.Common.{List, Bor, codes}
use Rattle.clap.specs.Words.{Text, found_of, rows_of}
use Rattle.bao_request.specs.Requests.{GivesNumber, GivesText, GivesTexts}
use Rattle.bao_request.proofs.Missing.{absent, no_gather}
use Rattle.bao_request.proofs.reading.gather_of.Goals.{in_default-via-in-Some+in-Some+in-Some+in-Some+in_default, in_default-via-in-Some+in-Some+in-Some+in_default, in_default-via-in-Some+in-Some+in_default, in_default-via-in-Some+in_default, in_default-via-in_default}
use Rattle.bao_request.proofs.reading.gather_of.Goals as goal

pub returns-in_default : goal.returns-in_default
returns-in_default c =
    let rows = rows_of (found_of c.args.words.now) in
    no_gather rows (λ root out workers capacity files is count most all to. elim c.in_default.branch [
      | in_default-via-in-Some+in-Some+in-Some+in-Some+in_default w ↦
          absent (λ (text : Bor Text). GivesText rows (codes "OUT") text.now) c.text-2.result out w.in_default.is-4 c.text-2.ensures.found to
      | in_default-via-in-Some+in-Some+in-Some+in_default w ↦
          absent (λ (texts : Bor (List (Bor Text))). GivesTexts rows (codes "FILE") texts.now) c.texts.result (record { ref_ptr = root.ref_ptr; now = files }) w.in_default.is-3 c.texts.ensures all
      | in_default-via-in-Some+in-Some+in_default w ↦ absent (GivesNumber 32 rows (codes "capacity")) c.count-2.result capacity w.in_default.is-2 c.count-2.ensures most
      | in_default-via-in-Some+in_default w ↦ absent (GivesNumber 32 rows (codes "workers")) c.count.result workers w.in_default.is-1 c.count.ensures count
      | in_default-via-in_default w ↦ absent (λ (text : Bor Text). GivesText rows (codes "ROOT") text.now) c.text.result root w.in_default.is-0 c.text.ensures.found is
    ])

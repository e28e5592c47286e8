use Rattle.std.proofs.Common.{◌∷◌, [], codes, rules}
use Rattle.clap.specs.Words.{all_of, found_of, rows_of}
use Rattle.bao_request.specs.Requests.{GivesTask}
use Rattle.bao_request.proofs.Missing.{no_hash, not_single, nothing}
use Rattle.bao_request.proofs.reading.hash_of.Goals as goal

pub returns-in_err-number : goal.returns-in_err-number
returns-in_err-number c =
    let rows = rows_of (found_of c.args.words.now) in
    nothing (GivesTask (codes "hash") rows) c.from_residual.result (search rules) (no_hash rows (λ at size file a b text. c.in_err-number.ensures at a))

pub returns-in_err-count : goal.returns-in_err-count
returns-in_err-count c =
    let rows = rows_of (found_of c.args.words.now) in
    nothing (GivesTask (codes "hash") rows) c.from_residual-in_err-count.result (search rules) (no_hash rows (λ at size file a b text. c.in_err-count.ensures size b))

pub returns-in_err-texts : goal.returns-in_err-texts
returns-in_err-texts c =
    let rows = rows_of (found_of c.args.words.now) in
    nothing (GivesTask (codes "hash") rows) c.from_residual-in_err-texts.result (search rules)
    (no_hash rows (λ at size file a b all. c.in_err-texts.ensures (record { ref_ptr = file.ref_ptr; now = file ∷ [] }) all))

pub returns-in_err-single : goal.returns-in_err-single
returns-in_err-single c =
    let rows = rows_of (found_of c.args.words.now) in
    nothing (GivesTask (codes "hash") rows) c.from_residual-in_err-single.result (search rules)
    (no_hash rows (λ at size file a b. not_single (all_of (codes "FILE") rows) c.in_ok-texts.field-0.now file c.in_ok-texts.ensures c.in_err-single.ensures))

use Rattle.std.proofs.Common.{List, ℕ}
use Rattle.std.proofs.lemmas.Result.{err_from_is_err_and}
use Rattle.bao_check.specs.Forms.{form_nodes}
use Rattle.bao_check.proofs.Subtrees.{first_fault, top_accepted, top_stopped, top_trailing}
use Rattle.bao_check.proofs.checks.check_bytes.Goals as goal

pub returns-in_err-at : goal.returns-in_err-at
returns-in_err-at c =
    let p = err_from_is_err_and c.from_residual.result c.from_residual.ensures.1 in
    let root : List ℕ = c.args.root.now.0 in
    let text : List ℕ = c.args.text.now in
    let stop = c.in_err-at.ensures in
    rw (p.1, p.2)
    (first_fault c.args.mode.now root text (form_nodes c.args.form.now text) c.in_err-at.field-0.0 stop.0
    (top_stopped c.args.mode.now root text c.args.form.now c.claimed-total.result c.choice-choice.result c.of_root-asked.result c.if-text-lt-LENGTH_LEN.false c.claimed-total.ensures
    c.choice-choice.ensures c.of_root-asked.ensures c.in_err-at.field-0.0 stop.0 stop.1))

pub returns-then-at-text : goal.returns-then-at-text
returns-then-at-text c =
    top_trailing c.args.mode.now c.args.root.now.0 c.args.text.now c.args.form.now c.claimed-total.result c.choice-choice.result c.of_root-asked.result c.if-text-lt-LENGTH_LEN.false
    c.claimed-total.ensures c.choice-choice.ensures c.of_root-asked.ensures c.in_ok-at.at c.in_ok-at.ensures c.if-at-text.true

pub returns : goal.returns
returns c =
    top_accepted c.args.mode.now c.args.root.now.0 c.args.text.now c.args.form.now c.claimed-total.result c.choice-choice.result c.of_root-asked.result c.if-text-lt-LENGTH_LEN.false
    c.claimed-total.ensures c.choice-choice.ensures c.of_root-asked.ensures c.in_ok-at.at c.in_ok-at.ensures c.if-at-text.false

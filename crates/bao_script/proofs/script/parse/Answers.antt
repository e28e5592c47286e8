use Rattle.std.proofs.Common.{◌≡◌, ◌∙◌, ap, take}
use Rattle.bao_script.proofs.Exits.{same_error}
use Rattle.bao_script.proofs.Reading.{all_read, names_files, read_more, refused_at, texts}
use Rattle.bao_script.specs.Scripts.{numbered}
use Rattle.bao_script.specs.Words.{lines_of}
use Rattle.bao_script.proofs.script.parse.Goals as goal

pub loop-index-preserved : goal.loop-index-preserved
loop-index-preserved c =
    read_more c.args.files c.deref-line-items.result.now c.loop-index.index _ c.loop-index.lines.items c.add_line.new.lines.items
    c.loop-index-test.true c.loop-index.invariant c.in_ok-add_line.ensures.ok

pub returns-in_err-add_line-clause-refused : goal.returns-in_err-add_line-clause-refused
returns-in_err-add_line-clause-refused c number h =
    let lines : texts c.deref-line-items.result.now ≡ lines_of c.args.text.now = ap texts c.deref-line-items.ensures.value ∙ c.in_ok-texts.ensures in
    let refused = c.in_err-add_line.ensures.refused number
    (same_error c.from_residual-in_err-add_line.result c.in_err-add_line.field-0.0 _ c.from_residual-in_err-add_line.ensures.1 h)
    in
    refused_at c.args.files c.args.text.now c.deref-line-items.result.now c.loop-index.index number _ c.loop-index.lines.items lines
    c.loop-index-test.true c.loop-index.invariant refused.0 refused.1

pub returns-clause-script : goal.returns-clause-script
returns-clause-script c =
    let lines : texts c.deref-line-items.result.now ≡ lines_of c.args.text.now = ap texts c.deref-line-items.ensures.value ∙ c.in_ok-texts.ensures in
    all_read c.args.files c.args.text.now c.deref-line-items.result.now c.loop-index.index c.loop-index.lines.items lines
    c.loop-index-test.false c.loop-index.invariant

pub returns-clause-files : goal.returns-clause-files
returns-clause-files c = names_files c.args.files (numbered 1 (take c.loop-index.index (texts c.deref-line-items.result.now))) c.loop-index.lines.items c.loop-index.invariant

use Rattle.std.proofs.Common.{◌==◌, ◌∙◌, ap, map, rules, subst}
use Rattle.std.specs.Slice.Iter.{split_callee, split_done, split_rest}
use Rattle.std.proofs.lemmas.Iterator.Splits.{YieldsList-from_slice_split}
use Rattle.bao_sums.specs.Found.{sum_of}
use Rattle.bao_sums.specs.Sums.{Say}
use Rattle.bao_sums.proofs.Saying.{all_parts, one_line}
use Rattle.bao_sums.proofs.parsing.read_lines.Goals as goal

pub returns : goal.returns
returns c =
    let gives = c.into_iter-line-iterator.ensures.into_iter_gives in
    let all = all_parts c.lines.yielded _ c.lines.yielded_by _ _ c.in-None.is c.next.ensures.steps
    (YieldsList-from_slice_split _ (λ byte. byte == 10) c.args.text.now (ap split_rest gives ∙ c.split-line-items.ensures.rest) (ap split_done gives ∙ c.split-line-items.ensures.done) (ap split_callee gives ∙ c.split-line-items.ensures.closure) (λ x b q h. search rules)) in
    subst (λ ls. Say ls (map sum_of c.lines.lines.items)) all c.lines.invariant

pub lines-preserved : goal.lines-preserved
lines-preserved c = one_line (λ line. line.now) c.lines.yielded c.in-Some.line _ _ c.lines.invariant c.in_ok-add_line.ensures

use Rattle.std.proofs.Common.{◌<◌, ◌/◌, arith, sym, ◌∙◌}
use Rattle.bao_plan.proofs.RunLemmas.{is_below, not_below}
use Rattle.bao_plan.proofs.runs.run_below.Goals as goal

pub returns-then-group-whole : goal.returns-then-group-whole
returns-then-group-whole c =
    let is = c.whole_run.ensures.all c.args.group c.if-group-whole.true in
    record { ahead = is.ahead; bits = λ k from to. is.bits k from to ∙ sym (is_below k c.args.end (omega (arith, to, c.whole_run.ensures.end))) }

pub returns-else-group-whole-2 : goal.returns-else-group-whole-2
returns-else-group-whole-2 c =
    let is = c.no_run.ensures c.args.group c.requires in
    let past : c.args.end / 64 < c.args.group = omega arith in
    record { ahead = is.ahead; bits = λ k from to. is.bits k from to ∙ sym (not_below k c.args.end (omega (arith, from, past))) }

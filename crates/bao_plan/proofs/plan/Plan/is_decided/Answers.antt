use Rattle.std.proofs.Common.{not, sym, ap, ◌∙◌, arith}
use Rattle.std.proofs.lemmas.Bool.{or_from}
use Rattle.bao_plan.proofs.Any.{any_from, any_more, any_none}
use Rattle.bao_plan.proofs.plan.Plan.is_decided.Goals as goal

pub loop-i-init : goal.loop-i-init
loop-i-init c = any_none _

pub loop-i-preserved : goal.loop-i-preserved
loop-i-preserved c = any_more c.loop-i.i _ ∙ or_from _ _ c.loop-i.invariant (ap not (sym c.is_undecided.ensures) ∙ ap not c.if-not-is_undecided.false)

pub returns-then-not-is_undecided : goal.returns-then-not-is_undecided
returns-then-not-is_undecided c = sym (any_from c.args.count c.loop-i.i _ (omega arith) (ap not (sym c.is_undecided.ensures) ∙ ap not c.if-not-is_undecided.true))

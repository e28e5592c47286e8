use Rattle.std.proofs.Common.{◌&&◌, true, false, not, ap, sym, arith, ◌∙◌}
use Rattle.bao_plan.specs.Plans.{state_of}
use Rattle.bao_plan.specs.States.{is_late}
use Rattle.bao_plan.proofs.RunLemmas.{run_is, run_within}
use Rattle.bao_plan.proofs.plan.Plan.late.Goals as goal

pub returns-then-not-overtakes : goal.returns-then-not-overtakes
returns-then-not-overtakes c =
    let s = state_of c.args.self.now in
    run_is c.args.group c.no_run.result (λ k. false) _ (λ k. sym (ap (λ b. b && is_late s c.args.now k) c.if-not-overtakes.true)) (c.no_run.ensures c.args.group c.requires)

pub returns-then-is_late : goal.returns-then-is_late
returns-then-is_late c =
    let s = state_of c.args.self.now in
    run_within c.args.group c.whole_run-unit.result (λ k. true) _ (c.whole_run-unit.ensures.all c.args.group (omega arith))
    (λ k from to. sym (ap (λ b. b && is_late s c.args.now k) c.if-not-overtakes.false ∙ (sym (c.is_late.ensures k (omega (arith, from, to, c.whole_run-unit.ensures.end))) ∙ c.if-is_late.true)))

pub returns-else-is_late : goal.returns-else-is_late
returns-else-is_late c =
    let s = state_of c.args.self.now in
    run_within c.args.group c.others.result (λ k. not true) _ (c.others.ensures.others c.args.group (λ k. true) (c.whole_run-unit.ensures.all c.args.group (omega arith)))
    (λ k from to. sym (ap (λ b. b && is_late s c.args.now k) c.if-not-overtakes.false ∙ (sym (c.is_late.ensures k (omega (arith, from, to, c.others.ensures.end, c.whole_run-unit.ensures.end))) ∙ c.if-is_late.false)))

use Rattle.std.proofs.Common.{◌/◌, ◌∙◌, sym, subst, arith}
use Rattle.bao_plan.specs.Holders.{seen_at}
use Rattle.bao_plan.specs.Sets.{IsRunOf, contains}
use Rattle.bao_plan.specs.States.{HolderState, may_have}
use Rattle.bao_plan.proofs.PlanLemmas.{read_at}
use Rattle.bao_plan.proofs.plan.Plan.is_undecided.Goals as goal

pub returns : goal.returns
returns c =
    let p = c.args.self.now in
    let k = c.args.chunk in
    let may = subst (λ (y : HolderState). IsRunOf (k / 64) c.may_have.result (may_have y)) (sym (read_at p.holders.items c.args.holder c.index.result.now c.requires.holder c.index.ensures)) c.may_have.ensures in
    let is = c.and-run.ensures (k / 64) (contains p.missing.runs.items) (may_have (seen_at p.holders.items c.args.holder)) c.run_at.ensures may in
    c.has_bit.ensures ∙ is.bits k (omega arith) (omega (arith, is.ahead))

use Rattle.std.proofs.Common.{◌∙◌, arith, sym, ap}
use Rattle.bao_plan.specs.States.{HolderState}
use Rattle.bao_plan.proofs.PlanLemmas.{asked_within, read_at}
use Rattle.bao_plan.proofs.plan.Plan.is_request.Goals as goal
use Rattle.bao_plan.proofs.plan.Plan.is_request.Goals.{then-count-eq0-via-then-count-eq0, then-count-eq0-via-else-count-eq0+then-count-end, then-count-eq0-via-else-count-eq0+else-count-end+then-first-end}

pub returns-then-count-eq0-clause-is : goal.returns-then-count-eq0-clause-is
returns-then-count-eq0-clause-is c =
    let p = c.args.self.now in (
      λ h. absurd (cc),
      λ way.
          let within = asked_within p.chunks p.holders.items c.args.holder c.args.first c.args.count c.requires p.asks way.0 way.1 in
          absurd (elim c.then-count-eq0.branch [
            | then-count-eq0-via-then-count-eq0 w ↦ omega (arith, way.0)
            | then-count-eq0-via-else-count-eq0+then-count-end w ↦ omega (arith, within)
            | then-count-eq0-via-else-count-eq0+else-count-end+then-first-end w ↦ omega (arith, within)
          ]),
    )

pub returns-clause-is : goal.returns-clause-is
returns-clause-is c =
    let x = read_at c.args.self.now.holders.items c.args.holder c.index.result.now c.requires c.index.ensures in (
      λ h. (omega arith, λ k is. ap (λ (y : HolderState). y.asked k) x ∙ c.is_asked.ensures.0 h k is),
      λ way. c.is_asked.ensures.1 (λ k is. sym (ap (λ (y : HolderState). y.asked k) x) ∙ way.1 k is),
    )

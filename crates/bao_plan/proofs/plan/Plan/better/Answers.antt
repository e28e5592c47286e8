use Rattle.std.proofs.Common.{◌≡◌, ℕ, ◌+◌, ◌&&◌, ◌||◌, false, ap, sym, subst, arith, ◌∙◌}
use Rattle.bao_plan.specs.Holders.{seen_at}
use Rattle.bao_plan.specs.Sets.{IsRunOf, any_below}
use Rattle.bao_plan.specs.States.{HolderState, is_better, may_have}
use Rattle.bao_plan.proofs.Any.{any_more, any_none}
use Rattle.bao_plan.proofs.PlanLemmas.{read_at}
use Rattle.bao_plan.proofs.RunLemmas.{or-false, run_is}
use Rattle.bao_plan.proofs.plan.Plan.better.Goals as goal
use Rattle.bao_plan.proofs.plan.Plan.better.Goals.{then-is_better, else-is_better}

pub loop-k-init : goal.loop-k-init
loop-k-init c = run_is c.args.group c.no_run-run.result (λ k. false) _ (λ k. sym (any_none _)) (c.no_run-run.ensures c.args.group c.requires)

pub loop-k-preserved : goal.loop-k-preserved
loop-k-preserved c =
    let p = c.args.self.now in
    let hs = p.holders.items in
    let g = c.args.group in
    let i = c.loop-k.k in
    let gives = λ (k j : ℕ). is_better p.policy c.args.now c.args.rank (seen_at hs j) && may_have (seen_at hs j) k in
    let better : is_better p.policy c.args.now c.args.rank (seen_at hs i) ≡ c.is_better.result =
    ap (is_better p.policy c.args.now c.args.rank) (read_at hs i c.index.result.now (omega (arith, p.holders.ok.0)) c.index.ensures) ∙ sym c.is_better.ensures in
    elim c.if-is_better.branch [
      | then-is_better w ↦ (
          let may = subst (λ (y : HolderState). IsRunOf g w.may_have.result (may_have y)) (sym (read_at hs i w.index-then-is_better.result.now (omega (arith, p.holders.ok.0)) w.index-then-is_better.ensures)) w.may_have.ensures in
          subst (λ r. IsRunOf g r (λ k. any_below (i + 1) (gives k))) (sym w.run-is)
          (run_is g w.or-run.result (λ k. any_below i (gives k) || may_have (seen_at hs i) k) _
          (λ k. sym (any_more i (gives k) ∙ ap (λ b. any_below i (gives k) || (b && may_have (seen_at hs i) k)) (better ∙ w.if-is_better.true)))
          (w.or-run.ensures g (λ k. any_below i (gives k)) (may_have (seen_at hs i)) c.loop-k.invariant may)))
      | else-is_better w ↦ subst (λ r. IsRunOf g r (λ k. any_below (i + 1) (gives k))) (sym w.run-is)
          (run_is g c.loop-k.run (λ k. any_below i (gives k)) _
          (λ k. sym (any_more i (gives k) ∙ (ap (λ b. any_below i (gives k) || (b && may_have (seen_at hs i) k)) (better ∙ w.if-is_better.false) ∙ or-false (any_below i (gives k)))))
          c.loop-k.invariant)
    ]

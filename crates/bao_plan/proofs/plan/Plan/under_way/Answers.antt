use Rattle.std.proofs.Common.{ℕ, ◌||◌, false, sym, subst, arith}
use Rattle.bao_plan.specs.Holders.{seen_at}
use Rattle.bao_plan.specs.Sets.{IsRunOf, any_below}
use Rattle.bao_plan.specs.States.{HolderState}
use Rattle.bao_plan.proofs.Any.{any_more, any_none}
use Rattle.bao_plan.proofs.PlanLemmas.{read_at}
use Rattle.bao_plan.proofs.RunLemmas.{run_is}
use Rattle.bao_plan.proofs.plan.Plan.under_way.Goals as goal

pub loop-k-init : goal.loop-k-init
loop-k-init c = run_is c.args.group c.no_run-run.result (λ k. false) _ (λ k. sym (any_none _)) (c.no_run-run.ensures c.args.group c.requires)

pub loop-k-preserved : goal.loop-k-preserved
loop-k-preserved c =
    let hs = c.args.self.now.holders.items in
    let g = c.args.group in
    let asked = λ (k i : ℕ). (seen_at hs i).asked k in
    let one = subst (λ (y : HolderState). IsRunOf g c.is_asked_from.result y.asked) (sym (read_at hs c.loop-k.k c.index.result.now (omega (arith, c.args.self.now.holders.ok.0)) c.index.ensures)) c.is_asked_from.ensures in
    run_is g c.or-run.result (λ k. any_below c.loop-k.k (asked k) || asked k c.loop-k.k) _ (λ k. sym (any_more c.loop-k.k (asked k)))
    (c.or-run.ensures g (λ k. any_below c.loop-k.k (asked k)) (seen_at hs c.loop-k.k).asked c.loop-k.invariant one)

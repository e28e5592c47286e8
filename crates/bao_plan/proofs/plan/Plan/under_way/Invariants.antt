use Rattle.bao_plan.specs.Holders.{seen_at}
use Rattle.bao_plan.specs.Sets.{IsRunOf, any_below}
use Rattle.bao_plan.proofs.plan.Plan.under_way.Given as goal

abbrev pub invariant-loop-k : goal.invariant-loop-k
invariant-loop-k l = IsRunOf l.group l.run (λ c. any_below l.k (λ k. (seen_at l.self.holders.items k).asked c))

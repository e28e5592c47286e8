use Rattle.std.proofs.Common.{◌&&◌}
use Rattle.bao_plan.specs.Holders.{seen_at}
use Rattle.bao_plan.specs.Sets.{IsRunOf, any_below}
use Rattle.bao_plan.specs.States.{is_better, may_have}
use Rattle.bao_plan.proofs.plan.Plan.better.Given as goal

abbrev pub invariant-loop-k : goal.invariant-loop-k
invariant-loop-k l = IsRunOf l.group l.run (λ c. any_below l.k (λ k. is_better l.self.policy l.now l.rank (seen_at l.self.holders.items k) && may_have (seen_at l.self.holders.items k) c))

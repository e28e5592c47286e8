use Rattle.std.proofs.Common.{not}
use Rattle.bao_plan.specs.Sets.{contains}
use Rattle.bao_plan.proofs.holder.Holder.may_have.Goals as goal

pub returns : goal.returns
returns c =
    let refused = contains c.args.self.now.refused.runs.items in
    let absent = contains c.args.self.now.absent.runs.items in
    c.and.ensures c.args.group (λ k. not (refused k)) (λ k. not (absent k)) (c.others.ensures.others c.args.group refused c.run_at-refused.ensures) (c.others-2.ensures.others c.args.group absent c.run_at-absent.ensures)

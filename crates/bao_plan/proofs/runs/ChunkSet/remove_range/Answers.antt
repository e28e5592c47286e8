use Rattle.std.proofs.Common.{◌∙◌, ◌/◌, ◌&&◌, not, nat_lt, ap, sym, arith}
use Rattle.bao_plan.specs.Sets.{contains, in_mask, in_range}
use Rattle.bao_plan.proofs.RunLemmas.{masked_range, range_all, range_none, step_and_not, and-true}
use Rattle.bao_plan.proofs.runs.ChunkSet.remove_range.Goals as goal

pub loop-group-init : goal.loop-group-init
loop-group-init c = λ k.
    let old = c.args.self.now.runs.items in
    sym (ap (λ b. contains old k && not b) (range_none c.args.first c.args.count k) ∙ and-true (contains old k))

pub loop-group-preserved : goal.loop-group-preserved
loop-group-preserved c = λ k.
    let old = c.args.self.now.runs.items in
    c.in_ok-remove_all.ensures.ok k ∙ (ap (λ x. x && not (in_mask c.loop-group.group c.mask_of.result k)) (c.loop-group.invariant k)
    ∙ (ap (λ b. (contains old k && not (in_range c.args.first c.args.count k && nat_lt (k / 64) c.loop-group.group)) && not b) (masked_range c.args.first c.args.count c.loop-group.group c.mask_of.result k c.mask_of.ensures)
    ∙ step_and_not (contains old k) (in_range c.args.first c.args.count k) (k / 64) c.loop-group.group))

pub returns : goal.returns
returns c = λ k.
    let old = c.args.self.now.runs.items in
    c.loop-group.invariant k ∙ ap (λ b. contains old k && not b) (range_all c.args.first c.args.count c.loop-group.group k (λ below. omega (arith, below, c.loop-group-test.false, c.div_ceil-group-end.ensures)))

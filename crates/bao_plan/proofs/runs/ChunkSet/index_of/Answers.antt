use Rattle.std.proofs.Common.{◌+◌, ◌-◌, ◌/◌, ◌<◌, ℕ, length, sym, arith}
use Rattle.bao_plan.proofs.RunLemmas.{before_middle, from_middle, index_is}
use Rattle.bao_plan.proofs.runs.ChunkSet.index_of.Goals as goal

pub returns : goal.returns
returns c =
    let is = c.halves.invariant in
    sym (index_is c.args.self.now.runs.items c.halves.low c.args.group (omega (arith, is.order, is.most)) is.below (λ d within. is.above c.halves.low d c.halves-test.false within))

pub halves-preserved : goal.halves-preserved
halves-preserved c =
    let is = c.halves.invariant in
    let middle : ℕ = c.halves.low + (c.halves.high - c.halves.low) / 2 in
    let within : middle < length c.args.self.now.runs.items = omega (arith, is.order, is.most, c.halves-test.true) in
    record {
      order = omega (arith, is.order, c.halves-test.true);
      most = is.most;
      below = λ k d less. before_middle c.args.self.now.runs.items middle k c.args.group c.index.result.now d c.args.self.now.sorted c.index.ensures c.if-group-index.false within (omega (arith, less));
      above = is.above;
    }

pub halves-preserved-then-group-index : goal.halves-preserved-then-group-index
halves-preserved-then-group-index c =
    let is = c.halves.invariant in
    record {
      order = omega (arith, is.order);
      most = omega (arith, is.order, is.most, c.halves-test.true);
      below = is.below;
      above = λ k d from less. from_middle c.args.self.now.runs.items (c.halves.low + (c.halves.high - c.halves.low) / 2) k c.args.group c.index.result.now d c.args.self.now.sorted c.index.ensures c.if-group-index.true less from;
    }

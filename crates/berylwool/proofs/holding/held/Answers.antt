use Rattle.std.proofs.Common.{arith}
use Rattle.berylwool.specs.Holding.{LooksAt}
use Rattle.berylwool.proofs.EachGroup.{each_next, each_none}
use Rattle.berylwool.proofs.HeldBits.{next_bits}
use Rattle.berylwool.proofs.holding.held.Goals as goal

pub loop-j-init : goal.loop-j-init
loop-j-init c = (c.requires, each_none _ c.args.seat.now.view, omega arith)

pub loop-j-preserved : goal.loop-j-preserved
loop-j-preserved c = (
  c.look-mask.ensures.of,
  each_next (LooksAt c.args.group) c.loop-j.j c.loop-j.mask c.look-mask.result c.args.seat.now.view c.loop-j.seat.view c.look-mask.new.seat.view c.loop-j.invariant.1 c.look-mask.ensures.looks,
  next_bits c.loop-j.j c.loop-j.mask c.look-mask.result c.loop-j.invariant.2 c.look-mask.ensures.bound,
)

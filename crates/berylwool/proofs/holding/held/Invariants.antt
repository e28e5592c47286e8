use Rattle.std.proofs.Common.{◌^◌, ◌<◌}
use Rattle.store_shared.specs.Seats.{IsSeatOf}
use Rattle.berylwool.specs.Holding.{LooksAt}
use Rattle.berylwool.specs.Storing.{EachGroup}
use Rattle.berylwool.proofs.holding.held.Given as goal

abbrev pub invariant-loop-j : goal.invariant-loop-j
invariant-loop-j l = IsSeatOf l.store l.seat × EachGroup (LooksAt l.group) l.j l.mask l.fn.seat.view l.seat.view × (l.mask < 2 ^ l.j)

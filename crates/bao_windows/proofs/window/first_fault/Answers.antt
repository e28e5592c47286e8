use Rattle.std.proofs.Common.{sym}
use Rattle.bao_windows.proofs.window.first_fault.Goals as goal

pub returns-in-Some-clause-some : goal.returns-in-Some-clause-some
returns-in-Some-clause-some c = record {
  number = c.loop-slot.slot-index;
  slot = c.slot-item.result;
  below = c.loop-slot-test.true;
  there = sym c.slot-item.is;
  is = c.in-Some.is;
}

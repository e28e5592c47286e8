use Rattle.std.proofs.Common.{suc, refl, arith}
use Rattle.b3tree.proofs.hasher.whole_chunks.Goals as goal

pub doubled-init : goal.doubled-init
doubled-init c = record {
  whole = (3, refl);
  eighths = refl;
  some = omega arith;
  place = c.requires.before;
  within = omega (arith, c.requires.len);
}

pub doubled-preserved : goal.doubled-preserved
doubled-preserved c = record {
  whole = (suc c.doubled.invariant.whole.0, omega (arith, c.doubled.invariant.whole.1));
  eighths = omega (arith, c.doubled.invariant.eighths);
  some = omega (arith, c.doubled.invariant.some);
  place = omega arith;
  within = omega arith;
}

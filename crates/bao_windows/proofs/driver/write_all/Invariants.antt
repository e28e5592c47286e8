use Rattle.std.proofs.Common.{◌≡◌, ◌⊎◌, ◌-◌, ◌%◌, ◌<◌, ◌≤◌, length}
use Rattle.bao_windows.specs.Windows.{AreOfWindow, IsFrom, fixed_for}
use Rattle.bao_windows.specs.Written.{WroteOf}
use Rattle.bao_windows.proofs.driver.write_all.Given as goal

abbrev pub invariant-windows : goal.invariant-windows
invariant-windows g l = record {
  place : l.at ≤ l.total;
  aligned : (l.at % 65536 ≡ 0) ⊎ (l.at ≡ l.total);
  some : 0 < length l.window.items;
  more : 0 < length l.next.items;
  whole : l.at < l.total → AreOfWindow (IsFrom l.wanted g.S.Source.contents g.S.Source.faultless l.sources) (fixed_for l.wanted) l.at l.total l.window.items;
  wrote : WroteOf (IsFrom l.wanted g.S.Source.contents g.S.Source.faultless l.sources) (fixed_for l.wanted) l.total 0 l.at
      (g.W.Write.contents l.initial.out) (g.W.Write.contents l.out) l.initial.hasher l.hasher;
}

abbrev pub decreases-windows : goal.decreases-windows
decreases-windows g l = l.total - l.at

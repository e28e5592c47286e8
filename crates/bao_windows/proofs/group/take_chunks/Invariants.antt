use Rattle.std.proofs.Common.{◌≡◌, ◌⊎◌, ◌-◌, ◌%◌, ◌≤◌}
use Rattle.bao_windows.specs.Windows.{Adds, IsFrom, fixed_for}
use Rattle.bao_windows.proofs.group.take_chunks.Given as goal

abbrev pub invariant-chunks : goal.invariant-chunks
invariant-chunks g l = record {
  within : l.came ≤ l.part.len;
  step : (l.came % 1024 ≡ 0) ⊎ (l.came ≡ l.part.len);
  done : Adds (IsFrom l.wanted g.S.Source.contents g.S.Source.faultless l.sources) (fixed_for l.wanted) l.part.start l.came l.initial.slot.bytes.items l.slot.bytes.items;
}

abbrev pub decreases-chunks : goal.decreases-chunks
decreases-chunks g l = l.part.len - l.came

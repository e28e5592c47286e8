use Rattle.std.proofs.Common.{◌≡◌, ◌⊎◌, ◌-◌, ◌%◌, ◌≤◌}
use Rattle.bao_windows.specs.Windows.{AddsOf}
use Rattle.bao_windows.proofs.appending.append_chunks.Given as goal

abbrev pub invariant-chunks : goal.invariant-chunks
invariant-chunks l = record {
  within : l.came ≤ l.len;
  step : (l.came % 1024 ≡ 0) ⊎ (l.came ≡ l.len);
  done : AddsOf l.piece l.at l.came l.initial.into.items l.into.items;
}

abbrev pub decreases-chunks : goal.decreases-chunks
decreases-chunks l = l.len - l.came

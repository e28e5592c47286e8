use Rattle.std.proofs.Common.{◌-◌, ℕ, ◌<◌, ◌≤◌, length, slice_index_or}
use Rattle.bao_plan.specs.declared.runs.Run.{Run}
use Rattle.bao_plan.proofs.runs.ChunkSet.index_of.Given as goal

abbrev pub invariant-halves : goal.invariant-halves
invariant-halves l = record {
  order : l.low ≤ l.high;
  most : l.high ≤ length l.self.runs.items;
  below : (k : ℕ) (d : Run) → k < l.low → (slice_index_or l.self.runs.items k d).end ≤ l.group;
  above : (k : ℕ) (d : Run) → l.high ≤ k → k < length l.self.runs.items → l.group < (slice_index_or l.self.runs.items k d).end;
}

abbrev pub decreases-halves : goal.decreases-halves
decreases-halves l = l.high - l.low

use Rattle.std.proofs.Common.{◌≡◌, ℕ, ◌/◌, nat_lt, ◌&&◌, ◌||◌}
use Rattle.bao_plan.specs.Sets.{contains, in_range}
use Rattle.bao_plan.proofs.runs.ChunkSet.insert_range.Given as goal

abbrev pub invariant-loop-group : goal.invariant-loop-group
invariant-loop-group l = (c : ℕ) → contains l.self.runs.items c ≡ (contains l.initial.self.runs.items c || (in_range l.first l.count c && nat_lt (c / 64) l.group))

use Rattle.std.proofs.Common.{◌≡◌, ℕ, true}
use Rattle.bao_plan.specs.Sets.{contains, in_range}
use Rattle.bao_plan.proofs.runs.ChunkSet.has_range.Given as goal

abbrev pub invariant-loop-i : goal.invariant-loop-i
invariant-loop-i l = (c : ℕ) → in_range l.first l.i c ≡ true → contains l.self.runs.items c ≡ true

use Rattle.std.proofs.Common.{ℕ, ◌<◌}
use Rattle.bao_tasks.specs.Missing.{HasUnit}
use Rattle.bao_tasks.specs.Worth.{IsSaidOf}
use Rattle.bao_tasks.proofs.missing.lacks_first.Given as goal

-- those that were asked for are lacked
abbrev pub invariant-loop-first : goal.invariant-loop-first
invariant-loop-first g l = IsSaidOf (g.S.Source.contents l.source) (g.S.Source.faultless l.source) (λ bytes. (u : ℕ) → u < l.first → ¬ HasUnit l.wanted u bytes)

use Rattle.std.proofs.Common.{◌≡◌, ℕ, ◌<◌, None, Some, slice_get}
use Rattle.bao_tasks.specs.Missing.{JudgesClaim}
use Rattle.bao_tasks.specs.Worth.{IsSaidOf}
use Rattle.bao_tasks.proofs.missing.first_claim.Given as goal

-- those that were asked claim no length that stands
abbrev pub invariant-loop-source : goal.invariant-loop-source
invariant-loop-source g l =
    (k : ℕ) (source : g.row.S.Denot) → k < l.source-index → slice_get l.sources k ≡ Some source
    → IsSaidOf (g.S.Source.contents source) (g.S.Source.faultless source) (λ text. JudgesClaim l.wanted text None)

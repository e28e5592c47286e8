use Rattle.std.proofs.Common.{◌≡◌, ℕ, ◌<◌, Some, slice_get}
use Rattle.bao_tasks.specs.Missing.{HasUnit}
use Rattle.bao_tasks.specs.Worth.{IsSaidOf}
use Rattle.bao_tasks.proofs.missing.is_lacked.Given as goal

-- those that were asked lack it
abbrev pub invariant-loop-source : goal.invariant-loop-source
invariant-loop-source g l =
    (i : ℕ) (source : g.row.S.Denot) → i < l.source-index → slice_get l.sources i ≡ Some source
    → IsSaidOf (g.S.Source.contents source) (g.S.Source.faultless source) (λ bytes. ¬ HasUnit l.wanted l.unit bytes)

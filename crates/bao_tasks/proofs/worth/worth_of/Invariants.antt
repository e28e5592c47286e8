use Rattle.std.proofs.Common.{◌≤◌}
use Rattle.bao_tasks.specs.Worth.{HasGroup, IsSaidOf, Refuses}
use Rattle.bao_tasks.proofs.worth.worth_of.Given as goal

abbrev pub invariant-loop-group : goal.invariant-loop-group
invariant-loop-group g l =
    IsSaidOf (g.S.Source.contents l.source) (g.S.Source.faultless l.source) (λ bytes. Refuses (HasGroup l.wanted.form l.wanted.mode l.wanted.root.0 bytes) l.group l.refused) × (l.refused ≤ l.group)

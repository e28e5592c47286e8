use Rattle.std.proofs.Common.{ℕ, ◌-◌, ◌<◌, ◌≤◌}
use Rattle.bao_tasks.specs.Missing.{JudgesUnit}
use Rattle.bao_tasks.proofs.missing.up_to.Given as goal

-- the units so far have the verdict that isn't looked for
abbrev pub invariant-units : goal.invariant-units
invariant-units g l =
    (l.from ≤ l.at) × (l.at ≤ l.units) × ((u : ℕ) → l.from ≤ u → u < l.at → JudgesUnit g.S.Source.contents g.S.Source.faultless l.wanted l.sources u l.lacked)

abbrev pub decreases-units : goal.decreases-units
decreases-units g l = l.units - l.at

use Rattle.holders.proofs.Common.{◌≤◌, ◌-◌}
use Rattle.holders.specs.Reads.{ReadFrom}
use Rattle.holders.proofs.places.PlacedPlaces.append.Given as goal

abbrev pub invariant-reads : goal.invariant-reads
invariant-reads g l = (l.came ≤ l.len) × ReadFrom (g.S.Source.contents l.self.source.now) l.at l.initial.into.items l.into.items l.came

abbrev pub decreases-reads : goal.decreases-reads
decreases-reads g l = l.len - l.came

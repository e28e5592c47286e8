use Rattle.std.proofs.Common.{length, ◌-◌, ◌≤◌, take}
use Rattle.b3par.specs.Given.{GivenAt}
use Rattle.b3par.proofs.pieces.fill.Given as goal

abbrev pub invariant-reads : goal.invariant-reads
invariant-reads g l = (l.filled ≤ length l.buf) × (length l.buf ≤ length l.initial.buf) × GivenAt (g.S.Source.contents l.source) l.at (take l.filled l.buf)

abbrev pub decreases-reads : goal.decreases-reads
decreases-reads g l = length l.initial.buf - l.filled

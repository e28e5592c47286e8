use Rattle.std.proofs.Common.{◌≡◌, length, ◌-◌, ◌≤◌, take}
use Rattle.b3par.specs.Given.{GivenAt}
use Rattle.bao_decode.specs.Forward.{Reaches}
use Rattle.bao_decode.proofs.copy_pass.fill_most.Given as goal

abbrev pub invariant-reads : goal.invariant-reads
invariant-reads g l = (l.filled ≤ length l.buf) × (length l.buf ≡ length l.initial.buf) × (Reaches (g.F.Forward.contents l.source) (g.F.Forward.anywhere l.source) l.at → GivenAt (g.F.Forward.contents l.source) l.at (take l.filled l.buf))

abbrev pub decreases-reads : goal.decreases-reads
decreases-reads g l = length l.initial.buf - l.filled

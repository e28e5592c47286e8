use Rattle.std.proofs.Common.{◌≡◌, length, ◌-◌, ◌≤◌, take}
use Rattle.std.specs.Io.KnownBytes.{Consumes}
use Rattle.bao_files.proofs.key.read_start.Given as goal

abbrev pub invariant-reads : goal.invariant-reads
invariant-reads g l =
    (l.filled ≤ length l.room) × (length l.room ≡ length l.initial.room) × Consumes (g.R.Read.remaining l.initial.reader) (g.R.Read.remaining l.reader) (take l.filled l.room)

abbrev pub decreases-reads : goal.decreases-reads
decreases-reads g l = length l.initial.room - l.filled

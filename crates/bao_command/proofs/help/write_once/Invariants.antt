use Rattle.std.proofs.Common.{◌-◌, ◌≤◌, length, take}
use Rattle.std.specs.Io.KnownBytes.{Appends}
use Rattle.bao_command.proofs.help.write_once.Given as goal

abbrev pub invariant-writes : goal.invariant-writes
invariant-writes g l = (l.written ≤ length l.text) × Appends (g.W.Write.contents l.initial.out) (g.W.Write.contents l.out) (take l.written l.text)

abbrev pub decreases-writes : goal.decreases-writes
decreases-writes g l = length l.text - l.written

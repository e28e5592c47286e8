use Rattle.std.proofs.Common.{sym}
use Rattle.bao_command.proofs.gathering.tell_part.Goals as goal

pub returns : goal.returns
returns g c = rw (sym c.last_of-last.ensures) c.writeln.ensures.bytes

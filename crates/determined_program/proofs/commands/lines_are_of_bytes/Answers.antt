use Rattle.determined_program.proofs.Below.{right_bytes}
use Rattle.determined_program.proofs.commands.lines_are_of_bytes.Goals as goal

pub returns : goal.returns
returns c = right_bytes

use Rattle.std.proofs.Common.{map, string_bytes}
use Rattle.determined_program.proofs.Good.{not_usage}
use Rattle.determined_program.proofs.commands.good_command_runs.Goals as goal

pub returns : goal.returns
returns g c = λ two.
    not_usage (g.D.Disk.at c.args.disk.now) c.requires.known (map string_bytes c.args.words.now) c.requires.asked c.requires.some c.requires.taken (c.command.ensures.usage c.requires.one two)

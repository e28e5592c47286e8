use Rattle.std.proofs.Common.{map, string_bytes}
use Rattle.determined_program.proofs.Apart.{not_done, not_left}
use Rattle.determined_program.proofs.commands.write_over_read_refused.Goals as goal

pub returns-clause-status : goal.returns-clause-status
returns-clause-status g c = λ is.
    not_done (map string_bytes c.args.words.now) (g.D.Disk.at c.args.disk.now) (g.D.Disk.at c.command.new.disk) (g.O.Write.contents c.args.out.now) (g.O.Write.contents c.command.new.out) c.requires.asked c.requires.work (c.command.ensures.done c.requires.one is)

pub returns-clause-files : goal.returns-clause-files
returns-clause-files g c =
    not_left (map string_bytes c.args.words.now) (g.D.Disk.at c.args.disk.now) (g.D.Disk.at c.command.new.disk) c.command.result c.requires.asked (c.command.ensures.files (returns-clause-status g c))

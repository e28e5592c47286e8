use Rattle.std.proofs.Common.{arith, map, string_bytes}
use Rattle.determined_program.proofs.Apart.{usage_left}
use Rattle.determined_program.proofs.commands.usage_changes_none.Goals as goal

pub returns : goal.returns
returns g c = λ two.
    usage_left (map string_bytes c.args.words.now) (g.D.Disk.at c.args.disk.now) (g.D.Disk.at c.command.new.disk) c.command.result two (c.command.ensures.files (λ none. omega (arith, two, none)))

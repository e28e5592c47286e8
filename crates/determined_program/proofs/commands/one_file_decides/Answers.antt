use Rattle.std.proofs.Common.{inl, inr, map, string_bytes}
use Rattle.determined_program.proofs.CommandOutcomes.{ran_done, ran_refused}
use Rattle.determined_program.proofs.commands.one_file_decides.Goals as goal

pub returns : goal.returns
returns g c = λ status.
    let words = map string_bytes c.args.words.now in
    let at = g.D.Disk.at c.args.disk.now in
    let after = g.D.Disk.at c.command.new.disk in
    let old = g.O.Write.contents c.args.out.now in
    let new = g.O.Write.contents c.command.new.out in
    elim status [
      | inl is ↦ ran_done words at after old new c.requires.known c.requires.asked c.requires.work c.command.result is (c.command.ensures.done c.requires.one is)
      | inr is ↦ ran_refused words at after old new c.requires.known c.requires.asked c.requires.short (g.D.Disk.faultless c.args.disk.now) c.command.result is (c.command.ensures.refusal c.requires.one is)
    ]

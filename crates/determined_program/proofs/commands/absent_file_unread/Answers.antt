use Rattle.std.proofs.Common.{inl, inr, map, string_bytes}
use Rattle.std.proofs.lemmas.Bool.Decides.{eqb_tells}
use Rattle.determined_program.proofs.Absent.{all_kept, never_begun, never_done, never_refused}
use Rattle.determined_program.proofs.commands.absent_file_unread.Goals as goal

pub returns-clause-status : goal.returns-clause-status
returns-clause-status g c =
    let words = map string_bytes c.args.words.now in
    let at = g.D.Disk.at c.args.disk.now in
    let after = g.D.Disk.at c.command.new.disk in
    let old = g.O.Write.contents c.args.out.now in
    let new = g.O.Write.contents c.command.new.out in (
      λ is. never_done at words after old new c.requires.asked c.requires.work (c.command.ensures.done c.requires.one is),
      λ is. never_refused at words after old new c.requires.asked c.requires.work (g.D.Disk.faultless c.args.disk.now) (c.command.ensures.refusal c.requires.one is),
    )

pub returns-clause-files : goal.returns-clause-files
returns-clause-files g c =
    all_kept (g.D.Disk.at c.args.disk.now) (map string_bytes c.args.words.now) (g.D.Disk.at c.command.new.disk) (g.O.Write.contents c.args.out.now) (g.O.Write.contents c.command.new.out)
    c.requires.asked c.requires.work c.command.result (c.command.ensures.files (returns-clause-status g c).0)

pub returns-clause-kept : goal.returns-clause-kept
returns-clause-kept g c = elim (eqb_tells c.command.result 3) [
  | inl same ↦
      never_begun (g.D.Disk.at c.args.disk.now) (map string_bytes c.args.words.now) (g.D.Disk.at c.command.new.disk) (g.O.Write.contents c.args.out.now) (g.O.Write.contents c.command.new.out)
      c.requires.asked c.requires.work (c.command.ensures.file_fault c.requires.one same.1)
  | inr apart ↦ c.command.ensures.fault c.requires.one (returns-clause-status g c).0 apart.1
]

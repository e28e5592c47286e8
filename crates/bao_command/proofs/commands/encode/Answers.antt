use Rattle.std.proofs.Common.{ℕ, List, subst, sym}
use Rattle.b3tree.specs.Hashing.{hash as hash_of}
use Rattle.bao_files.specs.Printed as file
use Rattle.bao_files.specs.Printed.{digits_line}
use Rattle.bao_command.specs.Printed.{CommandPrints}
use Rattle.bao_command.specs.Works.{EncodesRight}
use Rattle.bao_command.proofs.Telling.{leaves_after, on_printed, told_prints}
use Rattle.bao_command.proofs.commands.encode.Goals as goal

pub returns-in-Ok-clause-prints : goal.returns-in-Ok-clause-prints
returns-in-Ok-clause-prints g c =
    let made = c.in-Ok.ensures.done in
    let line : List ℕ = digits_line (hash_of c.args.mode.now made.0) in
    let old = g.O.Write.contents c.args.out.now in
    let new = g.O.Write.contents c.print_digits.new.out in
    let printed = subst (λ (h : List ℕ). file.Prints (digits_line h) old new c.print_digits.result) made.2 c.print_digits.ensures.prints in
    let told = told_prints line old new c.print_digits.result printed in
    (made.0, on_printed c.told.result (made.1, made.3), subst (CommandPrints line old new) (sym c.told.ensures.prints) told)

pub returns-in-Ok-clause-files : goal.returns-in-Ok-clause-files
returns-in-Ok-clause-files g c =
    let made = c.in-Ok.ensures.done in
    let at = g.D.Disk.at c.args.disk.now in
    let after = g.D.Disk.at c.encode_on.new.disk in
    leaves_after at after (EncodesRight at after c.args.mode.now c.args.encoding c.args.file.now c.args.path.now) c.told.result c.told.ensures.file made.0 (made.1, made.3)

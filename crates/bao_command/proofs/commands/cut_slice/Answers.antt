use Rattle.std.proofs.Common.{ℕ, List, subst, sym}
use Rattle.bao_files.specs.Printed as file
use Rattle.bao_text.specs.declared.kinds.Part.TheVariants.{Slice}
use Rattle.bao_command.specs.Printed.{CommandPrints}
use Rattle.bao_command.specs.Tasks.{part_line}
use Rattle.bao_command.specs.Works.{CutsRight}
use Rattle.bao_command.proofs.Telling.{leaves_after, no_refusal, of_file_or, on_printed, told_prints}
use Rattle.bao_command.proofs.commands.cut_slice.Goals as goal

pub returns-in-Ok-clause-due : goal.returns-in-Ok-clause-due
returns-in-Ok-clause-due g c = of_file_or _ c.told.result c.told.ensures.file

pub returns-in-Ok-clause-refused : goal.returns-in-Ok-clause-refused
returns-in-Ok-clause-refused g c = no_refusal _ c.told.result c.told.ensures.file

pub returns-in-Ok-clause-prints : goal.returns-in-Ok-clause-prints
returns-in-Ok-clause-prints g c =
    let part = Slice c.args.start c.args.len in
    let made = c.in-Ok.ensures.done in
    let line : List ℕ = part_line part made.0 in
    let old = g.O.Write.contents c.args.out.now in
    let new = g.O.Write.contents c.print_count.new.out in
    let at = g.D.Disk.at c.args.disk.now in
    let after = g.D.Disk.at c.slice_of.new.disk in
    let right : CutsRight at after c.args.mode.now c.args.digits.now c.args.start c.args.len c.args.outboard c.args.file.now c.args.path.now made.0 =
    (((c.in_ok-root.root.0, (c.in_ok-root.ensures.ok, made.2)), made.1), made.4) in
    let printed = subst (λ (n : ℕ). file.Prints (file.ok_line n) old new c.print_count.result) made.3 c.print_count.ensures.prints in
    let told = told_prints line old new c.print_count.result printed in
    (made.0, on_printed c.told.result right, subst (CommandPrints line old new) (sym c.told.ensures.prints) told)

pub returns-in-Ok-clause-files : goal.returns-in-Ok-clause-files
returns-in-Ok-clause-files g c =
    let made = c.in-Ok.ensures.done in
    let at = g.D.Disk.at c.args.disk.now in
    let after = g.D.Disk.at c.slice_of.new.disk in
    leaves_after at after (CutsRight at after c.args.mode.now c.args.digits.now c.args.start c.args.len c.args.outboard c.args.file.now c.args.path.now) c.told.result c.told.ensures.file
    made.0 (((c.in_ok-root.root.0, (c.in_ok-root.ensures.ok, made.2)), made.1), made.4)

use Rattle.bao_files.specs.Printed.{digits_line}
use Rattle.determined_program.proofs.Writers.{prints_agree}
use Rattle.determined_program.proofs.printing.print_digits_determined.Goals as goal

pub returns-clause-written : goal.returns-clause-written
returns-clause-written g c =
    prints_agree (digits_line c.args.bytes.now) (g.V.Write.contents c.args.ours.now) (g.W.Write.contents c.args.theirs.now) (g.V.Write.contents c.print_digits.new.out) (g.W.Write.contents c.print_digits-2.new.out)
    c.print_digits.result c.print_digits-2.result c.requires c.print_digits.ensures.prints c.print_digits-2.ensures.prints

use Rattle.bao_files.specs.Printed.{ok_line}
use Rattle.determined_program.proofs.Writers.{prints_agree}
use Rattle.determined_program.proofs.printing.print_count_determined.Goals as goal

pub returns-clause-written : goal.returns-clause-written
returns-clause-written g c =
    prints_agree (ok_line c.args.count) (g.V.Write.contents c.args.ours.now) (g.W.Write.contents c.args.theirs.now) (g.V.Write.contents c.print_count.new.out) (g.W.Write.contents c.print_count-2.new.out)
    c.print_count.result c.print_count-2.result c.requires c.print_count.ensures.prints c.print_count-2.ensures.prints

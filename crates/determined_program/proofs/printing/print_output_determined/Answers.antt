use Rattle.b3tree.specs.Hashing.{stream}
use Rattle.bao_files.specs.Printed.{digits_line}
use Rattle.determined_program.proofs.Writers.{prints_agree}
use Rattle.determined_program.proofs.printing.print_output_determined.Goals as goal

pub returns-clause-written : goal.returns-clause-written
returns-clause-written g c mode s holds also =
    prints_agree (digits_line (stream mode s c.args.at c.args.len)) (g.V.Write.contents c.args.ours.now) (g.W.Write.contents c.args.theirs.now)
    (g.V.Write.contents c.print_output.new.out) (g.W.Write.contents c.print_output-2.new.out) c.print_output.result c.print_output-2.result c.requires.same
    (c.print_output.ensures.prints mode s holds) (c.print_output-2.ensures.prints mode s also)

use Rattle.determined_program.proofs.Writers.{prints_agree}
use Rattle.determined_program.proofs.printing.print_text_determined.Goals as goal

pub returns-clause-written : goal.returns-clause-written
returns-clause-written g c =
    prints_agree c.args.text.now (g.V.Write.contents c.args.ours.now) (g.W.Write.contents c.args.theirs.now) (g.V.Write.contents c.print_text.new.out) (g.W.Write.contents c.print_text-2.new.out)
    c.print_text.result c.print_text-2.result c.requires c.print_text.ensures.prints c.print_text-2.ensures.prints

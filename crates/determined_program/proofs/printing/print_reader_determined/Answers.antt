use Rattle.std.proofs.Common.{List, ℕ}
use Rattle.b3tree.specs.Hashing.{stream}
use Rattle.bao_files.specs.Printed.{digits_line}
use Rattle.determined_program.proofs.Writers.{read_prints_agree}
use Rattle.determined_program.proofs.printing.print_reader_determined.Goals as goal

pub returns : goal.returns
returns g c =
    read_prints_agree (λ (left : List ℕ). digits_line (stream c.args.mode.now left c.args.at c.args.len)) (g.R.Read.remaining c.args.a.now) (g.S.Read.remaining c.args.b.now)
    (g.V.Write.contents c.args.ours.now) (g.W.Write.contents c.args.theirs.now) (g.V.Write.contents c.print_reader.new.out) (g.W.Write.contents c.print_reader-2.new.out)
    c.print_reader.result c.print_reader-2.result c.requires.left c.requires.same c.print_reader.ensures.all c.print_reader-2.ensures.all

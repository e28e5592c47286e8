use Rattle.std.proofs.Common.{ℕ, List, ◌∙◌, sym}
use Rattle.b3tree.specs.Hashing.{stream}
use Rattle.bao_files.specs.Printed.{digits_line}
use Rattle.determined_program.proofs.OnDisks.{printed_of}
use Rattle.determined_program.proofs.Writers.{prints_agree}
use Rattle.determined_program.proofs.printing.print_file_determined.Goals as goal

pub returns : goal.returns
returns g c = λ s is.
    let line : List ℕ → List ℕ = λ bytes. digits_line (stream c.args.mode.now bytes c.args.at c.args.len) in
    let old = g.V.Write.contents c.args.ours.now in
    let also = g.W.Write.contents c.args.theirs.now in
    let a = g.V.Write.contents c.print_file.new.out in
    let b = g.W.Write.contents c.print_file-2.new.out in
    prints_agree (line s) old also a b c.print_file.result c.print_file-2.result c.requires.same
    (printed_of line (g.D.Disk.at c.args.our_disk.now c.args.file.now) s old a c.print_file.result is c.print_file.ensures.prints)
    (printed_of line (g.E.Disk.at c.args.their_disk.now c.args.file.now) s also b c.print_file-2.result (sym c.requires.files ∙ is) c.print_file-2.ensures.prints)

use Rattle.std.proofs.Common.{IfSome, List, ℕ}
use Rattle.b3tree.specs.Hashing.{stream}
use Rattle.bao_files.specs.Printed.{IsQuiet, Prints, digits_line}
use Rattle.determined_program.specs.Files.{SameWritten}
use Rattle.determined_program.proofs.Writers.{both_inputs, prints_agree}
use Rattle.determined_program.proofs.printing.print_input_determined.Goals as goal

pub returns : goal.returns
returns g c =
    let line : List ℕ → List ℕ = λ s. digits_line (stream c.args.mode.now s c.args.at c.args.len) in
    let old = g.V.Write.contents c.args.ours.now in
    let also = g.W.Write.contents c.args.theirs.now in
    let a = g.V.Write.contents c.print_input.new.out in
    let b = g.W.Write.contents c.print_input-2.new.out in
    let r = c.print_input.result in
    let s = c.print_input-2.result in
    both_inputs (g.I.Source.contents c.args.a.now) (g.J.Source.contents c.args.b.now) (g.I.Read.remaining c.args.a.now) (g.J.Read.remaining c.args.b.now)
    (λ bytes. Prints (line bytes) old a r) (λ bytes. Prints (line bytes) also b s) (λ bytes. IfSome old (λ xs. SameWritten IsQuiet a b r s)) c.requires.contents c.requires.left
    (λ bytes p q. prints_agree (line bytes) old also a b r s c.requires.same p q) c.print_input.ensures.all c.print_input-2.ensures.all

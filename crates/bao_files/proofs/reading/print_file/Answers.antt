use Rattle.std.proofs.Common.{ℕ, List, subst, sym}
use Rattle.b3tree.specs.Hashing.{stream}
use Rattle.bao_files.specs.Disks.{Opens}
use Rattle.bao_files.specs.Printed.{Prints, digits_line}
use Rattle.bao_files.proofs.Disks.{of_file}
use Rattle.bao_files.proofs.Hashes.{on_output}
use Rattle.bao_files.proofs.reading.print_file.Goals as goal

pub returns-clause-prints : goal.returns-clause-prints
returns-clause-prints g c =
    let state = g.D.Disk.at c.args.disk.now c.args.file.now in
    let line : List ℕ → List ℕ = λ s. digits_line (stream c.args.mode.now s c.args.at c.args.len) in
    let input = c.over-input.result.source in
    let opened = subst (λ i. Opens state (g.D.Input.Source.contents i) (g.D.Input.Read.remaining i)) (sym c.over-input.ensures) c.in_ok-input.ensures.opened in
    let made =
    of_file state (g.D.Input.Source.contents input) (g.D.Input.Read.remaining input)
    (λ s. Prints (line s) (g.W.Write.contents c.args.out.now) (g.W.Write.contents c.print_input.new.out) c.print_input.result) opened
    c.print_input.ensures.all c.print_input.ensures.some in
    (made.0, on_output c.print_input.result made.1, made.2)

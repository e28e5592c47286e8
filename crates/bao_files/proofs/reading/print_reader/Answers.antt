use Rattle.std.proofs.Common.{ℕ, List}
use Rattle.std.proofs.KnownBytes.{Keeps-refl}
use Rattle.bao_files.proofs.Results.{if_some, with_some}
use Rattle.bao_files.proofs.reading.print_reader.Goals as goal

pub returns-in-Ok-clause-all : goal.returns-in-Ok-clause-all
returns-in-Ok-clause-all g c =
    with_some (g.R.Read.remaining c.args.reader.now) _ (λ left holds. c.print_output.ensures.prints c.args.mode.now left holds) c.in-Ok.ensures.all

pub returns-in-Ok-clause-some : goal.returns-in-Ok-clause-some
returns-in-Ok-clause-some g c =
    let bytes : List ℕ = c.in-Ok.ensures.some.0 in
    (bytes, c.in-Ok.ensures.some.1, c.print_output.ensures.prints c.args.mode.now bytes c.in-Ok.ensures.some.2)

pub returns-clause-all : goal.returns-clause-all
returns-clause-all g c = if_some (g.R.Read.remaining c.args.reader.now) (λ left. Keeps-refl (g.W.Write.contents c.args.out.now))

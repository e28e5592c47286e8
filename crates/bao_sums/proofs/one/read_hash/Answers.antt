use Rattle.bao_files.proofs.Results.{with_some}
use Rattle.bao_sums.proofs.one.read_hash.Goals as goal

pub returns-in-Ok-clause-all : goal.returns-in-Ok-clause-all
returns-in-Ok-clause-all g c =
    with_some (g.I.Read.remaining c.args.input.now) _ (λ left holds. c.finalize.ensures c.args.mode.now left holds) c.in-Ok.ensures.all

pub returns-in-Ok-clause-some : goal.returns-in-Ok-clause-some
returns-in-Ok-clause-some g c =
    let some = c.in-Ok.ensures.some in (some.0, some.1, c.finalize.ensures c.args.mode.now some.0 some.2)

use Rattle.gather.proofs.SeatCommon.{IsTrue, sym, subst, Mode, IsKeyed, accepted_binds, are_longer, made_of, served, Report, IsAnswered, fixed_of}
use Rattle.gather.proofs.Summing.{all_fill, answered_all, each_then, each_wider, failed_all, large_all, seats_bind}
use Rattle.gather.proofs.runs.run_as.Goals as goal

pub returns-clause-each : goal.returns-clause-each
returns-clause-each g c = each_then c.args.assembly.now (made_of c.args.form.now g.H.Holder.gives) g.H.Holder.count _ _ _ c.first_round.ensures
    (each_wider _ _ _ _ (λ x y closes. closes.worked) c.last_round.ensures)

pub returns-clause-binds : goal.returns-clause-binds
returns-clause-binds g c = seats_bind _ _ _ _ _ (subst (λ (mode : Mode). IsKeyed mode) c.mode.ensures c.is_keyed.ensures) (returns-clause-each g c)

pub returns-clause-failed : goal.returns-clause-failed
returns-clause-failed g c = rw c.all_reports.ensures (failed_all _ _ _ _ _ (returns-clause-each g c))

pub returns-clause-answered : goal.returns-clause-answered
returns-clause-answered g c = subst (λ (report : Report). IsAnswered report) (sym c.all_reports.ensures) (answered_all _ _ _ _ _ (returns-clause-each g c))

pub returns-clause-too_large : goal.returns-clause-too_large
returns-clause-too_large g c = λ large.
    large_all _ _ _ _ _ c.requires.of (returns-clause-each g c) (subst (λ (report : Report). IsTrue report.too_large) c.all_reports.ensures large)

pub returns-clause-longer : goal.returns-clause-longer
returns-clause-longer g c = λ large.
    are_longer accepted_binds _ (fixed_of c.args.assembly.now) (subst (λ (mode : Mode). IsKeyed mode) c.mode.ensures c.is_keyed.ensures) (returns-clause-too_large g c large)

pub returns-clause-available : goal.returns-clause-available
returns-clause-available g c = λ blob is first room for.
    all_fill c.args.assembly.now c.args.form.now g.H.Holder.gives g.H.Holder.count blob _ _ _ for
    (served (fixed_of c.args.assembly.now) blob (subst (λ (mode : Mode). IsKeyed mode) c.mode.ensures c.is_keyed.ensures) is first room c.args.assembly.now.words.limit) c.first_round.ensures
    c.last_round.ensures

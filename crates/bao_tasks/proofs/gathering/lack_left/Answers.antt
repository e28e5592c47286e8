use Rattle.std.proofs.Common.{List, inr, subst}
use Rattle.bao_tasks.specs.Givens.{shown_contents, shown_faultless}
use Rattle.bao_tasks.specs.Missing.{IsLackOf}
use Rattle.bao_files.specs.declared.shown.Shown.{Shown}
use Rattle.bao_tasks.proofs.gathering.lack_left.Goals as goal

pub returns-in-Some-Unfinished-clause-lack : goal.returns-in-Some-Unfinished-clause-lack
returns-in-Some-Unfinished-clause-lack g c = λ met starved.
    let contents = shown_contents {P = g.row.P.Denot} g.S.Source.contents in
    let faultless = shown_faultless {P = g.row.P.Denot} g.S.Source.faultless in
    let how = c.args.how.now in
    inr
    (subst (λ (sources : List (Shown g.row.S.Denot g.row.P.Denot)). IsLackOf contents faultless how.wanted sources how.parts c.lack_of.result) c.as_slice.ensures.value
    c.lack_of.ensures)

use Rattle.std.proofs.Common.{List, inr, subst}
use Rattle.bao_windows.specs.Available.{IsFirstEnd}
use Rattle.bao_tasks.specs.Givens.{shown_contents, shown_faultless}
use Rattle.bao_tasks.proofs.gathering.reach.Goals as goal

pub returns-in-Ok : goal.returns-in-Ok
returns-in-Ok g c =
    let contents = shown_contents {P = g.row.P.Denot} g.S.Source.contents in
    let faultless = shown_faultless {P = g.row.P.Denot} g.S.Source.faultless in
    let first : IsFirstEnd contents faultless c.args.how.now.wanted c.args.taken.now.givens.items c.in-Ok.len =
    subst (λ (sources : List _). IsFirstEnd contents faultless c.args.how.now.wanted sources c.in-Ok.len) c.as_slice.ensures.value c.in-Ok.ensures.certified in
    inr (first.place, first.certifies)

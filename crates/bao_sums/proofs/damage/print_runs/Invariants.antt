use Rattle.bao_sums.specs.Damage.{AreJudged, range_line}
use Rattle.bao_sums.specs.Judged.{JudgesGroupOf}
use Rattle.bao_sums.proofs.Runs.{IsSoFar}
use Rattle.bao_sums.proofs.damage.print_runs.Given as goal

-- the groups so far were judged, and the lines that their verdicts end were printed
abbrev pub invariant-groups : goal.invariant-groups
invariant-groups g l =
    let Judges = JudgesGroupOf (g.S.Source.faultless l.outboard × g.S.Source.faultless l.copy) (g.S.Source.contents l.outboard) (g.S.Source.contents l.copy) l.mode l.root.0 in
    AreJudged Judges l.round.first l.round.had.items × IsSoFar Judges (range_line l.path l.total) (g.O.Write.contents l.initial.out) (g.O.Write.contents l.out) l.since l.group

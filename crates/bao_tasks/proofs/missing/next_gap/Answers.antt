use Rattle.bao_tasks.specs.Missing.{JudgesUnit}
use Rattle.bao_tasks.proofs.Gaps.{gap_of}
use Rattle.bao_tasks.proofs.missing.next_gap.Goals as goal

pub returns-clause-some : goal.returns-clause-some
returns-clause-some g c =
    gap_of (JudgesUnit g.S.Source.contents g.S.Source.faultless c.args.wanted.now c.args.sources.now) c.args.units c.args.from c.in_ok-first.first c.in_ok-end.end
    c.in_ok-first.ensures c.if-first-units.false c.in_ok-end.ensures

use Rattle.bao_sums.specs.Judged.{JudgesGroupOf}
use Rattle.bao_sums.proofs.Runs.{judged_at, judged_first}
use Rattle.bao_sums.proofs.damage.next_verdict.Goals as goal

pub returns-in-Some-clause-verdict : goal.returns-in-Some-clause-verdict
returns-in-Some-clause-verdict g c =
    let Judges = JudgesGroupOf (g.S.Source.faultless c.args.outboard.now × g.S.Source.faultless c.args.copy.now) (g.S.Source.contents c.args.outboard.now) (g.S.Source.contents c.args.copy.now)
    c.args.mode.now c.args.root.now.0 in
    judged_at Judges c.args.round.now.had.items c.args.round.now.first c.args.group c.in-Some.has c.requires.judged c.in-Some.ensures.0 c.in-Some.ensures.1

pub returns-clause-verdict : goal.returns-clause-verdict
returns-clause-verdict g c =
    let Judges = JudgesGroupOf (g.S.Source.faultless c.args.outboard.now × g.S.Source.faultless c.args.copy.now) (g.S.Source.contents c.args.outboard.now) (g.S.Source.contents c.args.copy.now)
    c.args.mode.now c.args.root.now.0 in
    judged_first Judges c.in_ok-next.next.had.items c.args.group c.index-has.result.now c.in_ok-next.ensures.judged c.in_ok-next.ensures.first.1 c.index-has.ensures

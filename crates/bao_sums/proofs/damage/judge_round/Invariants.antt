use Rattle.std.proofs.Common.{◌≡◌, ◌-◌, length}
use Rattle.bao_sums.specs.Damage.{AreJudged}
use Rattle.bao_sums.specs.Judged.{JudgesGroupOf, share_start}
use Rattle.bao_sums.proofs.damage.judge_round.Given as goal

-- the verdicts of the shares so far
abbrev pub invariant-shares : goal.invariant-shares
invariant-shares g l =
    (length l.had.items ≡ share_start l.first l.end l.share-index - l.first)
    × AreJudged (JudgesGroupOf (g.S.Source.faultless l.outboard × g.S.Source.faultless l.copy) (g.S.Source.contents l.outboard) (g.S.Source.contents l.copy) l.mode l.root.0) l.first l.had.items

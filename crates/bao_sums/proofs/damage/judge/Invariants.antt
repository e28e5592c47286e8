use Rattle.std.proofs.Common.{◌≡◌, ◌+◌, length}
use Rattle.bao_sums.specs.Damage.{AreJudged}
use Rattle.bao_sums.specs.Judged.{JudgesGroupOf}
use Rattle.bao_sums.proofs.damage.judge.Given as goal

-- the groups so far were judged
abbrev pub invariant-groups : goal.invariant-groups
invariant-groups g l = record {
  long : l.first + length l.had.items ≡ l.group;
  judged : AreJudged (JudgesGroupOf (g.S.Source.faultless l.outboard × g.S.Source.faultless l.copy) (g.S.Source.contents l.outboard) (g.S.Source.contents l.copy) l.mode l.root.0) l.first l.had.items;
}

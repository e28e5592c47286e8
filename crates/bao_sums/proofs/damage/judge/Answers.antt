use Rattle.std.proofs.Common.{◌≡◌, [], ◌∷◌, ◌++◌, Bool, List, length, ap, sym, subst, arith, length-append}
use Rattle.bao_sums.specs.Damage.{AreJudged}
use Rattle.bao_sums.specs.Judged.{JudgesGroupOf}
use Rattle.bao_sums.proofs.Runs.{judged_push}
use Rattle.bao_sums.proofs.damage.judge.Goals as goal

pub groups-preserved : goal.groups-preserved
groups-preserved g c =
    let Judges = JudgesGroupOf (g.S.Source.faultless c.args.outboard.now × g.S.Source.faultless c.args.copy.now) (g.S.Source.contents c.args.outboard.now) (g.S.Source.contents c.args.copy.now)
    c.args.mode.now c.args.root.now.0 in
    let had : List Bool = c.groups.had.items in
    let has : Bool = c.has_group-has.result in
    let items : c.push.new.self.items ≡ had ++ has ∷ [] = c.in_ok-push.ensures.items in
    record {
      long = omega (arith, c.groups.invariant.long, ap (λ (xs : List Bool). length xs) items, length-append had (has ∷ []));
      judged = subst (AreJudged Judges c.args.first) (sym items)
          (judged_push Judges c.args.first c.groups.group had has c.groups.invariant.judged (omega (arith, c.groups.invariant.long)) c.has_group-has.ensures);
    }

use Rattle.std.proofs.Common.{◌≡◌, Bool, false, true, not, refl, subst, arith}
use mathlib.Core.Bool.{beq}
use Rattle.bao_tasks.specs.Missing.{JudgesUnit}
use Rattle.bao_tasks.proofs.Gaps.{one_more}
use Rattle.bao_tasks.proofs.missing.up_to.Goals as goal

same_verdict : (a b : Bool) → not (beq a b) ≡ false → a ≡ b
same_verdict false false is = refl
same_verdict true true is = refl
same_verdict false true is = cc
same_verdict true false is = cc

other_verdict : (a b : Bool) → not (beq a b) ≡ true → a ≡ not b
other_verdict false false is = cc
other_verdict true true is = cc
other_verdict false true is = refl
other_verdict true false is = refl

pub units-preserved : goal.units-preserved
units-preserved g c =
    let judges = λ (b : Bool). JudgesUnit g.S.Source.contents g.S.Source.faultless c.args.wanted.now c.args.sources.now c.units.at b in
    let same = same_verdict c.in_ok-is_lacked.field-0 c.args.lacked c.if-branch-lacked.false in (
      omega (arith, c.units.invariant.0),
      omega (arith, c.units-test.true),
      one_more (JudgesUnit g.S.Source.contents g.S.Source.faultless c.args.wanted.now c.args.sources.now) c.args.units c.args.lacked c.args.from c.units.at c.units.invariant.2
          (subst judges same c.in_ok-is_lacked.ensures),
    )

pub returns-then-branch-lacked : goal.returns-then-branch-lacked
returns-then-branch-lacked g c =
    let judges = λ (b : Bool). JudgesUnit g.S.Source.contents g.S.Source.faultless c.args.wanted.now c.args.sources.now c.units.at b in
    let other = other_verdict c.in_ok-is_lacked.field-0 c.args.lacked c.if-branch-lacked.true in
    record { after = c.units.invariant.0; within = c.units.invariant.1; same = c.units.invariant.2; next = λ below. subst judges other c.in_ok-is_lacked.ensures }

pub returns : goal.returns
returns g c =
    record { after = c.units.invariant.0; within = c.units.invariant.1; same = c.units.invariant.2; next = λ below. absurd (omega (arith, below, c.units-test.false)) }

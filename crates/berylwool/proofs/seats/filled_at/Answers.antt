use Rattle.std.proofs.Common.{◌∙◌, ℕ, ap, arith, inr, subst, sym}
use Rattle.std.specs.Prelude.{None, Some}
use Rattle.holders.specs.declared.fixed.Fixed.{Fixed}
use Rattle.berylwool.specs.Calls.{LacksAt, ReadsAt}
use Rattle.berylwool.proofs.SeatCalls.{reads_at}
use Rattle.berylwool.proofs.seats.filled_at.Goals as goal

pub returns-in-Ok-clause-all : goal.returns-in-Ok-clause-all
returns-in-Ok-clause-all c = λ _.
    subst (λ (b : ℕ). ReadsAt b c.args.at c.args.out.now c.read.new.out None c.args.seat.now c.read.new.seat) c.base-base.ensures
    (reads_at c.base-base.result c.args.at c.args.out.now c.read.new.out None c.args.seat.now c.read.new.seat (omega (arith, c.if-at-base.false))
    (ap (λ (f : Fixed). f.base) c.in-Ok.ensures.of.knows.fixed_is ∙ sym c.base-base.ensures) c.in-Ok.ensures.event c.in-Ok.ensures.binds)

pub returns-in-Err-clause-part : goal.returns-in-Err-clause-part
returns-in-Err-clause-part c = λ _.
    subst (λ (b : ℕ). LacksAt b c.args.at c.args.out.now c.read.new.out c.saturating_add.result c.args.seat.now c.read.new.seat) c.base-base.ensures
    (inr (
      c.in-Err.place.0,
      reads_at c.base-base.result c.args.at c.args.out.now c.read.new.out (Some c.in-Err.place.0) c.args.seat.now c.read.new.seat
          (omega (arith, c.if-at-base.false)) (ap (λ (f : Fixed). f.base) c.in-Err.ensures.of.knows.fixed_is ∙ sym c.base-base.ensures) c.in-Err.ensures.event c.in-Err.ensures.binds,
      c.saturating_add.ensures,
    ))

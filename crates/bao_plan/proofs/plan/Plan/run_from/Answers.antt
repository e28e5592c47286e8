use Rattle.std.proofs.Common.{◌≡◌, ◌+◌, ◌-◌, ◌*◌, true, false, ap, sym, ◌∙◌, arith, inl, inr}
use Rattle.std.proofs.lemmas.Bool.{cases_lt}
use Rattle.bao_plan.specs.Plans.{state_of}
use Rattle.bao_plan.specs.States.{is_ready}
use Rattle.bao_plan.proofs.PlanLemmas.{ready_is_open}
use Rattle.bao_plan.proofs.plan.Plan.run_from.Goals as goal

pub loop-group-init : goal.loop-group-init
loop-group-init c =
    let end = c.row_end-end.result in
    let is = c.row_end-end.ensures in
    record {
      some = elim (cases_lt c.args.first end) [
        | inl some ↦ some
        | inr none ↦ absurd (let e : end ≡ c.args.first = omega (arith, none, is.from) in
            let h : true ≡ false = sym c.requires.ready ∙ (sym (ap (is_ready (state_of c.args.self.now) c.args.holder c.args.now c.args.overtakes) e) ∙ is.last (omega (arith, e))) in cc)
      ];
      top = is.to;
      ready = is.ready;
      last = is.last;
    }

pub loop-group-preserved : goal.loop-group-preserved
loop-group-preserved c =
    let is = c.row_end-end-in-loop-group.ensures in
    let was = c.loop-group.invariant in
    let e : c.loop-group.end ≡ 64 * c.loop-group.group = omega (arith, was.top, c.if-end-group.false) in
    record {
      some = omega (arith, was.some, is.from);
      top = omega (arith, is.to, e);
      ready = λ k from to. elim (cases_lt k c.loop-group.end) [
        | inl before ↦ was.ready k from before
        | inr behind ↦ is.ready k behind to
      ];
      last = λ below. is.last (omega (arith, below, e));
    }

pub returns-then-end-group-clause-room : goal.returns-then-end-group-clause-room
returns-then-end-group-clause-room c =
    let p = c.args.self.now in
    let last = p.opens (c.loop-group.end - 1) (ready_is_open (state_of p) c.args.holder c.args.now c.args.overtakes (c.loop-group.end - 1) (c.loop-group.invariant.ready (c.loop-group.end - 1) (omega (arith, c.loop-group.invariant.some)) (omega (arith, c.loop-group.invariant.some)))) in
    omega (arith, last, c.loop-group.invariant.some)

pub returns-then-end-group-clause-whole : goal.returns-then-end-group-clause-whole
returns-then-end-group-clause-whole c =
    let e : c.args.first + (c.loop-group.end - c.args.first) ≡ c.loop-group.end = omega (arith, c.loop-group.invariant.some) in
    inr (inr (ap (is_ready (state_of c.args.self.now) c.args.holder c.args.now c.args.overtakes) e ∙ c.loop-group.invariant.last c.if-end-group.true))

pub returns-clause-room : goal.returns-clause-room
returns-clause-room c =
    let p = c.args.self.now in
    let last = p.opens (c.loop-group.end - 1) (ready_is_open (state_of p) c.args.holder c.args.now c.args.overtakes (c.loop-group.end - 1) (c.loop-group.invariant.ready (c.loop-group.end - 1) (omega (arith, c.loop-group.invariant.some)) (omega (arith, c.loop-group.invariant.some)))) in
    omega (arith, last, c.loop-group.invariant.some)

pub returns-clause-whole : goal.returns-clause-whole
returns-clause-whole c =
    let e : c.args.first + (c.loop-group.end - c.args.first) ≡ c.loop-group.end = omega (arith, c.loop-group.invariant.some) in
    elim (cases_lt c.loop-group.end (64 * c.loop-group.group)) [
      | inl below ↦ inr (inr (ap (is_ready (state_of c.args.self.now) c.args.holder c.args.now c.args.overtakes) e ∙ c.loop-group.invariant.last below))
      | inr whole ↦ inr (inl (omega (arith, e, whole, c.loop-group.invariant.top, c.loop-group.invariant.some, c.loop-group-test.false, c.loop-group.auto.group-end)))
    ]

use Rattle.gather.proofs.Common.{◌≤◌, ℕ, Fixed, arith, cases_lt, inl, inr, subst, sym}
use Rattle.holders.specs.Holders.{IsNone}
use Rattle.gather.proofs.completing.has_parents.Goals as goal

pub loop-boundary-init : goal.loop-boundary-init
loop-boundary-init g c =
    (c.requires.has, (g.S.Shelf.goes.stays c.args.seat.now, λ n is. is), c.requires.room, λ m some here below. absurd (omega (arith, some, here, below, c.max-boundary.ensures, c.from-first.ensures)))

pub loop-boundary-preserved : goal.loop-boundary-preserved
loop-boundary-preserved g c =
    let x = c.loop-boundary in
    let met = c.has_parent.ensures in
    let same = g.S.Shelf.goes.keeps IsNone _ _ 0 0 met.still.0 in (
      met.has,
      (g.S.Shelf.goes.adds IsNone _ _ _ 0 0 0 0 x.invariant.1.0 met.still.0, λ n is. x.invariant.1.1 n (met.still.1 n is)),
      subst (λ (f : Fixed). c.args.chunks ≤ f.capacity) (sym same) x.invariant.2,
      λ m some here below. elim (cases_lt m x.boundary) [
        | inl sooner ↦ g.S.Shelf.lasts.parent IsNone _ _ 0 0 m met.still.0 (x.invariant.3 m some here sooner)
        | inr late ↦ subst (λ (k : ℕ). g.S.Shelf.has_parent c.has_parent.new.seat k) (omega (arith, late, below)) (met.held c.if-not-has_parent.false)
      ],
    )

pub returns-clause-held : goal.returns-clause-held
returns-clause-held g c = λ _ m some here below.
    c.loop-boundary.invariant.3 m some here (omega (arith, here, below, c.min-end.ensures, c.from-first.ensures, c.from.ensures, c.loop-boundary-test.false))

pub returns-then-not-has_parent-clause-still : goal.returns-then-not-has_parent-clause-still
returns-then-not-has_parent-clause-still g c =
    (g.S.Shelf.goes.adds IsNone _ _ _ 0 0 0 0 c.loop-boundary.invariant.1.0 c.has_parent.ensures.still.0, λ n is. c.loop-boundary.invariant.1.1 n (c.has_parent.ensures.still.1 n is))

use Rattle.gather.proofs.Common.{◌≡◌, ◌⊎◌, ◌∙◌, ◌<◌, ℕ, Option, IfSome, IsSome, IsTrue, false, true, ap, get_or, length, slice_get, sum_by, refl, sym, subst, arith, inl, inr, cases_lt, set-get_or, slice_get_within, Fixed}
use Rattle.holders.specs.Available.{GivesSlice, IsServed}
use Rattle.gather.specs.Counts.{Reports}
use Rattle.holders.specs.Holders.{AreLater, IsHanded}
use Rattle.holders.specs.Blobs.{IsTooLarge}
use Rattle.gather.proofs.Gaining.{among_onward}
use Rattle.gather.proofs.Reporting.{among_holders, handed_here, large_wider, later_one, later_then, onward, onward_none}
use Rattle.gather.proofs.Serving.{fails_from, fails_until, get_set_after, known_some, slice_here}
use Rattle.holders.specs.Forms.{made_of}
use Rattle.holders.specs.Parts.{IsFor}
use Rattle.gather.proofs.worker.agree.Goals.{then-is_some-via-else-is_some+then-too_large, then-is_some-via-then-is_some}
use Rattle.gather.proofs.worker.agree.Goals as goal

pub loop-holder-preserved : goal.loop-holder-preserved
loop-holder-preserved g c =
    let x = c.loop-holder in
    let met = c.ask_end-too_large.ensures in
    let then = c.length-length-in-loop-holder.ensures in
    let here : x.holder-index < length x.holders = omega (arith, c.loop-holder-test.true) in
    let F = g.S.Shelf.fixed_of c.args.seat.now in
    let handed = IsHanded (made_of c.args.form.now g.H.Holder.gives) c.args.holders.now in
    let later = later_then (made_of c.args.form.now g.H.Holder.gives) _ _ _ x.invariant.3 (later_one (made_of c.args.form.now g.H.Holder.gives) x.holders x.holder-index c.holder-item.result _ met.no_more) in
    let one = among_holders g.S.Shelf.fixed_of g.S.Shelf.gained g.S.Shelf.goes (made_of c.args.form.now g.H.Holder.gives) g.H.Holder.count _ _ x.holders x.holder-index c.holder-item.result _ _ _ here met.reports in
    let asked = onward g.S.Shelf.fixed_of g.S.Shelf.gained g.S.Shelf.goes _ _ _ _ _ _ _ _ _ _ _ _ x.invariant.1 one in
    let among = among_onward _ _ _ x.invariant.2 met.claims in
    let same : g.S.Shelf.fixed_of x.seat ≡ F = g.S.Shelf.goes.keeps _ _ _ _ _ x.invariant.1.gains in
    let known : IsSome x.length → IsSome c.length-length-in-loop-holder.result = λ some.
    known_some x.length _ (λ n. g.S.Shelf.records x.seat n) x.invariant.5 some
    (λ n is. then.known n (g.S.Shelf.lasts.length _ _ _ met.reports.chunks met.reports.parents n met.reports.gains is)) in (
      then.has,
      onward_none g.S.Shelf.fixed_of g.S.Shelf.gained g.S.Shelf.goes _ _ _ _ _ _ _ _ _ asked then.still.0,
      among_onward _ _ _ among then.still.1,
      later,
      λ k after. get_set_after x.holders x.holder-index k _ (omega (arith, after)) ∙ x.invariant.4 k (omega (arith, after)),
      then.records,
      λ large. (
        (met.large large).0,
        large_wider _ handed x.invariant.1.no_more F
            (subst (λ (f : Fixed). IsTooLarge (IsHanded (made_of c.args.form.now g.H.Holder.gives) x.holders) f) same
            (large_wider _ (IsHanded (made_of c.args.form.now g.H.Holder.gives) x.holders) (handed_here (made_of c.args.form.now g.H.Holder.gives) x.holders x.holder-index c.holder-item.result here) _ (met.large large).1)),
      ),
      λ blob start len are served end has before. elim (cases_lt has.place x.holder-index) [
        | inl sooner ↦ elim (x.invariant.7 blob start len are served end has sooner) [
          | inl failed ↦ inl (fails_until c.args.report.now x.report c.ask_end-too_large.new.report met.reports.no_less failed)
          | inr (inl large) ↦ inr (inl (met.reports.stays large.0, large.1))
          | inr (inr some) ↦ inr (inr (known some))
        ]
        | inr not_sooner ↦
            let at : has.place ≡ x.holder-index = omega (arith, before, not_sooner) in
            let slices : GivesSlice (made_of c.args.form.now g.H.Holder.gives) F.mode blob start len (get_or x.holders x.holder-index c.holder-item.result) =
            subst (λ (k : ℕ). GivesSlice (made_of c.args.form.now g.H.Holder.gives) F.mode blob start len (get_or x.holders k c.holder-item.result)) at
            (slice_here (made_of c.args.form.now g.H.Holder.gives) F.mode blob start len c.args.holders.now x.holders c.holder-item.result has (x.invariant.4 has.place (omega (arith, at)))) in
            elim (met.agreed blob start len (subst (λ (f : Fixed). IsFor c.args.form.now f blob) (sym same) are) (subst (λ (f : Fixed). IsServed f blob) (sym same) served) end
            (subst (λ (f : Fixed). GivesSlice (made_of c.args.form.now g.H.Holder.gives) f.mode blob start len (get_or x.holders x.holder-index c.holder-item.result)) (sym same) slices)) [
              | inl failed ↦ inl (fails_from c.args.report.now x.report c.ask_end-too_large.new.report x.invariant.1.no_less failed)
              | inr recorded ↦ inr (inr (subst (λ (o : Option ℕ). IsSome o) (sym (then.known recorded.0 recorded.1)) refl))
            ]
      ],
    )

pub loop-holder-preserved-then-is_some : goal.loop-holder-preserved-then-is_some
loop-holder-preserved-then-is_some g c =
    let x = c.loop-holder in
    let G = made_of c.args.form.now g.H.Holder.gives in
    let back = set-get_or x.holders x.holder-index c.holder-item.result in
    let same : c.then-is_some.holders ≡ x.holders = elim c.then-is_some.branch [
      | then-is_some-via-then-is_some w ↦ w.holders-is ∙ back
      | then-is_some-via-else-is_some+then-too_large w ↦ w.holders-is ∙ back
    ] in
    let either : IsSome x.length ⊎ IsTrue x.too_large = elim c.then-is_some.branch [
      | then-is_some-via-then-is_some w ↦ inl (sym w.if-is_some.ensures)
      | then-is_some-via-else-is_some+then-too_large w ↦ inr w.if-too_large.true
    ] in (
      x.invariant.0,
      subst (λ holders. Reports g.S.Shelf.fixed_of g.S.Shelf.gained c.args.seat.now x.seat (IsHanded G c.args.holders.now) (IsHanded G holders)
          (sum_by g.H.Holder.count c.args.holders.now) (sum_by g.H.Holder.count holders) c.args.report.now x.report) (sym same) x.invariant.1,
      x.invariant.2,
      subst (λ holders. AreLater G c.args.holders.now holders) (sym same) x.invariant.3,
      λ k after. ap (λ holders. slice_get holders k) same ∙ x.invariant.4 k (omega (arith, after)),
      x.invariant.5,
      x.invariant.6,
      λ blob start len are served end has before. elim (cases_lt has.place x.holder-index) [
        | inl sooner ↦ x.invariant.7 blob start len are served end has sooner
        | inr not_sooner ↦ elim either [
          | inl some ↦ inr (inr some)
          | inr large ↦ inr (inl (x.invariant.6 large))
        ]
      ],
    )

pub returns-in_default-clause-agreed : goal.returns-in_default-clause-agreed
returns-in_default-clause-agreed g c = λ blob start len are served end has. inr (inr (record {
  recorded = c.in-Some.length;
  is = subst (λ (o : Option ℕ). IfSome o (λ n. g.S.Shelf.records c.loop-holder.seat n)) c.in-Some.is c.loop-holder.invariant.5;
  told = λ of.
      let met : IsTrue c.is_of.result = c.is_of.ensures.1 of in
      let no : false ≡ true = sym c.if-is_of.false ∙ met in cc;
}))

pub returns-in-Some-clause-agreed : goal.returns-in-Some-clause-agreed
returns-in-Some-clause-agreed g c = λ blob start len are served end has. inr (inr (record {
  recorded = c.in-Some.length;
  is = subst (λ (o : Option ℕ). IfSome o (λ n. g.S.Shelf.records c.loop-holder.seat n)) c.in-Some.is c.loop-holder.invariant.5;
  told = λ of. refl;
}))

pub returns-in_default-2-clause-agreed : goal.returns-in_default-2-clause-agreed
returns-in_default-2-clause-agreed g c = λ blob start len are served end has.
    elim (c.loop-holder.invariant.7 blob start len are served end has
    (omega (arith, slice_get_within c.args.holders.now has.place has.holder has.there, c.loop-holder.invariant.3.len, c.loop-holder-test.false))) [
      | inl failed ↦ inl failed
      | inr (inl large) ↦ inr (inl large)
      | inr (inr some) ↦ let no : false ≡ true = subst (λ (o : Option ℕ). IsSome o) c.in_default.is some in cc
    ]

use Rattle.gather.proofs.Gaining.{among_onward}
use Rattle.gather.proofs.Reporting.{later_then, onward}
use Rattle.gather.proofs.Common.{None, Some, ap, ◌∙◌, ◌+◌, ◌*◌, ◌%◌, ◌≡◌, ◌<◌, ◌/◌, ◌==◌, ℕ, length, sym, subst, arith, inl, inr, eqb-true, eq-eqb, mod-lt, both_ways, cases_Bool, cases_lt, chunk_count, Fixed}
use Rattle.holders.specs.declared.grain.Grain.TheVariants.{Group as ByGroup}
use Rattle.holders.specs.Available.{IsServed}
use Rattle.gather.proofs.Serving.{begins_within, fails_from, fails_until, round_meets, wanted_below, wanted_there}
use Rattle.holders.specs.Forms.{made_of}
use Rattle.gather.specs.Asked.{checked_len}
use Rattle.holders.specs.Parts.{HaveParts, IsAskedIn, IsFor}
use Rattle.gather.proofs.Forming.{asked_reaches, end_at, group_checked, later_parts, length_for, slices_for, slices_parts}
use Rattle.gather.proofs.worker.work_as.Goals as goal

pub loop-step-preserved : goal.loop-step-preserved
loop-step-preserved g c = (
  c.work_part.ensures.has,
  onward g.S.Shelf.fixed_of g.S.Shelf.gained g.S.Shelf.goes _ _ _ _ _ _ _ _ _ _ _ _ c.loop-step.invariant.1 c.work_part.ensures.reports,
  among_onward _ _ _ c.loop-step.invariant.2 c.work_part.ensures.claims,
  later_then (made_of c.args.form.now g.H.Holder.gives) _ _ _ c.loop-step.invariant.3 c.work_part.ensures.later,
  λ blob are served has long.
      let x = c.loop-step in
      let met = c.work_part.ensures in
      let F = g.S.Shelf.fixed_of c.args.seat.now in
      let same : g.S.Shelf.fixed_of x.seat ≡ F = g.S.Shelf.goes.keeps _ _ _ _ _ x.invariant.1.gains in
      let chunks : c.chunk_count-chunks.result ≡ chunk_count (length blob) = omega (arith, c.chunk_count-chunks.ensures, long) in
      let now : HaveParts c.args.form.now ByGroup g.H.Holder.gives (g.S.Shelf.fixed_of x.seat).mode blob x.holders =
      subst (λ (f : Fixed). HaveParts c.args.form.now ByGroup g.H.Holder.gives f.mode blob x.holders) (sym same) (later_parts c.args.form.now ByGroup g.H.Holder.gives F.mode blob _ _ x.invariant.3 has) in
      let of : IsFor c.args.form.now (g.S.Shelf.fixed_of x.seat) blob = subst (λ (f : Fixed). IsFor c.args.form.now f blob) (sym same) are in
      let here : IsServed (g.S.Shelf.fixed_of x.seat) blob = subst (λ (f : Fixed). IsServed f blob) (sym same) served in
      let begun : ℕ = c.from.result * c.min-groups.result / c.from-2.result + x.step in
      let group : ℕ = begun % c.min-groups.result in
      let within : group < c.min-groups.result = mod-lt begun (omega (arith, c.loop-step-test.true)) in
      let size : ℕ = checked_len c.args.form.now c.group-part.result in
      let asked : (n : ℕ) → n < chunk_count (length blob) → n / 64 ≡ group → IsAskedIn c.args.form.now ByGroup n c.group-part.result.start size = λ n below at.
      group_checked c.args.form.now (g.S.Shelf.fixed_of x.seat) blob group c.group-part.result n of c.group-part.ensures.group below at in
      let begins : 64 * group < chunk_count (length blob) = omega (arith, chunks, within, c.div_ceil.ensures, c.min-groups.ensures) in
      elim (met.served blob of here (now.each (64 * group) c.group-part.result.start size begins (asked (64 * group) begins (omega arith)))
      (λ n wanted.
      let below : n < chunk_count (length blob) = omega (arith, chunks, wanted_below c.chunk_count-chunks.result _ c.mask_below.result c.mask_below.ensures n wanted) in (
        below,
        (let reach = asked_reaches c.args.form.now (g.S.Shelf.fixed_of x.seat) blob ByGroup n c.group-part.result.start size of below (asked n below wanted.0) in here.holds n c.group-part.result.start size below reach.0 reach.1),
      ))) [
        | inl failed ↦ inl (fails_from c.args.report.now x.report c.work_part.new.report x.invariant.1.no_less failed)
        | inr filled ↦ elim (x.invariant.4 blob are served has long) [
          | inl failed ↦ inl (fails_until c.args.report.now x.report c.work_part.new.report met.reports.no_less failed)
          | inr before ↦ inr (λ k n early at below. elim (cases_lt k x.step) [
            | inl sooner ↦ elim (before k n sooner at below) [
              | inl held ↦ inl (g.S.Shelf.lasts.chunk _ _ _ met.reports.chunks met.reports.parents n met.reports.gains held)
              | inr busy ↦ inr (g.S.Shelf.lasts.later _ _ _ _ met.reports.chunks met.reports.parents n met.reports.gains busy)
            ]
            | inr not_sooner ↦
                let now : k ≡ x.step = omega (arith, early, not_sooner) in
                elim (filled n (wanted_there c.chunk_count-chunks.result _ c.mask_below.result c.mask_below.ensures n (at ∙ ap (λ (j : ℕ). (c.from.result * c.min-groups.result / c.from-2.result + j) % c.min-groups.result) now) (omega (arith, chunks, below)))) [
                  | inl held ↦ inl held
                  | inr busy ↦ elim (g.S.Shelf.lasts.frees _ _ _ _ x.invariant.1.chunks x.invariant.1.parents n x.invariant.1.gains x.invariant.2 busy) [
                    | inl was ↦ inr was
                    | inr held ↦ inl (g.S.Shelf.lasts.chunk _ _ _ met.reports.chunks met.reports.parents n met.reports.gains held)
                  ]
                ]
          ])
        ]
      ],
  g.S.Shelf.lasts.length _ _ _ c.work_part.ensures.reports.chunks c.work_part.ensures.reports.parents c.in-Some.length c.work_part.ensures.reports.gains c.loop-step.invariant.5,
)

pub returns-in_default-clause-parts : goal.returns-in_default-clause-parts
returns-in_default-clause-parts g c = λ blob are served has.
    let at = end_at c.args.form.now in
    elim (c.agree.ensures.agreed blob at.0 at.1 are served at.2 (has.end at.0 at.1 at.2)) [
      | inl failed ↦ inl failed
      | inr (inl large) ↦ inr (inl large)
      | inr (inr agreed) ↦ inr (inr (record {
        recorded = agreed.recorded;
        is = agreed.is;
        chunks = λ long. let no : None ≡ Some agreed.recorded = sym c.in_default.is ∙ agreed.told (length_for c.args.form.now (g.S.Shelf.fixed_of c.args.seat.now) blob agreed.recorded are long) in cc;
      }))
    ]

pub returns-clause-parts : goal.returns-clause-parts
returns-clause-parts g c = λ blob are served has.
    let x = c.loop-step in
    let recorded = x.invariant.5 in
    elim (cases_Bool (c.in-Some.length == length blob)) [
      | inr other ↦
          inr (inr (record { recorded = c.in-Some.length; is = recorded; chunks = λ long. absurd (both_ways _ other (eq-eqb c.in-Some.length (length blob) long)) }))
      | inl same ↦
          let long : c.in-Some.length ≡ length blob = eqb-true c.in-Some.length (length blob) same in
          elim (x.invariant.4 blob are served has long) [
            | inl failed ↦ inl failed
            | inr visited ↦
                inr (inr (record {
                  recorded = c.in-Some.length;
                  is = recorded;
                  chunks = λ _ n below.
                      let group : n / 64 < c.min-groups.result = omega (arith, below, served.few, long, c.chunk_count-chunks.ensures, c.div_ceil.ensures, c.min-groups.ensures) in
                      let met = round_meets _ c.min-groups.result (n / 64) (subst (λ (n : ℕ). n * c.min-groups.result / c.from-2.result < c.min-groups.result) (sym c.from.ensures) (subst (λ (w : ℕ). c.args.place.number * c.min-groups.result / w < c.min-groups.result) (sym c.from-2.ensures) (begins_within c.args.place.number c.args.place.workers c.min-groups.result c.requires.place (omega (arith, group))))) group in
                      visited met.0 n (omega (arith, met.1, c.loop-step-test.false)) met.2 below;
                }))
          ]
    ]

pub returns-in_default-clause-served : goal.returns-in_default-clause-served
returns-in_default-clause-served g c = λ are blob served have.
    let F = g.S.Shelf.fixed_of c.args.seat.now in
    returns-in_default-clause-parts g c blob (slices_for c.args.form.now F blob are) served (slices_parts c.args.form.now ByGroup g.H.Holder.gives F.mode blob c.args.holders.now are have)

pub returns-clause-served : goal.returns-clause-served
returns-clause-served g c = λ are blob served have.
    let F = g.S.Shelf.fixed_of c.args.seat.now in
    returns-clause-parts g c blob (slices_for c.args.form.now F blob are) served (slices_parts c.args.form.now ByGroup g.H.Holder.gives F.mode blob c.args.holders.now are have)

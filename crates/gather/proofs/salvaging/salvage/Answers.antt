use Rattle.gather.proofs.Gaining.{among_onward}
use Rattle.gather.proofs.Reporting.{later_then, onward}
use Rattle.gather.proofs.Common.{None, Some, true, ◌∙◌, ◌%◌, ◌≡◌, ◌<◌, ◌==◌, ℕ, length, sym, subst, arith, inl, inr, eqb-true, eq-eqb, both_ways, cases_Bool, cases_lt, chunk_count, has_bit, holds_chunk, Fixed}
use Rattle.holders.specs.declared.grain.Grain.TheVariants.{Chunk as ByChunk}
use Rattle.holders.specs.Available.{IsServed, slice_of}
use Rattle.gather.proofs.Forming.{asked_reaches, chunk_checked, end_at, later_parts, length_for, slices_for, slices_parts}
use Rattle.gather.proofs.Serving.{fails_from, fails_until, wanted_one}
use Rattle.holders.specs.Forms.{made_of}
use Rattle.gather.specs.Asked.{checked_len}
use Rattle.holders.specs.Parts.{HaveParts, IsFor}
use Rattle.gather.proofs.salvaging.salvage.Goals as goal

pub returns-in_default-clause-parts : goal.returns-in_default-clause-parts
returns-in_default-clause-parts g c = λ blob are served has.
    let at = end_at c.args.form.now in
    elim (c.agree.ensures.agreed blob at.0 at.1 are served at.2 (has.end at.0 at.1 at.2)) [
      | inl failed ↦ inl failed
      | inr (inl large) ↦ inr (inl large)
      | inr (inr agreed) ↦ inr (inr (record {
        recorded = agreed.recorded;
        is = agreed.is;
        chunks = λ long. let no : None ≡ Some agreed.recorded = sym c.in_default.is ∙ agreed.told (length_for c.args.form.now (g.S.Shelf.fixed_of c.args.seat.now) blob agreed.recorded are long) in cc;
      }))
    ]

pub returns-clause-parts : goal.returns-clause-parts
returns-clause-parts g c = λ blob are served has.
    let x = c.loop-chunk in
    let recorded = x.invariant.5 in
    elim (cases_Bool (c.in-Some.length == length blob)) [
      | inr other ↦
          inr (inr (record { recorded = c.in-Some.length; is = recorded; chunks = λ long. absurd (both_ways _ other (eq-eqb c.in-Some.length (length blob) long)) }))
      | inl same ↦
          let long : c.in-Some.length ≡ length blob = eqb-true c.in-Some.length (length blob) same in
          elim (x.invariant.4 blob are served has long) [
            | inl failed ↦ inl failed
            | inr visited ↦
                inr (inr (record {
                  recorded = c.in-Some.length;
                  is = recorded;
                  chunks = λ _ n below. visited n (omega (arith, below, served.few, long, c.chunk_count.ensures, c.loop-chunk-test.false)) below;
                }))
          ]
    ]

pub loop-chunk-preserved : goal.loop-chunk-preserved
loop-chunk-preserved g c = (
  c.work_part.ensures.has,
  onward g.S.Shelf.fixed_of g.S.Shelf.gained g.S.Shelf.goes _ _ _ _ _ _ _ _ _ _ _ _ c.loop-chunk.invariant.1 c.work_part.ensures.reports,
  among_onward _ _ _ c.loop-chunk.invariant.2 c.work_part.ensures.claims,
  later_then (made_of c.args.form.now g.H.Holder.gives) _ _ _ c.loop-chunk.invariant.3 c.work_part.ensures.later,
  λ blob are served has long.
      let x = c.loop-chunk in
      let met = c.work_part.ensures in
      let F = g.S.Shelf.fixed_of c.args.seat.now in
      let at : ℕ = x.chunk in
      let part = c.chunk-part.result in
      let same : g.S.Shelf.fixed_of x.seat ≡ F = g.S.Shelf.goes.keeps _ _ _ _ _ x.invariant.1.gains in
      let below : at < chunk_count (length blob) = omega (arith, c.chunk_count.ensures, c.loop-chunk-test.true, long) in
      let size : ℕ = checked_len c.args.form.now part in
      let asked = chunk_checked c.args.form.now at part c.chunk-part.ensures.chunk in
      let now : HaveParts c.args.form.now ByChunk g.H.Holder.gives (g.S.Shelf.fixed_of x.seat).mode blob x.holders =
      subst (λ (f : Fixed). HaveParts c.args.form.now ByChunk g.H.Holder.gives f.mode blob x.holders) (sym same) (later_parts c.args.form.now ByChunk g.H.Holder.gives F.mode blob _ _ x.invariant.3 has) in
      let of : IsFor c.args.form.now (g.S.Shelf.fixed_of x.seat) blob = subst (λ (f : Fixed). IsFor c.args.form.now f blob) (sym same) are in
      let here : IsServed (g.S.Shelf.fixed_of x.seat) blob = subst (λ (f : Fixed). IsServed f blob) (sym same) served in
      elim (met.served blob of here (now.each at part.start size below asked) (λ n wanted.
      let one : n ≡ at = wanted_one at _ _ n (omega arith) c.with_bit-want.ensures.others wanted in (
        omega (arith, one, below),
        subst (λ (k : ℕ). holds_chunk (slice_of (g.S.Shelf.fixed_of x.seat) blob part.start size) k ≡ true) (sym one)
            (let reach = asked_reaches c.args.form.now (g.S.Shelf.fixed_of x.seat) blob ByChunk at part.start size of below asked in here.holds at part.start size below reach.0 reach.1),
      ))) [
        | inl failed ↦ inl (fails_from c.args.report.now x.report c.work_part.new.report x.invariant.1.no_less failed)
        | inr filled ↦ elim (x.invariant.4 blob are served has long) [
          | inl failed ↦ inl (fails_until c.args.report.now x.report c.work_part.new.report met.reports.no_less failed)
          | inr before ↦ inr (λ n early there. elim (cases_lt n at) [
            | inl sooner ↦ elim (before n sooner there) [
              | inl held ↦ inl (g.S.Shelf.lasts.chunk _ _ _ met.reports.chunks met.reports.parents n met.reports.gains held)
              | inr busy ↦ inr (g.S.Shelf.lasts.later _ _ _ _ met.reports.chunks met.reports.parents n met.reports.gains busy)
            ]
            | inr not_sooner ↦
                let one : n ≡ at = omega (arith, early, not_sooner) in
                let hit = subst (λ (k : ℕ). has_bit c.with_bit-want.result (k % 64) ≡ true) (sym one) c.with_bit-want.ensures.same in
                elim (filled n (omega (arith, one), hit)) [
                  | inl held ↦ inl held
                  | inr busy ↦ elim (g.S.Shelf.lasts.frees _ _ _ _ x.invariant.1.chunks x.invariant.1.parents n x.invariant.1.gains x.invariant.2 busy) [
                    | inl was ↦ inr was
                    | inr held ↦ inl (g.S.Shelf.lasts.chunk _ _ _ met.reports.chunks met.reports.parents n met.reports.gains held)
                  ]
                ]
          ])
        ]
      ],
  g.S.Shelf.lasts.length _ _ _ c.work_part.ensures.reports.chunks c.work_part.ensures.reports.parents c.in-Some.length c.work_part.ensures.reports.gains c.loop-chunk.invariant.5,
)

pub returns-in_default-clause-served : goal.returns-in_default-clause-served
returns-in_default-clause-served g c = λ are blob served have.
    let F = g.S.Shelf.fixed_of c.args.seat.now in
    returns-in_default-clause-parts g c blob (slices_for c.args.form.now F blob are) served (slices_parts c.args.form.now ByChunk g.H.Holder.gives F.mode blob c.args.holders.now are have)

pub returns-clause-served : goal.returns-clause-served
returns-clause-served g c = λ are blob served have.
    let F = g.S.Shelf.fixed_of c.args.seat.now in
    returns-clause-parts g c blob (slices_for c.args.form.now F blob are) served (slices_parts c.args.form.now ByChunk g.H.Holder.gives F.mode blob c.args.holders.now are have)

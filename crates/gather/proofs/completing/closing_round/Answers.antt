use Rattle.gather.proofs.Common.{◌≡◌, ◌==◌, ℕ, Fixed, both_ways, cases_Bool, eq-eqb, eqb-true, inl, inr, length, subst, sym}
use Rattle.holders.specs.declared.grain.Grain.TheVariants.{Group as ByGroup}
use Rattle.gather.specs.Filled.{IsFilled}
use Rattle.holders.specs.Available.{IsServed}
use Rattle.holders.specs.Forms.{made_of}
use Rattle.holders.specs.Parts.{HaveParts, IsFor}
use Rattle.gather.proofs.Forming.{later_parts}
use Rattle.gather.proofs.Gaining.{among_onward}
use Rattle.gather.proofs.Reporting.{later_then, onward}
use Rattle.gather.proofs.Serving.{fails_from, fails_until}
use Rattle.gather.proofs.completing.closing_round.Goals as goal

pub returns-clause-reports : goal.returns-clause-reports
returns-clause-reports g c = onward g.S.Shelf.fixed_of g.S.Shelf.gained g.S.Shelf.goes _ _ _ _ _ _ _ _ _ _ _ _ c.work_as.ensures.reports c.complete.ensures.reports

pub returns-clause-later : goal.returns-clause-later
returns-clause-later g c = later_then (made_of c.args.form.now g.H.Holder.gives) _ _ _ c.work_as.ensures.later c.complete.ensures.later

pub returns-clause-claims : goal.returns-clause-claims
returns-clause-claims g c = among_onward _ _ _ c.work_as.ensures.claims c.complete.ensures.claims

pub returns-clause-complete : goal.returns-clause-complete
returns-clause-complete g c = λ blob are served have.
    let form = c.args.form.now in
    let first = c.work_as.ensures in
    let second = c.complete.ensures in
    let F : Fixed = g.S.Shelf.fixed_of c.args.seat.now in
    let mid = c.work_as.new.seat in
    let last = c.complete.new.seat in
    let gains = second.reports.gains in
    elim (first.parts blob are served have) [
      | inl failed ↦ inl (fails_until c.args.report.now c.work_as.new.report c.complete.new.report second.reports.no_less failed)
      | inr (inl large) ↦ inr (inl (second.reports.stays large.0, large.1))
      | inr (inr filled) ↦
          let n : ℕ = filled.recorded in
          let then : g.S.Shelf.records last n = g.S.Shelf.lasts.length _ _ _ second.reports.chunks second.reports.parents n gains filled.is in
          let still : IsFilled g.S.Shelf.records g.S.Shelf.holds g.S.Shelf.busy c.args.seat.now last blob = record {
            recorded = n;
            is = then;
            chunks = λ long k below. elim (filled.chunks long k below) [
              | inl held ↦ inl (g.S.Shelf.lasts.chunk _ _ _ second.reports.chunks second.reports.parents k gains held)
              | inr busy ↦ inr (g.S.Shelf.lasts.later _ _ _ _ second.reports.chunks second.reports.parents k gains busy)
            ];
          } in
          elim (cases_Bool (n == length blob)) [
            | inr other ↦ inr (inr (still, record { recorded = n; is = then; parents = λ long. absurd (both_ways _ other (eq-eqb n (length blob) long)) }))
            | inl long ↦
                let same : g.S.Shelf.fixed_of mid ≡ F = g.S.Shelf.goes.keeps _ _ _ _ _ first.reports.gains in
                let now : HaveParts form ByGroup g.H.Holder.gives (g.S.Shelf.fixed_of mid).mode blob c.work_as.new.holders =
                subst (λ (f : Fixed). HaveParts form ByGroup g.H.Holder.gives f.mode blob c.work_as.new.holders) (sym same) (later_parts form ByGroup g.H.Holder.gives F.mode blob _ _ first.later have) in
                elim (second.complete blob (subst (λ (f : Fixed). IsFor form f blob) (sym same) are) (subst (λ (f : Fixed). IsServed f blob) (sym same) served)
                (subst (λ (l : ℕ). g.S.Shelf.records mid l) (eqb-true n (length blob) long) filled.is) now) [
                  | inl failed ↦ inl (fails_from c.args.report.now c.work_as.new.report c.complete.new.report first.reports.no_less failed)
                  | inr all ↦ inr (inr (still, record { recorded = n; is = then; parents = λ _. all }))
                ]
          ]
    ]

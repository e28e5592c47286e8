use Rattle.gather.proofs.Common.{◌≡◌, IsTrue, false, ap, subst, sym, arith, inl, inr, IsKeyed, Fixed, fixed_of}
use Rattle.gather.specs.declared.report.Report.{Report}
use Rattle.gather.specs.Worked.{HasWorked}
use Rattle.gather.specs.Working.{goes_work}
use Rattle.gather.proofs.Binding.{adds_blobs, are_longer}
use Rattle.gather.proofs.Certifying.{work_certified}
use Rattle.gather.proofs.Forming.{later_parts, slices_parts}
use Rattle.gather.proofs.Reporting.{large_wider, onward}
use Rattle.holders.specs.Available.{IsServed}
use Rattle.holders.specs.declared.form.Form.TheVariants.{Slices}
use Rattle.holders.specs.declared.grain.Grain.TheVariants.{Group as ByGroup}
use Rattle.holders.specs.Holders.{IsHanded}
use Rattle.holders.specs.Blobs.{IsTooLarge}
use Rattle.holders.specs.Parts.{HaveParts}
use Rattle.gather.specs.Lasting.{lasts_work}
use Rattle.gather.proofs.Served.{served}
use Rattle.gather.proofs.Serving.{failed_since, fails_until}
use Rattle.gather.proofs.one.run_one.Goals as goal

pub returns-clause-worked : goal.returns-clause-worked
returns-clause-worked g c =
    let both = onward fixed_of HasWorked goes_work _ _ _ _ _ _ _ _ _ _ _ _ c.work.ensures.reports c.closing_round.ensures.reports in
    let none : c.new-report.result.committed ≡ 0 = ap (λ (report : Report). report.committed) c.new-report.ensures in
    let no_parents : c.new-report.result.parents ≡ 0 = ap (λ (report : Report). report.parents) c.new-report.ensures in
    record { chunks = both.chunks; parents = both.parents; worked = both.gains; committed = omega (arith, both.committed, none); stored = omega (arith, both.stored, no_parents) }

pub returns-clause-certified : goal.returns-clause-certified
returns-clause-certified g c =
    let both = onward fixed_of HasWorked goes_work _ _ _ _ _ _ _ _ _ _ _ _ c.work.ensures.reports c.closing_round.ensures.reports in
    work_certified _ _ _ both.chunks both.parents both.gains

pub returns-clause-binds : goal.returns-clause-binds
returns-clause-binds g c =
    let both = onward fixed_of HasWorked goes_work _ _ _ _ _ _ _ _ _ _ _ _ c.work.ensures.reports c.closing_round.ensures.reports in
    let keyed = subst (λ (fixed : Fixed). IsKeyed fixed.mode) c.fixed-fixed.ensures c.is_keyed.ensures in
    adds_blobs c.accepted_binds.ensures _ c.args.store.now c.closing_round.new.seat keyed (work_certified _ _ _ both.chunks both.parents both.gains)

pub returns-clause-longer : goal.returns-clause-longer
returns-clause-longer g c = λ large.
    let keyed = subst (λ (fixed : Fixed). IsKeyed fixed.mode) c.fixed-fixed.ensures c.is_keyed.ensures in
    let both = onward fixed_of HasWorked goes_work _ _ _ _ _ _ _ _ _ _ _ _ c.work.ensures.reports c.closing_round.ensures.reports in
    are_longer c.accepted_binds.ensures _ (fixed_of c.args.store.now) keyed (elim (both.too_large large) [
      | inl before ↦ let no : IsTrue false = subst (λ (report : Report). IsTrue report.too_large) c.new-report.ensures before in cc
      | inr is ↦ is
    ])

pub returns-clause-too_large : goal.returns-clause-too_large
returns-clause-too_large g c = λ large.
    let both = onward fixed_of HasWorked goes_work _ _ _ _ _ _ _ _ _ _ _ _ c.work.ensures.reports c.closing_round.ensures.reports in
    elim (both.too_large large) [
      | inl before ↦ let no : IsTrue false = subst (λ (report : Report). IsTrue report.too_large) c.new-report.ensures before in cc
      | inr is ↦ is
    ]

pub returns-clause-available : goal.returns-clause-available
returns-clause-available g c = λ blob is first room has.
    let keyed = subst (λ (fixed : Fixed). IsKeyed fixed.mode) c.fixed-fixed.ensures c.is_keyed.ensures in
    let slices = served (fixed_of c.args.store.now) blob keyed is first room c.args.store.now.limit in
    let second = c.closing_round.ensures.reports in
    elim (c.work.ensures.served blob slices has) [
      | inl failed ↦ inl (failed_since c.new-report.result c.closing_round.new.report (fails_until c.new-report.result c.work.new.report c.closing_round.new.report second.no_less failed))
      | inr (inl large) ↦ inr (inl (second.stays large.0, large.1))
      | inr (inr filled) ↦
          inr (inr (record {
            recorded = filled.recorded;
            is = lasts_work.length _ _ _ second.chunks second.parents filled.recorded second.gains filled.is;
            chunks = λ same n below. elim (filled.chunks same n below) [
              | inl held ↦ inl (lasts_work.chunk _ _ _ second.chunks second.parents n second.gains held)
              | inr busy ↦ inr busy
            ];
          }))
    ]

pub returns-clause-complete : goal.returns-clause-complete
returns-clause-complete g c = λ blob is first room has.
    let gives = g.H.Holder.gives in
    let F : Fixed = fixed_of c.args.store.now in
    let mid = c.work.new.seat in
    let keyed = subst (λ (fixed : Fixed). IsKeyed fixed.mode) c.fixed-fixed.ensures c.is_keyed.ensures in
    let slices = served F blob keyed is first room c.args.store.now.limit in
    let same : fixed_of mid ≡ F = c.work.ensures.reports.gains.fixed in
    let have : HaveParts Slices ByGroup gives (fixed_of mid).mode blob c.work.new.holders =
    subst (λ (f : Fixed). HaveParts Slices ByGroup gives f.mode blob c.work.new.holders) (sym same)
    (later_parts Slices ByGroup gives F.mode blob _ _ c.work.ensures.later (slices_parts Slices ByGroup gives F.mode blob c.args.holders.now tt has)) in
    elim (c.closing_round.ensures.complete blob tt (subst (λ (f : Fixed). IsServed f blob) (sym same) slices) have) [
      | inl failed ↦ inl (failed_since c.work.new.report c.closing_round.new.report failed)
      | inr (inl large) ↦
          inr (inl (large.0, large_wider _ (IsHanded gives c.args.holders.now) c.work.ensures.reports.no_more F (subst (λ (f : Fixed). IsTooLarge (IsHanded gives c.work.new.holders) f) same large.1)))
      | inr (inr both) ↦ inr (inr both.1)
    ]

use Rattle.gather.proofs.Gaining.{among_onward}
use Rattle.gather.proofs.Reporting.{counted_none, later_none, later_then, onward, still_gained}
use Rattle.gather.proofs.Common.{None, Some, ap, ◌∙◌, ◌*◌, ◌≡◌, ◌<◌, ◌≤◌, ◌/◌, ℕ, length, refl, sym, subst, arith, inl, inr, cases_lt, chunk_count, Fixed}
use Rattle.holders.specs.declared.grain.Grain.TheVariants.{Group as ByGroup}
use Rattle.holders.specs.Available.{IsServed}
use Rattle.holders.specs.Holders.{IsNone}
use Rattle.gather.proofs.Serving.{fails_from, fails_until}
use Rattle.holders.specs.Forms.{made_of}
use Rattle.gather.specs.Asked.{checked_len}
use Rattle.holders.specs.Parts.{HaveParts, IsAskedIn, IsFor}
use Rattle.gather.proofs.Forming.{asked_reaches, group_checked, later_parts, length_for as of_length}
use Rattle.gather.proofs.completing.complete.Goals as goal

pub loop-number-init : goal.loop-number-init
loop-number-init g c =
    let look = c.length_for.ensures in
    let same = g.S.Shelf.goes.keeps IsNone _ _ 0 0 look.still.0 in (
      look.has,
      counted_none g.S.Shelf.fixed_of g.S.Shelf.gained g.S.Shelf.goes _ _ _ _ _ (still_gained g.S.Shelf.fixed_of g.S.Shelf.gained g.S.Shelf.goes _ _ _ look.still.0) c.fits.ensures,
      look.still.1,
      later_none (made_of c.args.form.now g.H.Holder.gives) _,
      subst (λ (f : Fixed). c.min-chunks.result ≤ f.capacity) c.fixed-capacity.ensures (omega (arith, c.min-chunks.ensures, c.from.ensures)),
      λ blob are served has known long. inr (λ m some before below. absurd (omega (arith, before))),
    )

pub loop-number-preserved : goal.loop-number-preserved
loop-number-preserved g c =
    let x = c.loop-number in
    let met = c.complete_group.ensures in
    let G = made_of c.args.form.now g.H.Holder.gives in (
      met.has,
      onward g.S.Shelf.fixed_of g.S.Shelf.gained g.S.Shelf.goes _ _ _ _ _ _ _ _ _ _ _ _ x.invariant.1 met.reports,
      among_onward _ _ _ x.invariant.2 met.claims,
      later_then G _ _ _ x.invariant.3 met.later,
      subst (λ (f : Fixed). c.min-chunks.result ≤ f.capacity) (sym (g.S.Shelf.goes.keeps _ _ _ _ _ met.reports.gains)) x.invariant.4,
      λ blob are served has known long.
          let F = g.S.Shelf.fixed_of c.args.seat.now in
          let cap : c.fixed-capacity.result.capacity ≡ F.capacity = ap (λ (f : Fixed). f.capacity) (c.fixed-capacity.ensures ∙ g.S.Shelf.goes.keeps IsNone _ _ 0 0 c.length_for.ensures.still.0) in
          let part = c.group-part.result in
          let size : ℕ = checked_len c.args.form.now part in
          let same : g.S.Shelf.fixed_of x.seat ≡ F = g.S.Shelf.goes.keeps _ _ _ _ _ x.invariant.1.gains in
          let now : HaveParts c.args.form.now ByGroup g.H.Holder.gives (g.S.Shelf.fixed_of x.seat).mode blob x.holders =
          subst (λ (f : Fixed). HaveParts c.args.form.now ByGroup g.H.Holder.gives f.mode blob x.holders) (sym same) (later_parts c.args.form.now ByGroup g.H.Holder.gives F.mode blob _ _ x.invariant.3 has) in
          let of : IsFor c.args.form.now (g.S.Shelf.fixed_of x.seat) blob = subst (λ (f : Fixed). IsFor c.args.form.now f blob) (sym same) are in
          let here : IsServed (g.S.Shelf.fixed_of x.seat) blob = subst (λ (f : Fixed). IsServed f blob) (sym same) served in
          let fits : c.min-chunks.result ≤ chunk_count (length blob) = omega (arith, c.min-chunks.ensures, c.chunk_count.ensures, long) in
          let asked : (n : ℕ) → n < chunk_count (length blob) → n / 64 ≡ x.number → IsAskedIn c.args.form.now ByGroup n part.start size = λ n below at.
          group_checked c.args.form.now (g.S.Shelf.fixed_of x.seat) blob x.number part n of c.group-part.ensures.group below at in
          let begins : 64 * x.number < chunk_count (length blob) = omega (arith, fits, c.from-2.ensures, c.div_ceil.ensures, c.min-groups.ensures, c.loop-number-test.true) in
          elim (met.complete blob of here (g.S.Shelf.lasts.length _ _ _ x.invariant.1.chunks x.invariant.1.parents (length blob) x.invariant.1.gains known)
          (now.each (64 * x.number) part.start size begins (asked (64 * x.number) begins (omega arith)))
          (λ m some at below.
          let under : m < chunk_count (length blob) = omega (arith, below, fits) in
          let reach = asked_reaches c.args.form.now (g.S.Shelf.fixed_of x.seat) blob ByGroup m part.start size of under (asked m under at) in
          (omega (arith, under, served.few), here.parents m part.start size some under reach.0 reach.1))) [
            | inl failed ↦ inl (fails_from c.args.report.now x.report c.complete_group.new.report x.invariant.1.no_less failed)
            | inr all ↦ elim (x.invariant.5 blob are served has known long) [
              | inl failed ↦ inl (fails_until c.args.report.now x.report c.complete_group.new.report met.reports.no_less failed)
              | inr before ↦ inr (λ m some within below. elim (cases_lt (m / 64) x.number) [
                | inl sooner ↦ g.S.Shelf.lasts.parent _ _ _ met.reports.chunks met.reports.parents m met.reports.gains (before m some sooner below)
                | inr not_sooner ↦ all m some (omega (arith, within, not_sooner)) (omega (arith, below, c.min-chunks.ensures, c.chunk_count.ensures, c.from.ensures, long, served.room, cap))
              ])
            ]
          ],
    )

pub returns-in_default-clause-complete : goal.returns-in_default-clause-complete
returns-in_default-clause-complete g c = λ blob are served known has.
    let no : None ≡ Some (length blob) = sym c.in_default.is ∙ c.length_for.ensures.known (length blob) known (of_length c.args.form.now (g.S.Shelf.fixed_of c.args.seat.now) blob (length blob) are refl) in cc

pub returns-clause-complete : goal.returns-clause-complete
returns-clause-complete g c = λ blob are served known has.
    let F = g.S.Shelf.fixed_of c.args.seat.now in
    let same : Some c.in-Some.length ≡ Some (length blob) = sym c.in-Some.is ∙ c.length_for.ensures.known (length blob) known (of_length c.args.form.now F blob (length blob) are refl) in
    let long : c.in-Some.length ≡ length blob = cc in
    let cap : c.fixed-capacity.result.capacity ≡ F.capacity = ap (λ (f : Fixed). f.capacity) (c.fixed-capacity.ensures ∙ g.S.Shelf.goes.keeps IsNone _ _ 0 0 c.length_for.ensures.still.0) in
    elim (c.loop-number.invariant.5 blob are served has known long) [
      | inl failed ↦ inl failed
      | inr all ↦ inr (λ m some below. all m some (omega (arith, below, served.few, served.room, cap, long, c.min-chunks.ensures, c.chunk_count.ensures, c.from.ensures, c.from-2.ensures, c.div_ceil.ensures, c.min-groups.ensures, c.loop-number-test.false)) below)
    ]

pub returns-in_default-clause-reports : goal.returns-in_default-clause-reports
returns-in_default-clause-reports g c =
    counted_none g.S.Shelf.fixed_of g.S.Shelf.gained g.S.Shelf.goes _ _ _ _ _ (still_gained g.S.Shelf.fixed_of g.S.Shelf.gained g.S.Shelf.goes _ _ _ c.length_for.ensures.still.0) c.fits.ensures

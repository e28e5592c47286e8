use Rattle.gather.proofs.Common.{refl, ◌<◌, ◌≡◌, ◌≤◌, ◌∙◌, ℕ, true, get_or, length, inl, inr, sym, subst, arith, sum_by, set-get_or, slice_get_within, both_ways, cases_lt, Fixed}
use Rattle.gather.specs.Counts.{Reports}
use Rattle.holders.specs.Holders.{IsHanded, IsNone}
use Rattle.gather.proofs.Bits.{in_mask_zero}
use Rattle.gather.proofs.Reporting.{among_holders, counted_none, later_none, later_one, later_then, onward, onward_none, still_gained}
use Rattle.holders.specs.Available.{GivesSlice, IsServed, slice_of}
use Rattle.gather.proofs.Serving.{fails_from, fails_until, get_set_after, slice_here}
use Rattle.holders.specs.Forms.{made_of}
use Rattle.gather.specs.Asked.{checked_len}
use Rattle.holders.specs.Parts.{IsFor}
use Rattle.holders.specs.Pieces.{holds_parent}
use Rattle.gather.proofs.completing.complete_group.Goals as goal

pub loop-holder-init : goal.loop-holder-init
loop-holder-init g c =
    let look = c.has_parents-done.ensures in (
      look.has,
      counted_none g.S.Shelf.fixed_of g.S.Shelf.gained g.S.Shelf.goes _ _ _ _ _ (still_gained g.S.Shelf.fixed_of g.S.Shelf.gained g.S.Shelf.goes _ _ _ look.still.0) c.fits.ensures,
      look.still.1,
      later_none (made_of c.args.form.now g.H.Holder.gives) _,
      λ k _. refl,
      subst (λ (f : Fixed). c.args.chunks ≤ f.capacity) (sym (g.S.Shelf.goes.keeps IsNone _ _ 0 0 look.still.0)) c.requires.room,
      look.held,
      λ blob are served known has before bound. absurd (omega (arith, before)),
    )

pub has_parents-done-requires-in-loop-holder-clause-room : goal.has_parents-done-requires-in-loop-holder-clause-room
has_parents-done-requires-in-loop-holder-clause-room g c =
    subst (λ (f : Fixed). c.args.chunks ≤ f.capacity) (sym (g.S.Shelf.goes.keeps _ _ _ _ _ c.ask.ensures.reports.gains)) c.loop-holder.invariant.5

pub loop-holder-preserved : goal.loop-holder-preserved
loop-holder-preserved g c =
    let x = c.loop-holder in
    let met = c.ask.ensures in
    let look = c.has_parents-done-in-loop-holder.ensures in
    let group = c.args.group in
    let size : ℕ = checked_len c.args.form.now c.args.part.now in
    let G = made_of c.args.form.now g.H.Holder.gives in
    let F = g.S.Shelf.fixed_of c.args.seat.now in
    let here : x.holder-index < length x.holders = omega (arith, c.loop-holder-test.true) in
    let one = among_holders g.S.Shelf.fixed_of g.S.Shelf.gained g.S.Shelf.goes G g.H.Holder.count _ _ x.holders x.holder-index c.holder-item.result _ _ _ here met.reports in
    let asked = onward g.S.Shelf.fixed_of g.S.Shelf.gained g.S.Shelf.goes _ _ _ _ _ _ _ _ _ _ _ _ x.invariant.1 one in
    let same : g.S.Shelf.fixed_of x.seat ≡ F = g.S.Shelf.goes.keeps _ _ _ _ _ x.invariant.1.gains in
    let room : c.args.chunks ≤ (g.S.Shelf.fixed_of c.ask.new.seat).capacity = subst (λ (f : Fixed). c.args.chunks ≤ f.capacity) (sym (g.S.Shelf.goes.keeps _ _ _ _ _ met.reports.gains)) x.invariant.5 in (
      look.has,
      onward_none g.S.Shelf.fixed_of g.S.Shelf.gained g.S.Shelf.goes _ _ _ _ _ _ _ _ _ asked look.still.0,
      λ n is. elim (met.claims (g.S.Shelf.claims c.args.seat.now) (λ k was. inl (x.invariant.2 k was)) n (look.still.1 n is)) [
        | inl was ↦ was
        | inr hit ↦ absurd (both_ways _ (in_mask_zero group n) (met.fewer n hit))
      ],
      later_then G _ _ _ x.invariant.3 (later_one G x.holders x.holder-index c.holder-item.result _ met.no_more),
      λ k after. get_set_after x.holders x.holder-index k _ (omega (arith, after)) ∙ x.invariant.4 k (omega (arith, after)),
      subst (λ (f : Fixed). c.args.chunks ≤ f.capacity) (sym (g.S.Shelf.goes.keeps IsNone _ _ 0 0 look.still.0)) room,
      look.held,
      λ blob are served known has before bound. elim (cases_lt has.place x.holder-index) [
        | inl sooner ↦ elim (x.invariant.7 blob are served known has sooner bound) [
          | inl failed ↦ inl (fails_until c.args.report.now x.report c.ask.new.report met.reports.no_less failed)
          | inr all ↦ inr (λ m some at below. g.S.Shelf.lasts.parent IsNone _ _ 0 0 m look.still.0
              (g.S.Shelf.lasts.parent _ _ _ met.reports.chunks met.reports.parents m met.reports.gains (all m some at below)))
        ]
        | inr not_sooner ↦
            let at : has.place ≡ x.holder-index = omega (arith, before, not_sooner) in
            let slices : GivesSlice G F.mode blob c.args.part.now.start size (get_or x.holders x.holder-index c.holder-item.result) =
            subst (λ (k : ℕ). GivesSlice G F.mode blob c.args.part.now.start size (get_or x.holders k c.holder-item.result)) at
            (slice_here G F.mode blob c.args.part.now.start size c.args.holders.now x.holders c.holder-item.result has (x.invariant.4 has.place (omega (arith, at)))) in
            elim (met.stored blob (subst (λ (f : Fixed). IsFor c.args.form.now f blob) (sym same) are) (subst (λ (f : Fixed). IsServed f blob) (sym same) served)
            (g.S.Shelf.lasts.length _ _ _ x.invariant.1.chunks x.invariant.1.parents (length blob) x.invariant.1.gains known)
            (subst (λ (f : Fixed). GivesSlice G f.mode blob c.args.part.now.start size (get_or x.holders x.holder-index c.holder-item.result)) (sym same) slices)) [
              | inl failed ↦ inl (fails_from c.args.report.now x.report c.ask.new.report x.invariant.1.no_less failed)
              | inr all ↦ inr (λ m some in_group below. g.S.Shelf.lasts.parent IsNone _ _ 0 0 m look.still.0
                  (all m (bound m some in_group below).0
                  (subst (λ (f : Fixed). holds_parent (slice_of f blob c.args.part.now.start size) m ≡ true) (sym same) (bound m some in_group below).1)))
            ]
      ],
    )

pub returns-then-done-clause-reports : goal.returns-then-done-clause-reports
returns-then-done-clause-reports g c =
    let x = c.loop-holder in
    let G = made_of c.args.form.now g.H.Holder.gives in
    subst (λ holders. Reports g.S.Shelf.fixed_of g.S.Shelf.gained c.args.seat.now x.seat (IsHanded G c.args.holders.now) (IsHanded G holders) (sum_by g.H.Holder.count c.args.holders.now) (sum_by g.H.Holder.count holders) c.args.report.now x.report)
    (sym (set-get_or x.holders x.holder-index c.holder-item.result)) x.invariant.1

pub returns-after-loop-holder-clause-complete : goal.returns-after-loop-holder-clause-complete
returns-after-loop-holder-clause-complete g c = λ blob are served known has bound.
    let x = c.loop-holder in
    x.invariant.7 blob are served known has (omega (arith, slice_get_within c.args.holders.now has.place has.holder has.there, x.invariant.3.len, c.loop-holder-test.false)) bound

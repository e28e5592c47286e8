use Rattle.gather.proofs.Common.{false, true, refl, ◌<◌, get_or, length, inl, inr, ℕ, ◌≡◌, sym, subst, ◌∙◌, arith, sum_by, set-get_or, slice_get_within, both_ways, cases_Bool, cases_lt, Fixed, in_mask, holds_chunk}
use Rattle.gather.specs.declared.report.Report.{Report}
use Rattle.gather.specs.Counts.{Reports}
use Rattle.holders.specs.Holders.{AreLater, IsHanded}
use Rattle.gather.specs.Claims.{AmongAnd}
use Rattle.gather.proofs.Gaining.{among_and_none, among_given}
use Rattle.gather.proofs.Bits.{in_mask_zero}
use Rattle.gather.proofs.Reporting.{counted_none, starved, still_gained, later_none, among_holders, later_one, later_then, onward, onward_none}
use Rattle.gather.proofs.worker.work_part.Goals.{else-loop-holder-test, then-loop-holder-test+then-left-eq0}
use Rattle.holders.specs.Available.{GivesSlice, IsServed, slice_of}
use Rattle.gather.proofs.Serving.{fails_from, fails_until, memory_counts, get_set_after, slice_here}
use Rattle.holders.specs.Forms.{made_of}
use Rattle.gather.specs.Asked.{checked_len}
use Rattle.holders.specs.Parts.{IsFor}
use Rattle.gather.proofs.worker.work_part.Goals as goal

pub loop-holder-preserved : goal.loop-holder-preserved
loop-holder-preserved g c =
    let x = c.loop-holder in
    let met = c.ask-left.ensures in
    let group = c.args.group in
    let F = g.S.Shelf.fixed_of c.args.seat.now in
    let here : x.holder-index < length x.holders = omega (arith, c.loop-holder-test.true) in
    let one = among_holders g.S.Shelf.fixed_of g.S.Shelf.gained g.S.Shelf.goes (made_of c.args.form.now g.H.Holder.gives) g.H.Holder.count _ _ x.holders x.holder-index c.holder-item.result _ _ _ here met.reports in
    let same : g.S.Shelf.fixed_of x.seat ≡ F = g.S.Shelf.goes.keeps _ _ _ _ _ x.invariant.1.gains in (
      met.has,
      onward g.S.Shelf.fixed_of g.S.Shelf.gained g.S.Shelf.goes _ _ _ _ _ _ _ _ _ _ _ _ x.invariant.1 one,
      met.claims _ x.invariant.2,
      later_then (made_of c.args.form.now g.H.Holder.gives) _ _ _ x.invariant.3 (later_one (made_of c.args.form.now g.H.Holder.gives) x.holders x.holder-index c.holder-item.result _ met.no_more),
      λ k after. get_set_after x.holders x.holder-index k _ (omega (arith, after)) ∙ x.invariant.4 k (omega (arith, after)),
      λ n is. x.invariant.5 n (met.fewer n is),
      λ n is. elim (x.invariant.6 n is) [
        | inl left ↦ met.kept n left.0 left.1
        | inr held ↦
            let gone : in_mask group c.ask-left.result n ≡ false = elim (cases_Bool (in_mask group c.ask-left.result n)) [
              | inl is ↦ absurd (both_ways _ held.0 (met.fewer n is))
              | inr out ↦ out
            ] in
            inr (gone, g.S.Shelf.lasts.chunk _ _ _ met.reports.chunks met.reports.parents n met.reports.gains held.1)
      ],
      λ blob are served has before bound. elim (cases_lt has.place x.holder-index) [
        | inl sooner ↦ elim (x.invariant.7 blob are served has sooner bound) [
          | inl failed ↦ inl (fails_until c.args.report.now x.report c.ask-left.new.report met.reports.no_less failed)
          | inr none ↦ inr (λ n. elim (cases_Bool (in_mask group c.ask-left.result n)) [ inl is ↦ absurd (both_ways _ (none n) (met.fewer n is)) | inr out ↦ out ])
        ]
        | inr not_sooner ↦
            let at : has.place ≡ x.holder-index = omega (arith, before, not_sooner) in
            let slices : GivesSlice (made_of c.args.form.now g.H.Holder.gives) F.mode blob c.args.part.now.start (checked_len c.args.form.now c.args.part.now) (get_or x.holders x.holder-index c.holder-item.result) =
            subst (λ (k : ℕ). GivesSlice (made_of c.args.form.now g.H.Holder.gives) F.mode blob c.args.part.now.start (checked_len c.args.form.now c.args.part.now) (get_or x.holders k c.holder-item.result)) at
            (slice_here (made_of c.args.form.now g.H.Holder.gives) F.mode blob c.args.part.now.start (checked_len c.args.form.now c.args.part.now) c.args.holders.now x.holders c.holder-item.result has (x.invariant.4 has.place (omega (arith, at)))) in
            elim (met.served blob (subst (λ (f : Fixed). IsFor c.args.form.now f blob) (sym same) are) (subst (λ (f : Fixed). IsServed f blob) (sym same) served)
            (subst (λ (f : Fixed). GivesSlice (made_of c.args.form.now g.H.Holder.gives) f.mode blob c.args.part.now.start (checked_len c.args.form.now c.args.part.now) (get_or x.holders x.holder-index c.holder-item.result)) (sym same) slices) (λ n asked. (
              elim (x.invariant.6 n (x.invariant.5 n asked)) [ inl left ↦ left.1 | inr held ↦ absurd (both_ways _ held.0 asked) ],
              subst (λ (f : Fixed). holds_chunk (slice_of f blob c.args.part.now.start (checked_len c.args.form.now c.args.part.now)) n ≡ true) (sym same) (bound n (x.invariant.5 n asked)),
            ))) [
              | inl failed ↦ inl (fails_from c.args.report.now x.report c.ask-left.new.report x.invariant.1.no_less failed)
              | inr none ↦ inr none
            ]
      ],
      λ n asked below. elim (x.invariant.8 n asked below) [
        | inl granted ↦ inl granted
        | inr (inl held) ↦ inr (inl (g.S.Shelf.lasts.chunk _ _ _ met.reports.chunks met.reports.parents n met.reports.gains held))
        | inr (inr busy) ↦ inr (inr (g.S.Shelf.lasts.later _ _ _ _ met.reports.chunks met.reports.parents n met.reports.gains busy))
      ],
    )

pub returns-then-eq-clause-reports : goal.returns-then-eq-clause-reports
returns-then-eq-clause-reports g c =
    let taken = counted_none g.S.Shelf.fixed_of g.S.Shelf.gained g.S.Shelf.goes _ _ (IsHanded (made_of c.args.form.now g.H.Holder.gives) c.args.holders.now) (sum_by g.H.Holder.count c.args.holders.now) c.args.report.now
    (still_gained g.S.Shelf.fixed_of g.S.Shelf.gained g.S.Shelf.goes _ _ _ c.in-Err.ensures.gained) c.fits.ensures in
    subst (λ (y : Report). Reports g.S.Shelf.fixed_of g.S.Shelf.gained c.args.seat.now c.take.new.seat (IsHanded (made_of c.args.form.now g.H.Holder.gives) c.args.holders.now) (IsHanded (made_of c.args.form.now g.H.Holder.gives) c.args.holders.now)
    (sum_by g.H.Holder.count c.args.holders.now) (sum_by g.H.Holder.count c.args.holders.now) c.args.report.now y) (sym c.count_memory.ensures) (starved g.S.Shelf.fixed_of g.S.Shelf.gained g.S.Shelf.goes _ _ _ _ _ _ _ _ c.fits.ensures taken)

pub returns-else-eq-clause-reports : goal.returns-else-eq-clause-reports
returns-else-eq-clause-reports g c =
    counted_none g.S.Shelf.fixed_of g.S.Shelf.gained g.S.Shelf.goes _ _ _ _ _ (still_gained g.S.Shelf.fixed_of g.S.Shelf.gained g.S.Shelf.goes _ _ _ c.in-Err.ensures.gained) c.fits.ensures

pub returns-clause-claims : goal.returns-clause-claims
returns-clause-claims g c = among_given _ _ _ c.args.group _ c.loop-holder.invariant.2 c.give.ensures.claims

pub returns-clause-reports : goal.returns-clause-reports
returns-clause-reports g c =
    let same : c.loop-holder-test.holders ≡ c.loop-holder.holders = elim c.loop-holder-test.branch [
      | else-loop-holder-test w ↦ w.holders-is
      | then-loop-holder-test+then-left-eq0 w ↦ w.holders-is ∙ set-get_or c.loop-holder.holders c.loop-holder.holder-index w.holder-item.result
    ] in
    let asked = subst (λ holders. Reports g.S.Shelf.fixed_of g.S.Shelf.gained c.args.seat.now c.loop-holder.seat (IsHanded (made_of c.args.form.now g.H.Holder.gives) c.args.holders.now) (IsHanded (made_of c.args.form.now g.H.Holder.gives) holders) (sum_by g.H.Holder.count c.args.holders.now) (sum_by g.H.Holder.count holders) c.args.report.now c.loop-holder.report)
    (sym same) c.loop-holder.invariant.1 in
    onward_none g.S.Shelf.fixed_of g.S.Shelf.gained g.S.Shelf.goes _ _ _ _ _ _ _ _ _ asked c.give.ensures.gained

pub returns-then-left-eq0-2 : goal.returns-then-left-eq0-2
returns-then-left-eq0-2 g c =
    let x = c.loop-holder in
    let group = c.args.group in
    let same : c.loop-holder-test.holders ≡ x.holders = elim c.loop-holder-test.branch [
      | else-loop-holder-test w ↦ w.holders-is
      | then-loop-holder-test+then-left-eq0 w ↦ w.holders-is ∙ set-get_or x.holders x.holder-index w.holder-item.result
    ] in
    record {
      has = x.invariant.0;
      reports = subst (λ holders. Reports g.S.Shelf.fixed_of g.S.Shelf.gained c.args.seat.now x.seat (IsHanded (made_of c.args.form.now g.H.Holder.gives) c.args.holders.now) (IsHanded (made_of c.args.form.now g.H.Holder.gives) holders) (sum_by g.H.Holder.count c.args.holders.now) (sum_by g.H.Holder.count holders) c.args.report.now x.report)
          (sym same) x.invariant.1;
      later = subst (λ holders. AreLater (made_of c.args.form.now g.H.Holder.gives) c.args.holders.now holders) (sym same) x.invariant.3;
      claims = among_and_none _ _ group (subst (λ (left : ℕ). AmongAnd (g.S.Shelf.claims c.args.seat.now) group left (g.S.Shelf.claims x.seat)) c.if-left-eq0-2.true x.invariant.2);
      served = λ blob are served has wanted. inr (λ n asked. elim (x.invariant.8 n asked (omega (arith, (wanted n asked).0, served.room))) [
        | inr (inl held) ↦ inl held
        | inr (inr busy) ↦ inr busy
        | inl granted ↦ elim (x.invariant.6 n granted) [
          | inl left ↦ let in_none : in_mask group 0 n ≡ true = subst (λ (mask : ℕ). in_mask group mask n ≡ true) c.if-left-eq0-2.true left.0 in absurd (both_ways _ (in_mask_zero group n) in_none)
          | inr held ↦ inl held.1
        ]
      ]);
    }

pub returns-clause-served : goal.returns-clause-served
returns-clause-served g c = λ blob are served has wanted.
    let x = c.loop-holder in
    let group = c.args.group in
    let still = c.give.ensures.gained in
    let on : (n : ℕ) → g.S.Shelf.holds x.seat n → g.S.Shelf.holds c.give.new.seat n = λ n held. g.S.Shelf.lasts.chunk _ _ _ _ _ n still held in
    let over : has.place < x.holder-index = elim c.loop-holder-test.branch [
      | else-loop-holder-test w ↦ omega (arith, slice_get_within c.args.holders.now has.place has.holder has.there, x.invariant.3.len, w.loop-holder-test.false)
      | then-loop-holder-test+then-left-eq0 w ↦ absurd (c.if-left-eq0-2.false w.if-left-eq0.true)
    ] in
    elim (x.invariant.7 blob are served has over (λ n granted. (wanted n (c.in-Ok.ensures.granted n granted).0).1)) [
      | inl failed ↦ inl failed
      | inr none ↦ inr (λ n asked. elim (x.invariant.8 n asked (omega (arith, (wanted n asked).0, served.room))) [
        | inr (inl held) ↦ inl (on n held)
        | inr (inr busy) ↦ inr (g.S.Shelf.lasts.later _ _ _ _ _ _ n still busy)
        | inl granted ↦ elim (x.invariant.6 n granted) [
          | inl left ↦ absurd (both_ways _ (none n) left.0)
          | inr held ↦ inl (on n held.1)
        ]
      ])
    ]

pub loop-holder-init : goal.loop-holder-init
loop-holder-init g c = (
  c.in-Ok.ensures.has,
  counted_none g.S.Shelf.fixed_of g.S.Shelf.gained g.S.Shelf.goes _ _ _ _ _ (still_gained g.S.Shelf.fixed_of g.S.Shelf.gained g.S.Shelf.goes _ _ _ c.in-Ok.ensures.gained) c.fits.ensures,
  c.in-Ok.ensures.claims,
  later_none (made_of c.args.form.now g.H.Holder.gives) _,
  λ k _. refl,
  λ n is. is,
  λ n is. inl (is, (c.in-Ok.ensures.granted n is).1),
  λ blob are served has before bound. absurd (omega (arith, before)),
  c.in-Ok.ensures.rest,
)

pub returns-then-eq-clause-served : goal.returns-then-eq-clause-served
returns-then-eq-clause-served g c = λ blob are served has wanted. inl (memory_counts c.args.report.now c.args.report.now c.count_memory.new.self refl c.count_memory.ensures)

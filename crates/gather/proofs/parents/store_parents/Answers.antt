use Rattle.gather.proofs.Common.{◌≡◌, ◌∙◌, ◌⊎◌, ◌/◌, false, true, ap, inl, inr, refl, both_ways, cases_lt, IsOf, length_of, ℕ, sym, subst, arith, Fixed, piece_of}
use Rattle.gather.specs.declared.report.Report.{Report}
use Rattle.gather.specs.Counts.{Fits, HasFailedSince, Reports}
use Rattle.holders.specs.Holders.{IsIt}
use Rattle.gather.proofs.Gaining.{among_onward}
use Rattle.gather.specs.Filled.{IsOfOtherLength}
use Rattle.gather.proofs.Grouping.{held_below, parent_marked}
use Rattle.gather.proofs.Serving.{fails_from, fails_until, memory_counts}
use Rattle.holders.specs.Pieces.{holds_parent}
use Rattle.gather.proofs.Reporting.{counted_none, none_gained, onward, starved, stored_some}
use Rattle.gather.proofs.parents.store_parents.Goals.{in-Ok, in-Err+then-eq, in-Err+else-eq}
use Rattle.gather.proofs.parents.store_parents.Goals as goal

pub loop-group-init : goal.loop-group-init
loop-group-init g c = (c.requires, counted_none g.S.Shelf.fixed_of g.S.Shelf.gained g.S.Shelf.goes _ _ _ 0 _ (none_gained g.S.Shelf.fixed_of g.S.Shelf.gained g.S.Shelf.goes _ c.args.seat.now) c.fits.ensures, λ _ is. is, λ _ is. is, λ of known. inr (λ m before. absurd (omega (arith, before))))

pub loop-group-preserved : goal.loop-group-preserved
loop-group-preserved g c =
    let x = c.loop-group.report in
    let F = g.S.Shelf.fixed_of c.args.seat.now in
    let it = piece_of F.base c.args.piece.now in
    let same : g.S.Shelf.fixed_of c.loop-group.seat ≡ F = g.S.Shelf.goes.keeps _ _ _ _ _ c.loop-group.invariant.1.gains in
    let gained : (n : ℕ) → g.S.Shelf.gained (IsIt (piece_of (g.S.Shelf.fixed_of c.loop-group.seat).base c.args.piece.now)) c.loop-group.seat c.commit_parents.new.seat 0 n
    → g.S.Shelf.gained (IsIt it) c.loop-group.seat c.commit_parents.new.seat 0 n = λ n has.
    subst (λ (f : Fixed). g.S.Shelf.gained (IsIt (piece_of f.base c.args.piece.now)) c.loop-group.seat c.commit_parents.new.seat 0 n) same has in
    let Then : Report → Type 0 = λ y. Reports g.S.Shelf.fixed_of g.S.Shelf.gained c.loop-group.seat c.commit_parents.new.seat (IsIt it) (IsIt it) 0 0 x y in
    let fits : Fits x = c.fits-in-Some.ensures in
    let one : Then c.match-commit_parents.report = elim c.match-commit_parents.branch [
      | in-Ok w ↦
          subst Then (sym w.report-is) (stored_some g.S.Shelf.fixed_of g.S.Shelf.gained g.S.Shelf.goes _ _ (IsIt it) _ x 0 _ x.committed w.saturating_add-report.result (gained _ w.in-Ok.ensures.gained)
          (omega (arith, fits.0)) (omega (arith, w.saturating_add-report.ensures, w.from.ensures)))
      | in-Err+then-eq w ↦ subst Then (sym (w.report-is ∙ w.count_memory.ensures)) (starved g.S.Shelf.fixed_of g.S.Shelf.gained g.S.Shelf.goes _ _ _ _ _ _ x x fits (counted_none g.S.Shelf.fixed_of g.S.Shelf.gained g.S.Shelf.goes _ _ (IsIt it) 0 x (gained 0 w.in-Err.ensures.gained) fits))
      | in-Err+else-eq w ↦ subst Then (sym w.report-is) (counted_none g.S.Shelf.fixed_of g.S.Shelf.gained g.S.Shelf.goes _ _ (IsIt it) 0 x (gained 0 w.in-Err.ensures.gained) fits)
    ] in (
      c.commit_parents.ensures.has,
      onward g.S.Shelf.fixed_of g.S.Shelf.gained g.S.Shelf.goes _ _ _ _ _ _ _ _ _ _ _ _ c.loop-group.invariant.1 one,
      among_onward _ _ _ c.loop-group.invariant.2 c.commit_parents.ensures.claims,
      λ n is. c.commit_parents.ensures.keeps n (c.loop-group.invariant.3 n is),
      λ of known.
          let old = c.loop-group.seat in
          let new = c.commit_parents.new.seat in
          let group : ℕ = c.in-Some.group in
          let back : (f : Fixed) → (m : ℕ) → holds_parent (piece_of F.base c.args.piece.now) m ≡ true → f ≡ F → holds_parent (piece_of f.base c.args.piece.now) m ≡ true = λ f m has is.
          subst (λ (f : Fixed). holds_parent (piece_of f.base c.args.piece.now) m ≡ true) (sym is) has in
          let now_of : IsOf (g.S.Shelf.fixed_of old) c.args.piece.now = subst (λ (f : Fixed). IsOf f c.args.piece.now) (sym same) of in
          let recorded : g.S.Shelf.records old (length_of (piece_of F.base c.args.piece.now)) =
          g.S.Shelf.lasts.length _ _ _ c.loop-group.invariant.1.chunks c.loop-group.invariant.1.parents _ c.loop-group.invariant.1.gains known in
          let other : IsOfOtherLength g.S.Shelf.records old (piece_of (g.S.Shelf.fixed_of old).base c.args.piece.now) → ⊥ = λ no. no _ recorded (ap (λ (f : Fixed). length_of (piece_of f.base c.args.piece.now)) (sym same)) in
          let All : Report → Type 0 = λ y. HasFailedSince c.args.report.now y ⊎ ((m : ℕ) → m / 64 ≡ group → holds_parent it m ≡ true → g.S.Shelf.has_parent new m) in
          let here : All c.match-commit_parents.report = elim c.match-commit_parents.branch [
            | in-Ok w ↦ inr (λ m at has. w.in-Ok.ensures.parents m at (back (g.S.Shelf.fixed_of old) m has same))
            | in-Err+then-eq w ↦ inl (subst (λ (r : Report). HasFailedSince c.args.report.now r) (sym w.report-is) (fails_from c.args.report.now x w.count_memory.new.self c.loop-group.invariant.1.no_less (memory_counts x x w.count_memory.new.self refl w.count_memory.ensures)))
            | in-Err+else-eq w ↦ elim w.in-Err.ensures.refused [
              | inl memory ↦ let no : false ≡ true = rw memory at w.if-eq.ensures in cc
              | inr (inl other_root) ↦ absurd (other_root now_of)
              | inr (inr other_length) ↦ absurd (other other_length)
            ]
          ] in
          held_below g.S.Shelf.has_parent old new it c.loop-group.from group c.args.report.now x c.match-commit_parents.report (fails_until c.args.report.now x c.match-commit_parents.report one.no_less)
          (λ m. g.S.Shelf.lasts.parent _ _ _ one.chunks one.parents m one.gains)
          (λ m since before low has. both_ways _ (c.in-Some.ensures.3 (m / 64) since before) (parent_marked c.args.piece.now c.boundary_groups-groups.result F.base m c.boundary_groups-groups.ensures low has))
          here (c.loop-group.invariant.4 of known),
    )

pub returns-clause-parents : goal.returns-clause-parents
returns-clause-parents g c = λ of known.
    let F = g.S.Shelf.fixed_of c.args.seat.now in
    elim (c.loop-group.invariant.4 of known) [
      | inl failed ↦ inl failed
      | inr all ↦ inr (λ m low has. elim (cases_lt (m / 64) c.loop-group.from) [
        | inl sooner ↦ all m sooner low has
        | inr late ↦
            absurd (both_ways _ (c.in_default.ensures (m / 64) (omega (arith, late)) (omega (arith, low)))
            (parent_marked c.args.piece.now c.boundary_groups-groups.result F.base m c.boundary_groups-groups.ensures low has))
      ])
    ]

use Rattle.gather.proofs.Common.{Err, ℕ, Fixed, IsOf, ap, length, length_of, refl, sym, subst, arith, piece_of, ◌≡◌, ◌∙◌, ◌/◌, ◌%◌, ◌==◌, false, true, inl, inr, eqb-true, and_parts, both_ways, cases_Bool, Piece, has_bit, in_mask, holds_chunk}
use Rattle.holders.specs.declared.holder.HolderFault.{HolderFault}
use Rattle.gather.specs.declared.report.Report.{Report}
use Rattle.gather.specs.Counts.{Fits, Reports}
use Rattle.holders.specs.Holders.{IsGiven}
use Rattle.gather.proofs.Gaining.{among_and_onward, among_committed}
use Rattle.gather.proofs.Appending.{appended_all}
use Rattle.gather.proofs.Reporting.{starved, beside, fetch_fault, fetch_some, lost_or_failed, it_gained, narrowed, none_gained, onward, refused_done, stored_some}
use Rattle.holders.specs.Available.{slice_of}
use Rattle.gather.proofs.Bits.{in_without}
use Rattle.gather.proofs.Serving.{fails_from, memory_counts, rest_parts}
use Rattle.holders.specs.Forms.{made_of}
use Rattle.gather.specs.Asked.{checked_len}
use Rattle.holders.specs.Pieces.{holds_parent}
use Rattle.gather.proofs.Forming.{made_given, made_no_more, slice_given, slice_lost, slice_made, slice_of_store, slice_refused}
use Rattle.gather.proofs.worker.ask.Goals as goal

pub returns-in-Ok-commit-clause-claims : goal.returns-in-Ok-commit-clause-claims
returns-in-Ok-commit-clause-claims g c = λ before among.
    among_and_onward before _ _ c.args.group _ (among_committed before _ _ c.args.group c.args.left c.in-Ok-commit.committed _ c.without.ensures among c.in-Ok-commit.ensures.claims)
    c.store_parents.ensures.claims

pub returns-in-Err-clause-reports : goal.returns-in-Err-clause-reports
returns-in-Err-clause-reports g c =
    fetch_fault g.S.Shelf.fixed_of g.S.Shelf.gained g.S.Shelf.goes _ _ _ _ _ _ _ _ c.in-Err.fault (λ piece is. made_no_more c.args.form.now g.H.Holder.gives _ _ c.in-Err.ensures.no_more _ _ _ is) c.fits.ensures c.count_asked.ensures c.count_lost.ensures
    c.in-Err.ensures.counts (λ device. c.in-Err.ensures.device (ap (λ (f : HolderFault). Err f) device))

pub returns-in-Err-clause-served : goal.returns-in-Err-clause-served
returns-in-Err-clause-served g c = λ blob are served slices asked.
    elim (lost_or_failed _ _ _ c.in-Err.fault c.count_asked.ensures c.count_lost.ensures (λ device. c.in-Err.ensures.lost (ap (λ (f : HolderFault). Err f) device))) [
      | inl failed ↦ inl failed
      | inr lost ↦ absurd (slice_lost c.args.form.now g.H.Holder.gives (g.S.Shelf.fixed_of c.args.seat.now) blob c.args.holder.now c.args.part.now c.requires.part are served slices lost)
    ]

pub returns-in-Err-check-clause-reports : goal.returns-in-Err-check-clause-reports
returns-in-Err-check-clause-reports g c =
    refused_done g.S.Shelf.fixed_of g.S.Shelf.gained g.S.Shelf.goes _ _ _ _ _ _ _ _ c.in-Err-check.fault (λ piece is. made_no_more c.args.form.now g.H.Holder.gives _ _ c.in-Ok.ensures.no_more _ _ _ is) c.fits.ensures (c.in-Ok.ensures.counts, c.count_asked.ensures) c.count_refused.ensures

pub returns-in-Ok-commit-clause-reports : goal.returns-in-Ok-commit-clause-reports
returns-in-Ok-commit-clause-reports g c =
    let A = IsGiven (made_of c.args.form.now g.H.Holder.gives) c.args.holder.now in
    let given : A (piece_of (g.S.Shelf.fixed_of c.args.seat.now).base c.in-Ok-check.piece) = made_given c.args.form.now g.H.Holder.gives c.args.holder.now c.args.part.now c.as_slice.result.now _ (piece_of (g.S.Shelf.fixed_of c.args.seat.now).base c.in-Ok-check.piece) c.as_slice.ensures.value (appended_all _ _ _ c.clear.ensures.items c.in-Ok.ensures.appended) (c.in-Ok-check.ensures.made _) in
    let y = c.count_asked.new.self in
    let asked = fetch_some g.S.Shelf.fixed_of g.S.Shelf.gained g.S.Shelf.goes _ _ A A _ _ _ y (none_gained g.S.Shelf.fixed_of g.S.Shelf.gained g.S.Shelf.goes A c.args.seat.now) (λ piece is. is) c.fits.ensures (c.in-Ok.ensures.counts, c.count_asked.ensures) in
    let fits : Fits y = subst (λ (x : Report). Fits x) (sym c.count_asked.ensures) c.fits.ensures in
    let committed = stored_some g.S.Shelf.fixed_of g.S.Shelf.gained g.S.Shelf.goes _ _ A _ y _ 0 c.saturating_add-report.result y.parents (it_gained g.S.Shelf.fixed_of g.S.Shelf.gained g.S.Shelf.goes A _ _ _ _ 0 given c.in-Ok-commit.ensures.gained)
    (omega (arith, c.saturating_add-report.ensures, c.from.ensures)) (omega (arith, fits.1)) in
    let both = onward g.S.Shelf.fixed_of g.S.Shelf.gained g.S.Shelf.goes _ _ _ A A A _ _ _ _ _ _ asked committed in
    narrowed g.S.Shelf.fixed_of g.S.Shelf.gained g.S.Shelf.goes _ _ A _ _ _ _ _ (λ piece is. made_no_more c.args.form.now g.H.Holder.gives _ _ c.in-Ok.ensures.no_more _ _ _ is)
    (onward g.S.Shelf.fixed_of g.S.Shelf.gained g.S.Shelf.goes _ _ _ A A A _ _ _ _ _ _ both (beside g.S.Shelf.fixed_of g.S.Shelf.gained g.S.Shelf.goes _ _ A _ _ _ _ given c.store_parents.ensures.reports))

pub returns-in-Ok-commit-clause-fewer : goal.returns-in-Ok-commit-clause-fewer
returns-in-Ok-commit-clause-fewer g c = λ n hit. (rest_parts c.args.group c.args.left c.in-Ok-commit.committed _ n c.without.ensures hit).0

pub returns-in-Ok-commit-clause-kept : goal.returns-in-Ok-commit-clause-kept
returns-in-Ok-commit-clause-kept g c = λ n asked claimed.
    let stored = c.store_parents.ensures.reports in
    elim (cases_Bool (in_mask c.args.group c.in-Ok-commit.committed n)) [
      | inl hit ↦
          let gone : in_mask c.args.group c.without.result n ≡ false = elim (cases_Bool (in_mask c.args.group c.without.result n)) [
            | inl rest ↦ absurd (both_ways _ (rest_parts c.args.group c.args.left c.in-Ok-commit.committed _ n c.without.ensures rest).1 hit)
            | inr out ↦ out
          ] in
          inr (gone, g.S.Shelf.lasts.chunk _ _ _ stored.chunks stored.parents n stored.gains (c.in-Ok-commit.ensures.held n hit))
      | inr miss ↦
          inl (in_without c.args.group c.args.left c.in-Ok-commit.committed _ n c.without.ensures asked miss, c.store_parents.ensures.keeps n (c.in-Ok-commit.ensures.keeps n claimed miss))
    ]

pub returns-in-Ok-commit-clause-served : goal.returns-in-Ok-commit-clause-served
returns-in-Ok-commit-clause-served g c = λ blob are served slices asked.
    let F = g.S.Shelf.fixed_of c.args.seat.now in
    let text = slice_given c.args.form.now g.H.Holder.gives F.mode blob c.args.holder.now c.args.part.now c.as_slice.result.now _ c.requires.part slices c.as_slice.ensures.value (appended_all _ _ _ c.clear.ensures.items c.in-Ok.ensures.appended) in
    let is : piece_of (g.S.Shelf.fixed_of c.args.seat.now).base c.in-Ok-check.piece ≡ slice_of F blob c.args.part.now.start (checked_len c.args.form.now c.args.part.now) =
    slice_made c.args.form.now F _ c.args.part.now _ c.in-Ok-check.piece blob _ _ refl refl text c.in-Ok-check.ensures.slice in
    inr (λ n. elim (cases_Bool (in_mask c.args.group c.without.result n)) [
      | inr out ↦ out
      | inl rest ↦
          let parts = rest_parts c.args.group c.args.left c.in-Ok-commit.committed _ n c.without.ensures rest in
          let here : n / 64 ≡ c.args.group = eqb-true (n / 64) c.args.group (and_parts (n / 64 == c.args.group) (has_bit c.args.left (n % 64)) parts.0).0 in
          let known = asked n parts.0 in
          let has : holds_chunk (piece_of (g.S.Shelf.fixed_of c.args.seat.now).base c.in-Ok-check.piece) n ≡ true = subst (λ (piece : Piece). holds_chunk piece n ≡ true) (sym is) known.1 in
          absurd (both_ways _ parts.1 (c.in-Ok-commit.ensures.all n here known.0 has))
    ])

pub returns-in-Err-check-clause-served : goal.returns-in-Err-check-clause-served
returns-in-Err-check-clause-served g c = λ blob are served slices asked.
    let F = g.S.Shelf.fixed_of c.args.seat.now in
    let text = slice_given c.args.form.now g.H.Holder.gives F.mode blob c.args.holder.now c.args.part.now c.as_slice.result.now _ c.requires.part slices c.as_slice.ensures.value (appended_all _ _ _ c.clear.ensures.items c.in-Ok.ensures.appended) in
    absurd (slice_refused c.args.form.now F c.fixed-fixed.result c.args.part.now _ blob c.in-Err-check.fault are served c.fixed-fixed.ensures text c.in-Err-check.ensures.slice)

pub returns-then-eq-clause-reports : goal.returns-then-eq-clause-reports
returns-then-eq-clause-reports g c =
    let A = IsGiven (made_of c.args.form.now g.H.Holder.gives) c.args.holder.now in
    let given : A (piece_of (g.S.Shelf.fixed_of c.args.seat.now).base c.in-Ok-check.piece) = made_given c.args.form.now g.H.Holder.gives c.args.holder.now c.args.part.now c.as_slice.result.now _ (piece_of (g.S.Shelf.fixed_of c.args.seat.now).base c.in-Ok-check.piece) c.as_slice.ensures.value (appended_all _ _ _ c.clear.ensures.items c.in-Ok.ensures.appended) (c.in-Ok-check.ensures.made _) in
    let asked = fetch_some g.S.Shelf.fixed_of g.S.Shelf.gained g.S.Shelf.goes _ _ _ _ _ _ _ _ (it_gained g.S.Shelf.fixed_of g.S.Shelf.gained g.S.Shelf.goes A _ _ _ 0 0 given c.in-Err-commit.ensures.gained) (λ piece is. made_no_more c.args.form.now g.H.Holder.gives _ _ c.in-Ok.ensures.no_more _ _ _ is)
    c.fits.ensures (c.in-Ok.ensures.counts, c.count_asked.ensures) in
    subst (λ (y : Report). Reports g.S.Shelf.fixed_of g.S.Shelf.gained c.args.seat.now c.commit.new.seat A (IsGiven (made_of c.args.form.now g.H.Holder.gives) c.fetch.new.self)
    (g.H.Holder.count c.args.holder.now) (g.H.Holder.count c.fetch.new.self) c.args.report.now y) (sym c.count_memory.ensures) (starved g.S.Shelf.fixed_of g.S.Shelf.gained g.S.Shelf.goes _ _ _ _ _ _ _ _ c.fits.ensures asked)

pub returns-else-eq-clause-reports : goal.returns-else-eq-clause-reports
returns-else-eq-clause-reports g c =
    let A = IsGiven (made_of c.args.form.now g.H.Holder.gives) c.args.holder.now in
    let given : A (piece_of (g.S.Shelf.fixed_of c.args.seat.now).base c.in-Ok-check.piece) = made_given c.args.form.now g.H.Holder.gives c.args.holder.now c.args.part.now c.as_slice.result.now _ (piece_of (g.S.Shelf.fixed_of c.args.seat.now).base c.in-Ok-check.piece) c.as_slice.ensures.value (appended_all _ _ _ c.clear.ensures.items c.in-Ok.ensures.appended) (c.in-Ok-check.ensures.made _) in
    fetch_some g.S.Shelf.fixed_of g.S.Shelf.gained g.S.Shelf.goes _ _ _ _ _ _ _ _ (it_gained g.S.Shelf.fixed_of g.S.Shelf.gained g.S.Shelf.goes A _ _ _ 0 0 given c.in-Err-commit.ensures.gained) (λ piece is. made_no_more c.args.form.now g.H.Holder.gives _ _ c.in-Ok.ensures.no_more _ _ _ is)
    c.fits.ensures (c.in-Ok.ensures.counts, c.count_asked.ensures)

pub returns-else-eq-clause-served : goal.returns-else-eq-clause-served
returns-else-eq-clause-served g c = λ blob are served slices asked. elim c.in-Err-commit.ensures.refused [
  | inl memory ↦ let no : false ≡ true = rw memory at c.if-eq.ensures in cc
  | inr other ↦ absurd (other (slice_of_store c.args.form.now (g.S.Shelf.fixed_of c.args.seat.now) c.fixed-fixed.result blob c.args.part.now _ c.in-Ok-check.piece are c.fixed-fixed.ensures c.in-Ok-check.ensures.slice))
]

pub returns-then-eq-clause-served : goal.returns-then-eq-clause-served
returns-then-eq-clause-served g c = λ blob are served slices asked.
    inl (memory_counts c.args.report.now c.count_asked.new.self c.count_memory.new.self (ap (λ (r : Report). r.memory) c.count_asked.ensures) c.count_memory.ensures)

pub returns-in-Err-clause-stored : goal.returns-in-Err-clause-stored
returns-in-Err-clause-stored g c = λ blob are served known slices.
    elim (lost_or_failed _ _ _ c.in-Err.fault c.count_asked.ensures c.count_lost.ensures (λ device. c.in-Err.ensures.lost (ap (λ (f : HolderFault). Err f) device))) [
      | inl failed ↦ inl failed
      | inr lost ↦ absurd (slice_lost c.args.form.now g.H.Holder.gives (g.S.Shelf.fixed_of c.args.seat.now) blob c.args.holder.now c.args.part.now c.requires.part are served slices lost)
    ]

pub returns-in-Err-check-clause-stored : goal.returns-in-Err-check-clause-stored
returns-in-Err-check-clause-stored g c = λ blob are served known slices.
    let F = g.S.Shelf.fixed_of c.args.seat.now in
    let text = slice_given c.args.form.now g.H.Holder.gives F.mode blob c.args.holder.now c.args.part.now c.as_slice.result.now _ c.requires.part slices c.as_slice.ensures.value (appended_all _ _ _ c.clear.ensures.items c.in-Ok.ensures.appended) in
    absurd (slice_refused c.args.form.now F c.fixed-fixed.result c.args.part.now _ blob c.in-Err-check.fault are served c.fixed-fixed.ensures text c.in-Err-check.ensures.slice)

pub returns-then-eq-clause-stored : goal.returns-then-eq-clause-stored
returns-then-eq-clause-stored g c = λ blob are served known slices.
    inl (memory_counts c.args.report.now c.count_asked.new.self c.count_memory.new.self (ap (λ (r : Report). r.memory) c.count_asked.ensures) c.count_memory.ensures)

pub returns-else-eq-clause-stored : goal.returns-else-eq-clause-stored
returns-else-eq-clause-stored g c = λ blob are served known slices. elim c.in-Err-commit.ensures.refused [
  | inl memory ↦ let no : false ≡ true = rw memory at c.if-eq.ensures in cc
  | inr other ↦ absurd (other (slice_of_store c.args.form.now (g.S.Shelf.fixed_of c.args.seat.now) c.fixed-fixed.result blob c.args.part.now _ c.in-Ok-check.piece are c.fixed-fixed.ensures c.in-Ok-check.ensures.slice))
]

pub returns-in-Ok-commit-clause-stored : goal.returns-in-Ok-commit-clause-stored
returns-in-Ok-commit-clause-stored g c = λ blob are served known slices.
    let F = g.S.Shelf.fixed_of c.args.seat.now in
    let it = c.in-Ok-check.piece in
    let gained = c.in-Ok-commit.ensures.gained in
    let same : g.S.Shelf.fixed_of c.commit.new.seat ≡ F = g.S.Shelf.goes.keeps _ _ _ _ _ gained in
    let text = slice_given c.args.form.now g.H.Holder.gives F.mode blob c.args.holder.now c.args.part.now c.as_slice.result.now _ c.requires.part slices c.as_slice.ensures.value (appended_all _ _ _ c.clear.ensures.items c.in-Ok.ensures.appended) in
    let is : piece_of F.base it ≡ slice_of F blob c.args.part.now.start (checked_len c.args.form.now c.args.part.now) =
    slice_made c.args.form.now F _ c.args.part.now _ it blob _ _ refl refl text c.in-Ok-check.ensures.slice in
    let of : IsOf F it = slice_of_store c.args.form.now F c.fixed-fixed.result blob c.args.part.now _ it are c.fixed-fixed.ensures c.in-Ok-check.ensures.slice in
    let long : length_of (piece_of F.base it) ≡ length blob = ap (λ (piece : Piece). length_of piece) is ∙ served.claims c.args.part.now.start (checked_len c.args.form.now c.args.part.now) in
    let recorded : g.S.Shelf.records c.commit.new.seat (length_of (piece_of (g.S.Shelf.fixed_of c.commit.new.seat).base it)) =
    subst (λ (n : ℕ). g.S.Shelf.records c.commit.new.seat n) (sym (ap (λ (f : Fixed). length_of (piece_of f.base it)) same ∙ long)) (g.S.Shelf.lasts.length _ _ _ _ _ (length blob) gained known) in
    elim (c.store_parents.ensures.parents (subst (λ (f : Fixed). IsOf f it) (sym same) of) recorded) [
      | inl failed ↦
          let counts = c.count_asked.ensures in
          inl (fails_from c.args.report.now c.count_asked.new.self c.store_parents.new.report (omega (arith, ap (λ (r : Report). r.memory) counts), omega (arith, ap (λ (r : Report). r.failed) counts)) failed)
      | inr all ↦ inr (λ m low has. all m low
          (subst (λ (f : Fixed). holds_parent (piece_of f.base it) m ≡ true) (sym same) (subst (λ (piece : Piece). holds_parent piece m ≡ true) (sym is) has)))
    ]

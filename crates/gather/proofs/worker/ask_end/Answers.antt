use Rattle.gather.proofs.Common.{Err, ◌∙◌, ◌≡◌, false, true, ap, inl, inr, refl, sym, subst, Checked, piece_of, IsOf}
use Rattle.holders.specs.declared.holder.HolderFault.{HolderFault}
use Rattle.holders.specs.Holders.{IsGiven}
use Rattle.gather.proofs.Gaining.{among_onward}
use Rattle.gather.proofs.Appending.{appended_all}
use Rattle.gather.proofs.Reporting.{beside, fetch_fault, fetch_large, fetch_some, it_gained, lost_or_failed, narrowed, none_gained, onward, refused_done}
use Rattle.holders.specs.Available.{slice_of}
use Rattle.gather.proofs.Serving.{holds_last, never_large}
use Rattle.holders.specs.Forms.{made_of}
use Rattle.gather.proofs.Forming.{end_checked, end_reaches, end_slice, made_given, made_no_more, slice_given, slice_lost, slice_made, slice_of_store, slice_refused}
use Rattle.gather.proofs.worker.ask_end.Goals as goal

pub returns-in_default-clause-reports : goal.returns-in_default-clause-reports
returns-in_default-clause-reports g c =
    fetch_some g.S.Shelf.fixed_of g.S.Shelf.gained g.S.Shelf.goes _ _ _ _ _ _ _ _ (none_gained g.S.Shelf.fixed_of g.S.Shelf.gained g.S.Shelf.goes _ c.args.seat.now) (λ piece is. made_no_more c.args.form.now g.H.Holder.gives _ _ c.in-Ok.ensures.no_more _ _ _ is) c.fits.ensures (c.in-Ok.ensures.counts, c.count_asked.ensures)

pub returns-in-TooLarge-clause-reports : goal.returns-in-TooLarge-clause-reports
returns-in-TooLarge-clause-reports g c =
    let given : IsGiven (made_of c.args.form.now g.H.Holder.gives) c.args.holder.now (piece_of (g.S.Shelf.fixed_of c.args.seat.now).base c.in-Ok-check.piece) = made_given c.args.form.now g.H.Holder.gives c.args.holder.now c.end-part.result c.as_slice.result.now _ (piece_of (g.S.Shelf.fixed_of c.args.seat.now).base c.in-Ok-check.piece) c.as_slice.ensures.value (appended_all _ _ _ c.clear.ensures.items c.in-Ok.ensures.appended) (c.in-Ok-check.ensures.made _) in
    let of_tail = subst (λ (it : Checked). IsGiven (made_of c.args.form.now g.H.Holder.gives) c.args.holder.now (piece_of (g.S.Shelf.fixed_of c.args.seat.now).base it)) (sym c.in-Some.ensures.piece) given in
    fetch_large g.S.Shelf.fixed_of g.S.Shelf.gained g.S.Shelf.goes _ _ _ _ _ _ _ _ _ c.in-TooLarge.ensures.still.0 (λ piece is. made_no_more c.args.form.now g.H.Holder.gives _ _ c.in-Ok.ensures.no_more _ _ _ is) c.fits.ensures (c.in-Ok.ensures.counts, c.count_asked.ensures) of_tail
    (c.in-TooLarge.ensures.large refl)

pub returns-in-Err-clause-reports : goal.returns-in-Err-clause-reports
returns-in-Err-clause-reports g c =
    fetch_fault g.S.Shelf.fixed_of g.S.Shelf.gained g.S.Shelf.goes _ _ _ _ _ _ _ _ c.in-Err.fault (λ piece is. made_no_more c.args.form.now g.H.Holder.gives _ _ c.in-Err.ensures.no_more _ _ _ is) c.fits.ensures c.count_asked.ensures c.count_lost.ensures
    c.in-Err.ensures.counts (λ device. c.in-Err.ensures.device (ap (λ (f : HolderFault). Err f) device))

pub returns-in-Err-clause-agreed : goal.returns-in-Err-clause-agreed
returns-in-Err-clause-agreed g c = λ blob start len are served end slices.
    elim (lost_or_failed _ _ _ c.in-Err.fault c.count_asked.ensures c.count_lost.ensures (λ device. c.in-Err.ensures.lost (ap (λ (f : HolderFault). Err f) device))) [
      | inl failed ↦ inl failed
      | inr lost ↦ absurd (slice_lost c.args.form.now g.H.Holder.gives (g.S.Shelf.fixed_of c.args.seat.now) blob c.args.holder.now c.end-part.result c.end-part.ensures.part are served
          (end_slice c.args.form.now g.H.Holder.gives (g.S.Shelf.fixed_of c.args.seat.now).mode blob c.args.holder.now c.end-part.result start len c.end-part.ensures.end end slices) lost)
    ]

pub returns-in-Err-check-clause-reports : goal.returns-in-Err-check-clause-reports
returns-in-Err-check-clause-reports g c =
    refused_done g.S.Shelf.fixed_of g.S.Shelf.gained g.S.Shelf.goes _ _ _ _ _ _ _ _ c.in-Err-check.fault (λ piece is. made_no_more c.args.form.now g.H.Holder.gives _ _ c.in-Ok.ensures.no_more _ _ _ is) c.fits.ensures (c.in-Ok.ensures.counts, c.count_asked.ensures) c.count_refused.ensures

pub returns-in_default-settle : goal.returns-in_default-settle
returns-in_default-settle g c =
    let A = IsGiven (made_of c.args.form.now g.H.Holder.gives) c.args.holder.now in
    let given : A (piece_of (g.S.Shelf.fixed_of c.args.seat.now).base c.in-Ok-check.piece) = made_given c.args.form.now g.H.Holder.gives c.args.holder.now c.end-part.result c.as_slice.result.now _ (piece_of (g.S.Shelf.fixed_of c.args.seat.now).base c.in-Ok-check.piece) c.as_slice.ensures.value (appended_all _ _ _ c.clear.ensures.items c.in-Ok.ensures.appended) (c.in-Ok-check.ensures.made _) in
    let of_tail = subst (λ (it : Checked). A (piece_of (g.S.Shelf.fixed_of c.args.seat.now).base it)) (sym c.in-Some.ensures.piece) given in
    let settled = fetch_some g.S.Shelf.fixed_of g.S.Shelf.gained g.S.Shelf.goes _ _ A A _ _ _ _ (it_gained g.S.Shelf.fixed_of g.S.Shelf.gained g.S.Shelf.goes A _ _ _ 0 0 of_tail c.settle.ensures.still.0) (λ piece is. is) c.fits.ensures (c.in-Ok.ensures.counts, c.count_asked.ensures) in
    record {
      has = c.store_parents.ensures.has;
      reports = narrowed g.S.Shelf.fixed_of g.S.Shelf.gained g.S.Shelf.goes _ _ A _ _ _ _ _ (λ piece is. made_no_more c.args.form.now g.H.Holder.gives _ _ c.in-Ok.ensures.no_more _ _ _ is)
          (onward g.S.Shelf.fixed_of g.S.Shelf.gained g.S.Shelf.goes _ _ _ A A A _ _ _ _ _ _ settled (beside g.S.Shelf.fixed_of g.S.Shelf.gained g.S.Shelf.goes _ _ A _ _ _ _ given c.store_parents.ensures.reports));
      no_more = made_no_more c.args.form.now g.H.Holder.gives _ _ c.in-Ok.ensures.no_more;
      large = λ no. cc;
      agreed = λ blob start len are served end slices.
          let stored = c.store_parents.ensures.reports in
          let F = g.S.Shelf.fixed_of c.args.seat.now in
          let here = end_slice c.args.form.now g.H.Holder.gives F.mode blob c.args.holder.now c.end-part.result start len c.end-part.ensures.end end slices in
          let text = slice_given c.args.form.now g.H.Holder.gives F.mode blob c.args.holder.now c.end-part.result c.as_slice.result.now _ c.end-part.ensures.part here c.as_slice.ensures.value (appended_all _ _ _ c.clear.ensures.items c.in-Ok.ensures.appended) in
          let at = end_checked c.args.form.now c.end-part.result start len c.end-part.ensures.end end in
          let is : piece_of (g.S.Shelf.fixed_of c.args.seat.now).base c.in-Ok-check.piece ≡ slice_of F blob start len = slice_made c.args.form.now F _ c.end-part.result _ c.in-Ok-check.piece blob start len at.0 at.1 text c.in-Ok-check.ensures.slice in
          let tail_is = ap (λ (it : Checked). piece_of (g.S.Shelf.fixed_of c.args.seat.now).base it) c.in-Some.ensures.piece ∙ is in
          let of : IsOf F c.in-Ok-check.piece = slice_of_store c.args.form.now F c.fixed-fixed.result blob c.end-part.result _ c.in-Ok-check.piece are c.fixed-fixed.ensures c.in-Ok-check.ensures.slice in
          let known = c.settle.ensures.records (λ large. never_large F _ blob _ _ served tail_is (c.settle.ensures.large large))
          (λ other. c.settle.ensures.other other (subst (λ (it : Checked). IsOf F it) (sym c.in-Some.ensures.piece) of)) in
          inr (known.0, g.S.Shelf.lasts.length _ _ _ stored.chunks stored.parents known.0 stored.gains known.1);
      claims = among_onward _ _ _ c.settle.ensures.still.1 c.store_parents.ensures.claims;
    }

pub returns-in_default-clause-agreed : goal.returns-in_default-clause-agreed
returns-in_default-clause-agreed g c = λ blob start len are served end slices.
    let F = g.S.Shelf.fixed_of c.args.seat.now in
    let here = end_slice c.args.form.now g.H.Holder.gives F.mode blob c.args.holder.now c.end-part.result start len c.end-part.ensures.end end slices in
    let text = slice_given c.args.form.now g.H.Holder.gives F.mode blob c.args.holder.now c.end-part.result c.as_slice.result.now _ c.end-part.ensures.part here c.as_slice.ensures.value (appended_all _ _ _ c.clear.ensures.items c.in-Ok.ensures.appended) in
    let at = end_checked c.args.form.now c.end-part.result start len c.end-part.ensures.end end in
    let is : piece_of (g.S.Shelf.fixed_of c.args.seat.now).base c.in-Ok-check.piece ≡ slice_of F blob start len = slice_made c.args.form.now F _ c.end-part.result _ c.in-Ok-check.piece blob start len at.0 at.1 text c.in-Ok-check.ensures.slice in
    let no : false ≡ true = c.in_default.ensures.there.1 (holds_last F c.in-Ok-check.piece blob start len served (end_reaches c.args.form.now F blob start len are served end) is) in
    cc

pub returns-in-TooLarge-clause-agreed : goal.returns-in-TooLarge-clause-agreed
returns-in-TooLarge-clause-agreed g c = λ blob start len are served end slices.
    let F = g.S.Shelf.fixed_of c.args.seat.now in
    let here = end_slice c.args.form.now g.H.Holder.gives F.mode blob c.args.holder.now c.end-part.result start len c.end-part.ensures.end end slices in
    let text = slice_given c.args.form.now g.H.Holder.gives F.mode blob c.args.holder.now c.end-part.result c.as_slice.result.now _ c.end-part.ensures.part here c.as_slice.ensures.value (appended_all _ _ _ c.clear.ensures.items c.in-Ok.ensures.appended) in
    let at = end_checked c.args.form.now c.end-part.result start len c.end-part.ensures.end end in
    let is : piece_of (g.S.Shelf.fixed_of c.args.seat.now).base c.in-Ok-check.piece ≡ slice_of F blob start len = slice_made c.args.form.now F _ c.end-part.result _ c.in-Ok-check.piece blob start len at.0 at.1 text c.in-Ok-check.ensures.slice in
    let tail_is = ap (λ (it : Checked). piece_of (g.S.Shelf.fixed_of c.args.seat.now).base it) c.in-Some.ensures.piece ∙ is in
    absurd (never_large F _ blob _ _ served tail_is (c.in-TooLarge.ensures.large refl))

pub returns-in-TooLarge-clause-large : goal.returns-in-TooLarge-clause-large
returns-in-TooLarge-clause-large g c = λ _.
    let A = IsGiven (made_of c.args.form.now g.H.Holder.gives) c.args.holder.now in
    let given : A (piece_of (g.S.Shelf.fixed_of c.args.seat.now).base c.in-Ok-check.piece) = made_given c.args.form.now g.H.Holder.gives c.args.holder.now c.end-part.result c.as_slice.result.now _ (piece_of (g.S.Shelf.fixed_of c.args.seat.now).base c.in-Ok-check.piece) c.as_slice.ensures.value (appended_all _ _ _ c.clear.ensures.items c.in-Ok.ensures.appended) (c.in-Ok-check.ensures.made _) in
    (refl, record { piece = _; from = subst (λ (it : Checked). A (piece_of (g.S.Shelf.fixed_of c.args.seat.now).base it)) (sym c.in-Some.ensures.piece) given; large = c.in-TooLarge.ensures.large refl })

pub returns-in-Err-check-clause-agreed : goal.returns-in-Err-check-clause-agreed
returns-in-Err-check-clause-agreed g c = λ blob start len are served end slices.
    let F = g.S.Shelf.fixed_of c.args.seat.now in
    let here = end_slice c.args.form.now g.H.Holder.gives F.mode blob c.args.holder.now c.end-part.result start len c.end-part.ensures.end end slices in
    let text = slice_given c.args.form.now g.H.Holder.gives F.mode blob c.args.holder.now c.end-part.result c.as_slice.result.now _ c.end-part.ensures.part here c.as_slice.ensures.value (appended_all _ _ _ c.clear.ensures.items c.in-Ok.ensures.appended) in
    absurd (slice_refused c.args.form.now F c.fixed-fixed.result c.end-part.result _ blob c.in-Err-check.fault are served c.fixed-fixed.ensures text c.in-Err-check.ensures.slice)

use Rattle.std.proofs.Common.{List, [], ◌∷◌, inl, inr, subst, sym}
use Rattle.b3tree.specs.declared.mode.Mode.{Mode}
use Rattle.b3tree.specs.Valid.{IsKeyed}
use Rattle.gather.specs.Seats.{fixed_of as fixed_at}
use Rattle.gather.proofs.Forming.{slices_parts}
use Rattle.holders.specs.declared.form.Form.TheVariants.{Slices}
use Rattle.holders.specs.declared.grain.Grain.TheVariants.{Group as ByGroup}
use Rattle.gather.specs.declared.report.Report.{Report}
use Rattle.holders.specs.Encodings.{EncodedBytes, IsCut}
use Rattle.berylwool.specs.Gathering.{CompletesOn, GathersOn, report_of}
use Rattle.berylwool.proofs.Rounds.{gathers, told_out}
use Rattle.berylwool.proofs.gathering.gathered.Goals as goal

pub returns-clause-gathers : goal.returns-clause-gathers
returns-clause-gathers c =
    let holders : List EncodedBytes = c.new.result ∷ [] in
    let close = c.closing_round.new in
    let met = c.closing_round.ensures in
    let done = gathers ByGroup c.args.store.now c.args.text.now c.new.result close.holders c.counts-all.result close.report c.args.seat.now close.seat
    (subst (λ (mode : Mode). IsKeyed mode) c.mode.ensures c.is_keyed.ensures) (λ i. (c.new.ensures i).now) c.requires met.has met.reports met.claims
    (λ blob can have. elim (met.complete blob tt can (slices_parts Slices ByGroup IsCut (fixed_at c.args.seat.now).mode blob holders tt have)) [
      | inl failed ↦ inl failed
      | inr (inl large) ↦ inr (inl large)
      | inr (inr both) ↦ inr (inr both.0)
    ]) in
    subst (λ (report : Report). GathersOn c.args.text.now report (report_of c.shown.result) c.args.seat.now close.seat) c.counts-all.ensures
    (subst (λ (report : Report). GathersOn c.args.text.now c.counts-all.result report c.args.seat.now close.seat) (sym c.shown.ensures) done)

pub returns-clause-completes : goal.returns-clause-completes
returns-clause-completes c =
    let holders : List EncodedBytes = c.new.result ∷ [] in
    let close = c.closing_round.new in
    let met = c.closing_round.ensures in
    let done : CompletesOn c.args.text.now c.counts-all.result close.report c.args.seat.now close.seat = λ blob can slices.
    told_out ByGroup c.args.text.now c.new.result c.counts-all.result close.report c.args.seat.now blob (λ i. (c.new.ensures i).now) slices
    (λ have. elim (met.complete blob tt can (slices_parts Slices ByGroup IsCut (fixed_at c.args.seat.now).mode blob holders tt have)) [
      | inl failed ↦ inl failed
      | inr (inl large) ↦ inr (inl large)
      | inr (inr both) ↦ inr (inr both.1)
    ]) in
    subst (λ (report : Report). CompletesOn c.args.text.now report (report_of c.shown.result) c.args.seat.now close.seat) c.counts-all.ensures
    (subst (λ (report : Report). CompletesOn c.args.text.now c.counts-all.result report c.args.seat.now close.seat) (sym c.shown.ensures) done)

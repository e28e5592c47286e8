use Rattle.std.proofs.Common.{◌≡◌, ◌∙◌, ◌<◌, ◌≤◌, ℕ, List, false, true, length, ap, inl, inr, refl, subst, sym}
use Rattle.std.proofs.lemmas.Bool.{cases_lt}
use Rattle.store_shared.specs.Serving.{SeatIsRefused}
use Rattle.store_core.specs.declared.fault.ServeFault.{ServeFault}
use Rattle.store_core.specs.declared.history.Serving.TheVariants.{Lacking, Text}
use Rattle.store_shared.specs.Seats.{fixed_of}
use Rattle.berylwool.proofs.SeatCalls.{serves}
use Rattle.berylwool.proofs.Wholes.{serve_whole}
use Rattle.berylwool.proofs.serving.served.Goals as goal

pub returns-else-not-put-clause-serves : goal.returns-else-not-put-clause-serves
returns-else-not-put-clause-serves c = λ _.
    serves c.args.start c.args.len c.in-Ok.text.items c.as_slice.result.now _ c.put.new.out c.len.result c.args.seat.now c.serve_slice.new.seat
    c.as_slice.ensures.value (c.len.ensures ∙ sym c.as_slice.ensures.len) (c.if-not-put.ensures.text refl) c.in-Ok.ensures.served c.in-Ok.ensures.binds c.in-Ok.ensures.accepted

pub returns-then-not-put-clause-whole : goal.returns-then-not-put-clause-whole
returns-then-not-put-clause-whole c = λ _ _.
    serve_whole (fixed_of c.args.store.now) c.args.seat.now.view c.serve_slice.new.seat.view c.args.start c.args.len (Text c.in-Ok.text.items) tt
    c.in-Ok.ensures.of.knows.fixed_is c.in-Ok.ensures.served

pub returns-else-not-put-clause-whole : goal.returns-else-not-put-clause-whole
returns-else-not-put-clause-whole c = λ _ _.
    serve_whole (fixed_of c.args.store.now) c.args.seat.now.view c.serve_slice.new.seat.view c.args.start c.args.len (Text c.in-Ok.text.items) tt
    c.in-Ok.ensures.of.knows.fixed_is c.in-Ok.ensures.served

pub returns-in-Err-Lacking-clause-whole : goal.returns-in-Err-Lacking-clause-whole
returns-in-Err-Lacking-clause-whole c = λ _ _.
    let refused = subst (λ (fault : ServeFault). SeatIsRefused c.args.start c.args.len fault c.args.seat.now.view c.serve_slice.new.seat.view)
    c.in-Err-Lacking.field-0-is c.in-Err-Lacking.ensures.refused in
    serve_whole (fixed_of c.args.store.now) c.args.seat.now.view c.serve_slice.new.seat.view c.args.start c.args.len (Lacking c.in-Err-Lacking.node) tt
    c.in-Err-Lacking.ensures.of.knows.fixed_is refused

pub returns-then-not-put-clause-no_room : goal.returns-then-not-put-clause-no_room
returns-then-not-put-clause-no_room c = λ _.
    let text : List ℕ = c.in-Ok.text.items in
    let is : length c.as_slice.result.now ≡ length text = ap (λ (xs : List ℕ). length xs) c.as_slice.ensures.value in
    let more : length c.args.out.now < length text = elim (cases_lt (length c.args.out.now) (length text)) [
      | inl less ↦ less
      | inr fits ↦
          let no : false ≡ true = c.if-not-put.ensures.fits.1 (subst (λ (n : ℕ). n ≤ length c.args.out.now) (sym is) fits) in cc
    ] in
    (text, record { called = c.in-Ok.ensures.served; binds = c.in-Ok.ensures.binds; accepted = c.in-Ok.ensures.accepted }, more, c.len.ensures ∙ sym c.as_slice.ensures.len ∙ is)

use Rattle.gather.proofs.SeatCommon.{ℕ, List, [], ◌++◌, ◌∙◌, ap, append-nil, inl, inr, refl, rules, eqb-true, length, vec_len, ◌≡◌, subst, sym, ServeFault, Serve, Lacking, NoLength, Text, SeatIsRefused, Called}
use Rattle.std.proofs.lemmas.List.{nil_from_length}
use Rattle.gather.specs.Peers.{Peered}
use Rattle.gather.proofs.Giving.{fetch_gives, fetch_no_more, fetch_serves, starve_no_more}
use Rattle.gather.proofs.peer.PeerHolder.fetch.Goals as goal

pub returns-in-Err-NoLength-clause-fetches : goal.returns-in-Err-NoLength-clause-fetches
returns-in-Err-NoLength-clause-fetches c =
    let refused = subst (λ (f : ServeFault). SeatIsRefused c.args.start c.args.len f c.self.inside.seat.view c.serve_slice.new.seat.view) c.in-Err-NoLength.field-0-is
    c.in-Err-NoLength.ensures.refused in
    let called : Called (Serve c.args.start c.args.len NoLength) c.args.self.now.seat.view c.serve_slice.new.seat.view =
    subst (λ (p : Peered). Called (Serve c.args.start c.args.len NoLength) p.seat.view c.serve_slice.new.seat.view) c.self.view_is refused in
    record { text = []; is = sym (append-nil c.args.into.now.items); served = inr (refl, inl called); binds = inl refl; accepted = inl refl }

pub returns-in-Err-Lacking-clause-fetches : goal.returns-in-Err-Lacking-clause-fetches
returns-in-Err-Lacking-clause-fetches c =
    let node = c.in-Err-Lacking.field-0-0 in
    let refused = subst (λ (f : ServeFault). SeatIsRefused c.args.start c.args.len f c.self.inside.seat.view c.serve_slice.new.seat.view) c.in-Err-Lacking.field-0-is
    c.in-Err-Lacking.ensures.refused in
    let called : Called (Serve c.args.start c.args.len (Lacking node)) c.args.self.now.seat.view c.serve_slice.new.seat.view =
    subst (λ (p : Peered). Called (Serve c.args.start c.args.len (Lacking node)) p.seat.view c.serve_slice.new.seat.view) c.self.view_is refused in
    record { text = []; is = sym (append-nil c.args.into.now.items); served = inr (refl, inr (node, called)); binds = inl refl; accepted = inl refl }

pub returns-in-Ok-extend_from_slice-clause-fetches : goal.returns-in-Ok-extend_from_slice-clause-fetches
returns-in-Ok-extend_from_slice-clause-fetches c =
    let text = c.in-Ok.text.items in
    let called : Called (Serve c.args.start c.args.len (Text text)) c.args.self.now.seat.view c.serve_slice.new.seat.view =
    subst (λ (p : Peered). Called (Serve c.args.start c.args.len (Text text)) p.seat.view c.serve_slice.new.seat.view) c.self.view_is c.in-Ok.ensures.served in
    record { text = text; is = c.in-Ok-extend_from_slice.ensures.items ∙ ap (λ (xs : List ℕ). c.args.into.now.items ++ xs) c.as_slice.ensures.value; served = inl called; binds = inr c.in-Ok.ensures.binds; accepted = inr c.in-Ok.ensures.accepted }

pub returns-in-Err-NoLength-clause-gives : goal.returns-in-Err-NoLength-clause-gives
returns-in-Err-NoLength-clause-gives c = fetch_gives _ _ _ _ _ _ (returns-in-Err-NoLength-clause-fetches c)

pub returns-in-Err-Lacking-clause-gives : goal.returns-in-Err-Lacking-clause-gives
returns-in-Err-Lacking-clause-gives c = fetch_gives _ _ _ _ _ _ (returns-in-Err-Lacking-clause-fetches c)

pub returns-in-Ok-extend_from_slice-clause-gives : goal.returns-in-Ok-extend_from_slice-clause-gives
returns-in-Ok-extend_from_slice-clause-gives c = fetch_gives _ _ _ _ _ _ (returns-in-Ok-extend_from_slice-clause-fetches c)

pub returns-then-is_empty-clause-fetches : goal.returns-then-is_empty-clause-fetches
returns-then-is_empty-clause-fetches c =
    let text = c.in-Ok.text.items in
    let called : Called (Serve c.args.start c.args.len (Text text)) c.args.self.now.seat.view c.serve_slice.new.seat.view =
    subst (λ (p : Peered). Called (Serve c.args.start c.args.len (Text text)) p.seat.view c.serve_slice.new.seat.view) c.self.view_is c.in-Ok.ensures.served in
    let long : vec_len c.args.into.now ≡ length c.args.into.now.items = search rules in
    let empty : c.args.into.now.items ≡ [] = nil_from_length c.args.into.now.items (sym long ∙ eqb-true (vec_len c.args.into.now) 0 (sym c.if-is_empty.ensures)) in
    record { text = text; is = ap (λ (xs : List ℕ). xs ++ text) (sym empty); served = inl called; binds = inr c.in-Ok.ensures.binds; accepted = inr c.in-Ok.ensures.accepted }

pub returns-then-is_empty-clause-gives : goal.returns-then-is_empty-clause-gives
returns-then-is_empty-clause-gives c = fetch_gives _ _ _ _ _ _ (returns-then-is_empty-clause-fetches c)

pub returns-in-Err-NoLength-clause-appended : goal.returns-in-Err-NoLength-clause-appended
returns-in-Err-NoLength-clause-appended c = fetch_serves c.args.self.now _ _ _ _ _ (returns-in-Err-NoLength-clause-fetches c)

pub returns-in-Err-NoLength-clause-no_more : goal.returns-in-Err-NoLength-clause-no_more
returns-in-Err-NoLength-clause-no_more c = fetch_no_more c.args.self.now _ _ _ _ _ (returns-in-Err-NoLength-clause-fetches c)

pub returns-in-Err-Lacking-clause-appended : goal.returns-in-Err-Lacking-clause-appended
returns-in-Err-Lacking-clause-appended c = fetch_serves c.args.self.now _ _ _ _ _ (returns-in-Err-Lacking-clause-fetches c)

pub returns-in-Err-Lacking-clause-no_more : goal.returns-in-Err-Lacking-clause-no_more
returns-in-Err-Lacking-clause-no_more c = fetch_no_more c.args.self.now _ _ _ _ _ (returns-in-Err-Lacking-clause-fetches c)

pub returns-in-Ok-extend_from_slice-clause-appended : goal.returns-in-Ok-extend_from_slice-clause-appended
returns-in-Ok-extend_from_slice-clause-appended c = fetch_serves c.args.self.now _ _ _ _ _ (returns-in-Ok-extend_from_slice-clause-fetches c)

pub returns-in-Ok-extend_from_slice-clause-no_more : goal.returns-in-Ok-extend_from_slice-clause-no_more
returns-in-Ok-extend_from_slice-clause-no_more c = fetch_no_more c.args.self.now _ _ _ _ _ (returns-in-Ok-extend_from_slice-clause-fetches c)

pub returns-then-is_empty-clause-appended : goal.returns-then-is_empty-clause-appended
returns-then-is_empty-clause-appended c = fetch_serves c.args.self.now _ _ _ _ _ (returns-then-is_empty-clause-fetches c)

pub returns-then-is_empty-clause-no_more : goal.returns-then-is_empty-clause-no_more
returns-then-is_empty-clause-no_more c = fetch_no_more c.args.self.now _ _ _ _ _ (returns-then-is_empty-clause-fetches c)

pub returns-clause-no_more : goal.returns-clause-no_more
returns-clause-no_more c =
    let text = c.in-Ok.text.items in
    let called : Called (Serve c.args.start c.args.len (Text text)) c.args.self.now.seat.view c.serve_slice.new.seat.view =
    subst (λ (p : Peered). Called (Serve c.args.start c.args.len (Text text)) p.seat.view c.serve_slice.new.seat.view) c.self.view_is c.in-Ok.ensures.served in
    starve_no_more c.args.self.now _ c.args.start c.args.len (inr (text, called))

-- What a peer gives of a slice whose nodes its store holds.
use Rattle.gather.proofs.SeatCommon.{◌≡◌, ◌∙◌, ℕ, List, ◌∷◌, [], ◌++◌, append_assoc, ap, sym, subst, inl, inr, Event, Fixed, Lacking, NoLength, Serve, Text, IsLegal, legal-append, empty, state_after, right_there, Called, event_of, SeatView}
use Rattle.gather.specs.Peers.{Fetches, IsFetchCall, MayServe, Peered, Starves, text_of}
use Rattle.holders.specs.Holders.{Appends, GivesNoMore}
use Rattle.store_core.specs.Knowledge.{GoesOn}
use Rattle.store_core.specs.Serves.{serving}
use Rattle.store_core.specs.declared.history.Serving.{Serving}
use Rattle.store_shared.proofs.ServedSlices.{served_there}

same_text : (x y : List ℕ) → Text x ≡ Text y → x ≡ y
same_text x y e = cc

-- so a fetch appends it
pub fetch_gives : (start len : ℕ) (before after : List ℕ) (old new : SeatView) → Fetches start len before after old new → (text : List ℕ)
    → serving (state_after old.seen) start len ≡ Text text → after ≡ before ++ text
fetch_gives start len before after old new fetched text is = elim fetched.served [
  | inl called ↦
      fetched.is ∙ ap (λ (xs : List ℕ). before ++ xs) (same_text fetched.text text (served_there start len (Text fetched.text) old new text called is))
  | inr (none, inl called) ↦ let no : NoLength ≡ Text text = served_there start len NoLength old new text called is in cc
  | inr (none, inr lacks) ↦ let no : Lacking lacks.0 ≡ Text text = served_there start len (Lacking lacks.0) old new text lacks.1 is in cc
]

-- what is given after more was seen might have been given before
pub goes_no_more : (old new : Peered) (between own : List Event) → GoesOn old.seat.view new.seat.view between own → GivesNoMore MayServe old new
goes_no_more old new between own on start len text is =
    let same : new.seat.view.seen ++ is.more ≡ old.seat.view.seen ++ (between ++ (own ++ is.more)) =
    ap (λ (seen : List Event). seen ++ is.more) on.seen_is ∙ append_assoc (old.seat.view.seen ++ between) own is.more ∙ append_assoc old.seat.view.seen between (own ++ is.more) in
    record {
      more = between ++ (own ++ is.more);
      legal = subst (λ (h : List Event). IsLegal old.seat.view.fixed h) same (subst (λ (f : Fixed). IsLegal f (new.seat.view.seen ++ is.more)) on.fixed_is is.legal);
      is = is.is ∙ ap (λ (h : List Event). text_of (serving (state_after h) start len)) same;
    }

-- the text of a call's answer may be given
call_serves : (peer : Peered) (start len : ℕ) (answer : Serving) (new : SeatView) → Called (Serve start len answer) peer.seat.view new → MayServe peer start len (text_of answer)
call_serves peer start len answer new called =
    let view : SeatView = peer.seat.view in
    let there : List Event = view.seen ++ called.between in
    record {
      more = called.between;
      legal = subst (λ (f : Fixed). IsLegal f there) called.goes_on.fixed_is (legal-append new.fixed empty there (event_of view (Serve start len answer) ∷ [])
          (subst (λ (h : List Event). IsLegal new.fixed h) called.goes_on.seen_is called.goes_on.legal)).0;
      is = ap text_of (right_there (Serve start len answer) view new called);
    }

fetched_serves : (peer : Peered) (start len : ℕ) (text : List ℕ) (new : SeatView) → IsFetchCall start len text peer.seat.view new → MayServe peer start len text
fetched_serves peer start len text new (inl called) = call_serves peer start len (Text text) new called
fetched_serves peer start len text new (inr (none, inl called)) =
    subst (λ (t : List ℕ). MayServe peer start len t) (sym none) (call_serves peer start len NoLength new called)
fetched_serves peer start len text new (inr (none, inr lacks)) =
    subst (λ (t : List ℕ). MayServe peer start len t) (sym none) (call_serves peer start len (Lacking lacks.0) new lacks.1)

-- so is what a fetch appends
pub fetch_serves : (peer : Peered) (start len : ℕ) (before after : List ℕ) (new : SeatView) → Fetches start len before after peer.seat.view new
    → Appends (MayServe peer start len) before after
fetch_serves peer start len before after new fetched = record { text = fetched.text; is = fetched.is; given = fetched_serves peer start len fetched.text new fetched.served }

fetched_no_more : (old new : Peered) (start len : ℕ) (text : List ℕ) → IsFetchCall start len text old.seat.view new.seat.view → GivesNoMore MayServe old new
fetched_no_more old new start len text (inl called) = goes_no_more old new called.between _ called.goes_on
fetched_no_more old new start len text (inr (none, inl called)) = goes_no_more old new called.between _ called.goes_on
fetched_no_more old new start len text (inr (none, inr lacks)) = goes_no_more old new lacks.1.between _ lacks.1.goes_on

pub fetch_no_more : (old new : Peered) (start len : ℕ) (before after : List ℕ) → Fetches start len before after old.seat.view new.seat.view → GivesNoMore MayServe old new
fetch_no_more old new start len before after fetched = fetched_no_more old new start len fetched.text fetched.served

pub starve_no_more : (old new : Peered) (start len : ℕ) → Starves start len old.seat.view new.seat.view → GivesNoMore MayServe old new
starve_no_more old new start len (inl sees) = goes_no_more old new sees.between _ sees.goes_on
starve_no_more old new start len (inr served) = goes_no_more old new served.1.between _ served.1.goes_on

-- What a call of a shared store leaves its seat to know.
use Rattle.gather.proofs.SeatCommon.{◌≡◌, not, is_some, both_ways, AreAllNames, SeatIsUnstored, Parents, Named, some_bytes, after, ◌≢◌, ℕ, ◌/◌, ◌%◌, ◌==◌, true, ◌&&◌, List, [], ◌∷◌, ◌++◌, Option, None, Some, IfSome, refl, sym, ap, subst, ◌∙◌, inl, inr, eqb-true, eq-eqb, and_from, and_parts, cases_Bool, Checked, IsWanted, Fixed, Commit, Length, Settle, Take, Event, Piece, Settling, Differs, Known, OtherRoot, Settled, TooLarge, is_free, recorded_after, settling, IsLegal, state_after, has_bit, in_mask, holds_chunk, length_of, piece_of, State, empty, legal-append, record_lasts, run-append, SeatSettles, length_there, right_there, Gripped, Called, event_of}
use Rattle.gather.specs.SeatLasting.{HasParentOn, RecordsOn}
use Rattle.gather.specs.Filled.{IsOfOtherLength}
use Rattle.store_shared.specs.Parents.{AreAllParents}
use Rattle.store_core.proofs.ParentOrigins.{parent_lasts}
use Rattle.holders.specs.Pieces.{holds_parent}
use Rattle.store_core.specs.declared.history.Storing.TheVariants as storing
use Rattle.store_shared.specs.declared.fault.ParentsFault.TheVariants as unstored
use Rattle.gather.specs.Seats.{claims_of}
use Rattle.gather.proofs.Sharing.{claimed_there}

pub granted_there : (old new : Gripped) (group want granted : ℕ) → Called (Take group want granted) old.view new.view → (c : ℕ) → in_mask group granted c ≡ true
    → IsWanted group want c × (claims_of new c ≡ true)
granted_there old new group want granted called c hit =
    let right = right_there (Take group want granted) old.view new.view called in
    let parts = and_parts (c / 64 == group) (has_bit granted (c % 64)) hit in
    let here : c / 64 ≡ group = eqb-true (c / 64) group parts.0 in
    let both : (has_bit want (c % 64) && is_free new.view.fixed (state_after (old.view.seen ++ called.between)) c) ≡ true = sym (right.bits c here) ∙ parts.1 in
    let wanted : IsWanted group want c = (here, (and_parts _ _ both).0) in
    (wanted, called.claims_are c ∙ rw hit refl)

pub all_there : (old new : Gripped) (group : ℕ) (piece : Piece) (committed : ℕ) → Called (Commit group piece committed) old.view new.view
    → (c : ℕ) → c / 64 ≡ group → claims_of old c ≡ true → holds_chunk piece c ≡ true → in_mask group committed c ≡ true
all_there old new group piece committed called c here claimed has =
    and_from (c / 64 == group) (has_bit committed (c % 64)) (eq-eqb (c / 64) group here)
    ((right_there (Commit group piece committed) old.view new.view called).1.bits c here
    ∙ and_from _ _ (claimed_there (Commit group piece committed) old new called c claimed) has)

-- what is recorded after all that was seen is so after whatever follows
recorded_on : (seat : Gripped) (l : ℕ) → (state_after seat.view.seen).recorded ≡ Some l → RecordsOn seat l
recorded_on seat l is more legal = record_lasts seat.view.fixed seat.view.seen more l legal is

pub length_records : (old new : Gripped) (result : Option ℕ) → Called (Length result) old.view new.view → IfSome result (λ l. RecordsOn new l)
length_records old new None called = tt
length_records old new (Some l) called = recorded_on new l (length_there old.view new.view (Some l) called)

pub length_known : (old new : Gripped) (result : Option ℕ) → Called (Length result) old.view new.view → (l : ℕ) → RecordsOn old l → result ≡ Some l
length_known old new result called l is =
    let legal = (legal-append new.view.fixed empty (old.view.seen ++ called.between) (event_of old.view (Length result) ∷ [])
    (subst (λ (h : List Event). IsLegal new.view.fixed h) called.goes_on.seen_is called.goes_on.legal)).0 in
    right_there (Length result) old.view new.view called
    ∙ is called.between (subst (λ (fixed : Fixed). IsLegal fixed (old.view.seen ++ called.between)) called.goes_on.fixed_is legal)

-- a length that was settled, or met, is recorded then
recorded_then : (o : Option ℕ) (l : ℕ) (answer : Settling) → answer ≡ settling o l → (k : ℕ) × (recorded_after answer l o ≡ Some k)
recorded_then None l answer is = (l, subst (λ (a : Settling). recorded_after a l None ≡ Some l) (sym is) refl)
recorded_then (Some k) l answer is = elim (cases_Bool (k == l)) [
  | inl same ↦ let known : answer ≡ Known = rw same at is in (k, subst (λ (a : Settling). recorded_after a l (Some k) ≡ Some k) (sym known) refl)
  | inr other ↦ let differs : answer ≡ Differs = rw other at is in (k, subst (λ (a : Settling). recorded_after a l (Some k) ≡ Some k) (sym differs) refl)
]

settled_there : (old new : Gripped) (piece : Piece) (answer : Settling) → Called (Settle piece answer) old.view new.view → (l : ℕ) × RecordsOn new l
settled_there old new piece answer called =
    let before : State = state_after (old.view.seen ++ called.between) in
    let met = recorded_then before.recorded (length_of piece) answer (right_there (Settle piece answer) old.view new.view called).3 in
    let then : (state_after new.view.seen).recorded ≡ recorded_after answer (length_of piece) before.recorded =
    ap (λ (h : List Event). (state_after h).recorded) called.goes_on.seen_is
    ∙ ap (λ (s : State). s.recorded) (run-append empty (old.view.seen ++ called.between) (event_of old.view (Settle piece answer) ∷ [])) in
    (met.0, recorded_on new met.0 (then ∙ met.1))

pub settle_records : (fixed : Fixed) (old new : Gripped) (piece : Checked) (answer : Settling) → SeatSettles fixed old new piece answer → answer ≢ TooLarge → answer ≢ OtherRoot
    → (l : ℕ) × RecordsOn new l
settle_records fixed old new piece Settled settles small same = settled_there old new (piece_of fixed.base piece) Settled settles.1
settle_records fixed old new piece Known settles small same = settled_there old new (piece_of fixed.base piece) Known settles.1
settle_records fixed old new piece Differs settles small same = settled_there old new (piece_of fixed.base piece) Differs settles.1
settle_records fixed old new piece OtherRoot settles small same = absurd (same refl)
settle_records fixed old new piece TooLarge settles small same = absurd (small refl)

-- a parent that was seen held is so after whatever follows
pub parent_on : (seat : Gripped) (m : ℕ) → is_some ((state_after seat.view.seen).parents m) ≡ true → HasParentOn seat m
parent_on seat m held all more legal =
    let there = some_bytes ((state_after seat.view.seen).parents m) held in
    ap is_some (parent_lasts seat.view.fixed seat.view.seen more m there.0 legal there.1)

-- All parents of a piece at boundaries of the group are held after a seat with all names stored them, and whatever follows.
pub parents_there : (old new : Gripped) (group : ℕ) (piece : Piece) (mask : ℕ) → Called (Parents group piece (storing.Stored mask)) old.view new.view
    → (AreAllNames old.view.names → AreAllParents old.view group piece (storing.Stored mask)) → (m : ℕ) → m / 64 ≡ group → holds_parent piece m ≡ true → HasParentOn new m
parents_there old new group piece mask called alone m here has all more legal =
    let before : List Event = old.view.seen ++ called.between in
    let last : Event = event_of old.view (Parents group piece (storing.Stored mask)) in
    let wanted = alone (subst (λ (ns : List Named). AreAllNames ns) called.goes_on.names_are all) in
    let legal_before : IsLegal new.view.fixed before = (legal-append new.view.fixed empty before (last ∷ [])
    (subst (λ (h : List Event). IsLegal new.view.fixed h) called.goes_on.seen_is called.goes_on.legal)).0 in
    let then : state_after new.view.seen ≡ after (state_after before) last = ap state_after called.goes_on.seen_is ∙ run-append empty before (last ∷ []) in
    let now : is_some ((state_after new.view.seen).parents m) ≡ true =
    elim (cases_Bool (in_mask group mask m)) [
      | inl hit ↦ subst (λ (s : State). is_some (s.parents m) ≡ true) (sym then) (rw hit has)
      | inr miss ↦ elim (cases_Bool (is_some ((state_after old.view.seen).parents m))) [
        | inl some ↦
            let there = some_bytes ((state_after old.view.seen).parents m) some in
            let stays : is_some ((state_after before).parents m) ≡ true =
            ap is_some (parent_lasts new.view.fixed old.view.seen called.between m there.0 legal_before there.1) in
            subst (λ (s : State). is_some (s.parents m) ≡ true) (sym then) (rw miss stays)
        | inr none ↦ absurd (both_ways _ miss (and_from (m / 64 == group) (has_bit mask (m % 64)) (eq-eqb (m / 64) group here) (wanted.bits m here ∙ and_from _ _ has (ap not none))))
      ]
    ] in
    parent_on new m now all more legal

-- why none are stored
pub unstored_refused : (fixed : Fixed) (old new : Gripped) (group : ℕ) (piece : Checked) → SeatIsUnstored fixed group piece unstored.OtherLength old new
    → IsOfOtherLength RecordsOn old (piece_of fixed.base piece)
unstored_refused fixed old new group piece called l is same =
    let legal = (legal-append new.view.fixed empty (old.view.seen ++ called.between) (event_of old.view (Parents group (piece_of fixed.base piece) storing.OtherLength) ∷ [])
    (subst (λ (h : List Event). IsLegal new.view.fixed h) called.goes_on.seen_is called.goes_on.legal)).0 in
    (right_there (Parents group (piece_of fixed.base piece) storing.OtherLength) old.view new.view called).1
    (is called.between (subst (λ (f : Fixed). IsLegal f (old.view.seen ++ called.between)) called.goes_on.fixed_is legal) ∙ ap (λ (n : ℕ). Some n) same)

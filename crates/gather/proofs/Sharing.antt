-- What a call of a shared store gains, and which claims it leaves.
use Rattle.gather.proofs.SeatCommon.{◌≡◌, ℕ, Bool, IsNone, append-nil, ◌/◌, ◌%◌, ◌==◌, true, false, not, ◌&&◌, ◌||◌, List, [], ◌∷◌, ◌++◌, append_assoc, arith, eqb-true, inl, inr, refl, subst, sym, ◌∙◌, and_from, and_parts, both_ways, cases_Bool, Mode, Hash, AreBytes, Checked, IsAccepted, HoldsLast, piece_mode, piece_nodes, piece_root, piece_text, Among, AmongAnd, Without, Still, IsIt, EndsTooFar, none_gained, IsFrom, parents_of, chunks_of, Fixed, Call, Commit, Give, Parents, Serve, Settle, Take, Event, Piece, Settling, Differs, Known, OtherRoot, Settled, TooLarge, IsLegal, state_after, has_bit, in_mask, piece_of, claims, empty, names_of, claims_last, legal-append, Gripped, Called, event_of, ParentsFault, SeatIsUnstored, SeatSettles, right_there}
use Rattle.store_core.specs.Knowledge.{Sees}
use Rattle.store_core.specs.declared.history.Serving.{Serving}
use Rattle.gather.specs.Going.{goes}
use Rattle.gather.specs.Seats.{GoneOn, claims_of, fixed_of}
use Rattle.store_core.specs.declared.history.Storing.TheVariants as storing
use Rattle.store_shared.specs.declared.fault.ParentsFault.TheVariants as unstored

pub goes_on : (handed : Piece → Type 0) (old new : Gripped) (call : Call) → IsFrom handed call → Called call old.view new.view
    → GoneOn handed old new (chunks_of call) (parents_of call)
goes_on handed old new call from called = record {
  fixed_is = called.goes_on.fixed_is;
  names_are = called.goes_on.names_are;
  more = called.between ++ event_of old.view call ∷ [];
  seen_is = called.goes_on.seen_is ∙ append_assoc old.view.seen called.between (event_of old.view call ∷ []);
  own = event_of old.view call ∷ [];
  by = (refl, tt);
  from = (from, tt);
  mine_is = called.goes_on.mine_is;
  counts = omega arith;
  counts_parents = omega arith;
}

pub stays_same : (handed : Piece → Type 0) (old new : Gripped) → new ≡ old → GoneOn handed old new 0 0
stays_same handed old new same = subst (λ (seat : Gripped). GoneOn handed old seat 0 0) (sym same) (none_gained fixed_of GoneOn goes handed old)

pub among_same : (old new : Gripped) → new ≡ old → Among (claims_of old) (claims_of new)
among_same old new same c is = subst (λ (seat : Gripped). claims_of seat c ≡ true) same is

pub taken : (old new : Gripped) (group want granted : ℕ) → Called (Take group want granted) old.view new.view
    → AmongAnd (claims_of old) group granted (claims_of new)
taken old new group want granted called c is =
    let then : (in_mask group granted c || claims_of old c) ≡ true = sym (called.claims_are c) ∙ is in
    elim (cases_Bool (in_mask group granted c)) [
      | inl hit ↦ inr hit
      | inr miss ↦ inl (rw miss at then)
    ]

pub committed : (old new : Gripped) (group : ℕ) (piece : Piece) (mask : ℕ) → Called (Commit group piece mask) old.view new.view
    → Without (claims_of old) group mask (claims_of new)
committed old new group piece mask called c is =
    let then : (not (in_mask group mask c) && claims_of old c) ≡ true = sym (called.claims_are c) ∙ is in
    elim (cases_Bool (in_mask group mask c)) [
      | inl hit ↦ let none : false ≡ true = rw hit at then in cc
      | inr miss ↦ (rw miss at then, miss)
    ]

-- what a seat claims it still claims where its next call stands
pub claimed_there : (call : Call) (old new : Gripped) (called : Called call old.view new.view) (c : ℕ) → claims_of old c ≡ true
    → claims (names_of old.view) (state_after (old.view.seen ++ called.between)) c ≡ true
claimed_there call old new called c is =
    let legal = (legal-append new.view.fixed empty (old.view.seen ++ called.between) (event_of old.view call ∷ [])
    (subst (λ (h : List Event). IsLegal new.view.fixed h) called.goes_on.seen_is called.goes_on.legal)).0 in
    claims_last new.view.fixed old.view.seen called.between (names_of old.view) c legal called.goes_on.others ∙ is

pub given : (old new : Gripped) (group mask result : ℕ) → Called (Give group mask result) old.view new.view
    → Without (claims_of old) group mask (claims_of new)
given old new group mask result called c is =
    let then : (not (in_mask group result c) && claims_of old c) ≡ true = sym (called.claims_are c) ∙ is in
    elim (cases_Bool (in_mask group result c)) [
      | inl hit ↦ let none : false ≡ true = rw hit at then in cc
      | inr miss ↦
          let claimed : claims_of old c ≡ true = rw miss at then in (
            claimed,
            elim (cases_Bool (in_mask group mask c)) [
              | inr out ↦ out
              | inl asked ↦
                  let parts = and_parts (c / 64 == group) (has_bit mask (c % 64)) asked in
                  let right = right_there (Give group mask result) old.view new.view called in
                  let bit : has_bit result (c % 64) ≡ true = right.bits c (eqb-true (c / 64) group parts.0)
                  ∙ and_from _ _ parts.1 (claimed_there (Give group mask result) old new called c claimed) in
                  absurd (both_ways _ miss (and_from _ _ parts.0 bit))
            ],
          )
    ]

still : (old new : Gripped) (piece : Piece) (answer : Settling) → Called (Settle piece answer) old.view new.view → Still (GoneOn (IsIt piece)) claims_of old new
still old new piece answer called = (goes_on (IsIt piece) old new (Settle piece answer) refl called, λ c is. sym (called.claims_are c) ∙ is)

pub settles_still : (fixed : Fixed) (old new : Gripped) (piece : Checked) (answer : Settling) → SeatSettles fixed old new piece answer → Still (GoneOn (IsIt (piece_of fixed.base piece))) claims_of old new
settles_still fixed old new piece Settled settles = still old new (piece_of fixed.base piece) Settled settles.1
settles_still fixed old new piece Known settles = still old new (piece_of fixed.base piece) Known settles.1
settles_still fixed old new piece Differs settles = still old new (piece_of fixed.base piece) Differs settles.1
settles_still fixed old new piece OtherRoot settles = (stays_same (IsIt (piece_of fixed.base piece)) old new settles.1, among_same old new settles.1)
settles_still fixed old new piece TooLarge settles = (stays_same (IsIt (piece_of fixed.base piece)) old new settles.2, among_same old new settles.2)

-- the piece of a tail that is too large is an accepted one of the store's root and mode, with the last chunk
pub settles_large : (fixed : Fixed) (old new : Gripped) (piece : Checked) (answer : Settling) → AreBytes (piece_text piece)
    → IsAccepted (piece_mode piece) (piece_root piece) (piece_text piece) (piece_nodes piece) → HoldsLast piece → SeatSettles fixed old new piece answer → answer ≡ TooLarge
    → EndsTooFar fixed (piece_of fixed.base piece)
settles_large fixed old new piece Settled bytes accepted last settles is = let no : Settled ≡ TooLarge = is in cc
settles_large fixed old new piece Known bytes accepted last settles is = let no : Known ≡ TooLarge = is in cc
settles_large fixed old new piece Differs bytes accepted last settles is = let no : Differs ≡ TooLarge = is in cc
settles_large fixed old new piece OtherRoot bytes accepted last settles is = let no : OtherRoot ≡ TooLarge = is in cc
settles_large fixed old new piece TooLarge bytes accepted last settles is = record {
  accepted = record {
    bytes = bytes;
    accepted = subst (λ (mode : Mode). IsAccepted mode fixed.root.0 (piece_text piece) (piece_nodes piece)) settles.0.mode
        (subst (λ (root : Hash). IsAccepted (piece_mode piece) root.0 (piece_text piece) (piece_nodes piece)) settles.0.root accepted);
    base = refl;
  };
  ends = last;
  above = settles.1;
}

-- parents that weren't stored
pub unstored_gains : (fixed : Fixed) (old new : Gripped) (group : ℕ) (piece : Checked) (fault : ParentsFault) → SeatIsUnstored fixed group piece fault old new
    → GoneOn (IsIt (piece_of fixed.base piece)) old new 0 0
unstored_gains fixed old new group piece unstored.OtherRoot same = stays_same (IsIt (piece_of fixed.base piece)) old new same
unstored_gains fixed old new group piece unstored.OtherLength called =
    goes_on (IsIt (piece_of fixed.base piece)) old new (Parents group (piece_of fixed.base piece) storing.OtherLength) refl called

-- a seat that has seen more made no call
pub sees_on : (handed : Piece → Type 0) (old new : Gripped) → Sees old.view new.view → GoneOn handed old new 0 0
sees_on handed old new sees = record {
  fixed_is = sees.goes_on.fixed_is;
  names_are = sees.goes_on.names_are;
  more = sees.between;
  seen_is = sees.goes_on.seen_is ∙ append-nil (old.view.seen ++ sees.between);
  own = [];
  by = tt;
  from = tt;
  mine_is = sees.goes_on.mine_is;
  counts = refl;
  counts_parents = refl;
}

-- nor did one that looked for a parent, but for a Serve
pub looked_still : (old new : Gripped) (result : Bool) (start len : ℕ) → (result ≡ true → Sees old.view new.view)
    → (result ≡ false → (answer : Serving) × Called (Serve start len answer) old.view new.view) → Still (GoneOn IsNone) claims_of old new
looked_still old new true start len seen lacked = (sees_on IsNone old new (seen refl), λ c is. sym ((seen refl).claims_are c) ∙ is)
looked_still old new false start len seen lacked =
    let called = lacked refl in (goes_on IsNone old new (Serve start len called.0) tt called.1, λ c is. sym (called.1.claims_are c) ∙ is)

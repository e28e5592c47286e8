-- What each call of a one-thread store is for its worker.
use Rattle.gather.proofs.Common.{◌≡◌, ℕ, ◌%◌, ◌/◌, ◌==◌, true, false, [], ◌∷◌, Result, Ok, Err, IfErr, IfOk, OnErr, MatchResult, count_ones, refl, subst, ◌∙◌, arith, inl, inr, eqb-true, and_from, and_parts, both_ways, cases_Bool, Mode, Hash, AreBytes, Checked, IsAccepted, HoldsLast, piece_mode, piece_nodes, piece_root, piece_text, StoreFault, Call, Take, Give, Commit, Settle, Parents, Piece, Settling, Settled, Known, Differs, OtherRoot, TooLarge, Storing, Stored, Store, after_call, chunks_of, has_bit, in_mask, piece_of, State, claims, DidStore, IsEvent, IsSame, IsUnstored, Settles, fixed_of, state_of}
use Rattle.store_core.specs.declared.fault.StoreFault.TheVariants as fault
use Rattle.gather.specs.Claims.{Among, AmongAnd, Without}
use Rattle.gather.specs.Counts.{Still}
use Rattle.holders.specs.Holders.{IsIt, IsNone}
use Rattle.holders.specs.Blobs.{EndsTooFar}
use Rattle.gather.specs.Worked.{HasWorked, IsFrom, parents_of, worker, worker_claims}

pub worked_one : (handed : Piece → Type 0) (old new : Store) (call : Call) → IsFrom handed call → IsEvent old new worker call
    → HasWorked handed old new (chunks_of call) (parents_of call)
worked_one handed old new call from event = record {
  events = record { who = worker; call = call } ∷ [];
  own = (refl, tt);
  from = (from, tt);
  legal = (event.right, tt);
  after = event.after;
  fixed = event.fixed;
  counts = omega arith;
  counts_parents = omega arith;
}

pub worked_none : (handed : Piece → Type 0) (old new : Store) → IsSame old new → HasWorked handed old new 0 0
worked_none handed old new same = record { events = []; own = tt; from = tt; legal = tt; after = same.state; fixed = same.fixed; counts = refl; counts_parents = refl }

-- what is claimed after a call, by the state before it
claims_after : (old new : Store) (call : Call) → IsEvent old new worker call → (c : ℕ) → worker_claims new c ≡ true
    → claims worker (after_call worker call (state_of old)) c ≡ true
claims_after old new call event c is = subst (λ (s : State). claims worker s c ≡ true) event.after is

among_same : (old new : Store) → IsSame old new → Among (worker_claims old) (worker_claims new)
among_same old new same c is = subst (λ (s : State). claims worker s c ≡ true) same.state is

taken : (old new : Store) (group want granted : ℕ) → IsEvent old new worker (Take group want granted)
    → AmongAnd (worker_claims old) group granted (worker_claims new)
taken old new group want granted event c is =
    let then = claims_after old new (Take group want granted) event c is in
    elim (cases_Bool (in_mask group granted c)) [
      | inl hit ↦ inr hit
      | inr miss ↦ inl (rw miss at then)
    ]

pub given : (old new : Store) (group mask result : ℕ) → IsEvent old new worker (Give group mask result)
    → Without (worker_claims old) group mask (worker_claims new)
given old new group mask result event c is =
    let then = claims_after old new (Give group mask result) event c is in
    elim (cases_Bool (in_mask group result c)) [
      | inl hit ↦ let none : false ≡ true = rw hit at then in cc
      | inr miss ↦
          let claimed : worker_claims old c ≡ true = rw miss at then in (
            claimed,
            elim (cases_Bool (in_mask group mask c)) [
              | inr out ↦ out
              | inl asked ↦
                  let parts = and_parts (c / 64 == group) (has_bit mask (c % 64)) asked in
                  let bit : has_bit result (c % 64) ≡ true = event.right.bits c (eqb-true (c / 64) group parts.0) ∙ and_from _ _ parts.1 claimed in
                  absurd (both_ways _ miss (and_from _ _ parts.0 bit))
            ],
          )
    ]

committed : (old new : Store) (group : ℕ) (piece : Piece) (mask : ℕ) → IsEvent old new worker (Commit group piece mask)
    → Without (worker_claims old) group mask (worker_claims new)
committed old new group piece mask event c is =
    let then = claims_after old new (Commit group piece mask) event c is in
    elim (cases_Bool (in_mask group mask c)) [
      | inl hit ↦ let none : false ≡ true = rw hit at then in cc
      | inr miss ↦ let claimed : worker_claims old c ≡ true = rw miss at then in (claimed, miss)
    ]

pub take_gains : (old new : Store) (group want : ℕ) (result : Result ℕ StoreFault) → IfOk result (λ granted. IsEvent old new worker (Take group want granted))
    → OnErr result (IsSame old new) → HasWorked IsNone old new 0 0
take_gains old new group want (Ok granted) ok err = worked_one IsNone old new (Take group want granted) tt ok
take_gains old new group want (Err fault) ok err = worked_none IsNone old new err

pub take_claims : (old new : Store) (group want : ℕ) (result : Result ℕ StoreFault) → IfOk result (λ granted. IsEvent old new worker (Take group want granted))
    → OnErr result (IsSame old new)
    → MatchResult result (λ granted. AmongAnd (worker_claims old) group granted (worker_claims new)) (λ _. Among (worker_claims old) (worker_claims new))
take_claims old new group want (Ok granted) ok err = taken old new group want granted ok
take_claims old new group want (Err fault) ok err = among_same old new err

pub commit_gains : (old new : Store) (group : ℕ) (piece : Piece) (result : Result ℕ StoreFault) → IfOk result (λ mask. IsEvent old new worker (Commit group piece mask))
    → OnErr result (IsSame old new) → MatchResult result (λ mask. HasWorked (IsIt piece) old new (count_ones mask) 0) (λ _. HasWorked (IsIt piece) old new 0 0)
commit_gains old new group piece (Ok mask) ok err = worked_one (IsIt piece) old new (Commit group piece mask) refl ok
commit_gains old new group piece (Err fault) ok err = worked_none (IsIt piece) old new err

pub commit_claims : (old new : Store) (group : ℕ) (piece : Piece) (result : Result ℕ StoreFault) → IfOk result (λ mask. IsEvent old new worker (Commit group piece mask))
    → OnErr result (IsSame old new)
    → MatchResult result (λ mask. Without (worker_claims old) group mask (worker_claims new)) (λ _. Among (worker_claims old) (worker_claims new))
commit_claims old new group piece (Ok mask) ok err = committed old new group piece mask ok
commit_claims old new group piece (Err fault) ok err = among_same old new err

settle_still : (old new : Store) (piece : Piece) (answer : Settling) → IsEvent old new worker (Settle piece answer) → Still (HasWorked (IsIt piece)) worker_claims old new
settle_still old new piece answer event =
    (worked_one (IsIt piece) old new (Settle piece answer) refl event, λ c is. claims_after old new (Settle piece answer) event c is)

pub settles_still : (old new : Store) (piece : Checked) (answer : Settling) → Settles old new piece answer → Still (HasWorked (IsIt (piece_of (fixed_of old).base piece))) worker_claims old new
settles_still old new piece Settled settles = settle_still old new (piece_of (fixed_of old).base piece) Settled (settles worker)
settles_still old new piece Known settles = settle_still old new (piece_of (fixed_of old).base piece) Known (settles worker)
settles_still old new piece Differs settles = settle_still old new (piece_of (fixed_of old).base piece) Differs (settles worker)
settles_still old new piece OtherRoot settles = (worked_none (IsIt (piece_of (fixed_of old).base piece)) old new settles.1, among_same old new settles.1)
settles_still old new piece TooLarge settles = (worked_none (IsIt (piece_of (fixed_of old).base piece)) old new settles.2, among_same old new settles.2)

-- parents that are stored end no claim, and none that are not
parents_event : (old new : Store) (group : ℕ) (piece : Piece) (answer : Storing) → IsEvent old new worker (Parents group piece answer) → Among (worker_claims old) (worker_claims new)
parents_event old new group piece answer event c is = claims_after old new (Parents group piece answer) event c is

pub unstored_same : (old new : Store) (group : ℕ) (piece : Checked) (fault : StoreFault) → IsUnstored old new group piece fault → IsSame old new
unstored_same old new group piece fault.Memory unstored = unstored
unstored_same old new group piece fault.NoGroup unstored = unstored
unstored_same old new group piece fault.OtherRoot unstored = unstored
unstored_same old new group piece fault.OtherLength unstored = unstored.0

pub parents_gain : (old new : Store) (group : ℕ) (piece : Checked) (result : Result ℕ StoreFault) → IfOk result (λ mask. DidStore old new group piece (Stored mask))
    → IfErr result (λ fault. IsUnstored old new group piece fault) → MatchResult result (λ mask. HasWorked (IsIt (piece_of (fixed_of old).base piece)) old new 0 (count_ones mask)) (λ _. HasWorked (IsIt (piece_of (fixed_of old).base piece)) old new 0 0)
parents_gain old new group piece (Ok mask) ok err = worked_one (IsIt (piece_of (fixed_of old).base piece)) old new (Parents group (piece_of (fixed_of old).base piece) (Stored mask)) refl (ok worker)
parents_gain old new group piece (Err fault) ok err = worked_none (IsIt (piece_of (fixed_of old).base piece)) old new (unstored_same old new group piece fault err)

pub parents_claims : (old new : Store) (group : ℕ) (piece : Checked) (result : Result ℕ StoreFault) → IfOk result (λ mask. DidStore old new group piece (Stored mask))
    → IfErr result (λ fault. IsUnstored old new group piece fault) → Among (worker_claims old) (worker_claims new)
parents_claims old new group piece (Ok mask) ok err = parents_event old new group (piece_of (fixed_of old).base piece) (Stored mask) (ok worker)
parents_claims old new group piece (Err fault) ok err = among_same old new (unstored_same old new group piece fault err)

-- the piece of a tail that is too large is an accepted one of the store's root and mode, with the last chunk
pub settles_large : (old new : Store) (piece : Checked) (answer : Settling) → AreBytes (piece_text piece)
    → IsAccepted (piece_mode piece) (piece_root piece) (piece_text piece) (piece_nodes piece) → HoldsLast piece → Settles old new piece answer → answer ≡ TooLarge
    → EndsTooFar (fixed_of old) (piece_of (fixed_of old).base piece)
settles_large old new piece Settled bytes accepted last settles is = let no : Settled ≡ TooLarge = is in cc
settles_large old new piece Known bytes accepted last settles is = let no : Known ≡ TooLarge = is in cc
settles_large old new piece Differs bytes accepted last settles is = let no : Differs ≡ TooLarge = is in cc
settles_large old new piece OtherRoot bytes accepted last settles is = let no : OtherRoot ≡ TooLarge = is in cc
settles_large old new piece TooLarge bytes accepted last settles is = record {
  accepted = record {
    bytes = bytes;
    accepted = subst (λ (mode : Mode). IsAccepted mode (fixed_of old).root.0 (piece_text piece) (piece_nodes piece)) settles.0.mode
        (subst (λ (root : Hash). IsAccepted (piece_mode piece) root.0 (piece_text piece) (piece_nodes piece)) settles.0.root accepted);
    base = refl;
  };
  ends = last;
  above = settles.1;
}

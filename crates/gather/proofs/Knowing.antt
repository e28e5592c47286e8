-- What a call of a one-thread store leaves its worker to know.
use Rattle.gather.proofs.Common.{◌≡◌, ◌≢◌, ◌<◌, ◌||◌, ℕ, ◌↔◌, ◌⊎◌, lt-ltb, is_claimed, inl, inr, ap, not, is_some, IsErrOf, IsOf, IsMaskOf, both_ways, cases_Bool, ◌/◌, ◌%◌, ◌==◌, true, ◌&&◌, Option, None, Some, Result, Ok, Err, IfErr, IfOk, IfSome, OnErr, MatchResult, refl, sym, subst, ◌∙◌, eqb-true, eq-eqb, and_from, and_parts, Checked, StoreFault, Take, Commit, Piece, Settling, Settled, Known, Differs, OtherRoot, TooLarge, Stored, Store, is_free, settling, has_bit, in_mask, holds_chunk, length_of, piece_of, State, claims, is_held, DidStore, IsEvent, IsSame, IsUnstored, Settles, fixed_of, state_of}
use Rattle.gather.specs.Filled.{IsOfOtherLength, IsWanted, Keeps, KeepsBut}
use Rattle.gather.specs.Lasting.{HasParent, HoldsChunk, IsBusy, Records}
use Rattle.holders.specs.Pieces.{holds_parent}
use Rattle.store_core.specs.declared.fault.StoreFault.TheVariants as fault
use Rattle.gather.specs.Worked.{worker, worker_claims}
use Rattle.gather.proofs.Alone.{unstored_same}

pub take_granted : (old new : Store) (group want : ℕ) (result : Result ℕ StoreFault) → IfOk result (λ granted. IsEvent old new worker (Take group want granted))
    → IfOk result (λ granted. (c : ℕ) → in_mask group granted c ≡ true → IsWanted group want c × (worker_claims new c ≡ true))
take_granted old new group want (Ok granted) event = λ c hit.
    let parts = and_parts (c / 64 == group) (has_bit granted (c % 64)) hit in
    let here : c / 64 ≡ group = eqb-true (c / 64) group parts.0 in
    let both : (has_bit want (c % 64) && is_free (fixed_of old) (state_of old) c) ≡ true = sym (event.right.bits c here) ∙ parts.1 in
    let wanted : IsWanted group want c = (here, (and_parts _ _ both).0) in
    (wanted, subst (λ (s : State). claims worker s c ≡ true) (sym event.after) (rw hit refl))
take_granted old new group want (Err fault) event = tt

-- a chunk that is wanted and not granted is held or claimed
pub take_rest : (old new : Store) (group want : ℕ) (result : Result ℕ StoreFault) → IfOk result (λ granted. IsEvent old new worker (Take group want granted))
    → IfOk result (λ granted. (c : ℕ) → IsWanted group want c → c < (fixed_of old).capacity → (in_mask group granted c ≡ true) ⊎ HoldsChunk new c ⊎ IsBusy old new c)
take_rest old new group want (Ok granted) event = λ c wanted below. elim (cases_Bool (in_mask group granted c)) [
  | inl hit ↦ inl hit
  | inr miss ↦ elim (cases_Bool (is_held (state_of old) c)) [
    | inl held ↦ inr (inl (subst (λ (s : State). is_held s c ≡ true) (sym event.after) held))
    | inr not_held ↦ elim (cases_Bool (is_claimed (state_of old) c)) [
      | inl claimed ↦ inr (inr claimed)
      | inr unclaimed ↦
          let free : not (is_held (state_of old) c || is_claimed (state_of old) c) ≡ true = rw not_held (rw unclaimed refl) in
          let bit = event.right.bits c wanted.0 ∙ and_from _ _ wanted.1 (and_from _ _ (lt-ltb c (fixed_of old).capacity below) free) in
          absurd (both_ways _ miss (and_from (c / 64 == group) (has_bit granted (c % 64)) (eq-eqb (c / 64) group wanted.0) bit))
    ]
  ]
]
take_rest old new group want (Err fault) event = tt

keeps_same : (old new : Store) → IsSame old new → Keeps (worker_claims old) (worker_claims new)
keeps_same old new same c is = subst (λ (s : State). claims worker s c ≡ true) (sym same.state) is

pub commit_keeps : (old new : Store) (group : ℕ) (piece : Piece) (result : Result ℕ StoreFault) → IfOk result (λ mask. IsEvent old new worker (Commit group piece mask))
    → OnErr result (IsSame old new)
    → MatchResult result (λ mask. KeepsBut group mask (worker_claims old) (worker_claims new)) (λ _. Keeps (worker_claims old) (worker_claims new))
commit_keeps old new group piece (Ok mask) event same = λ c is miss. subst (λ (s : State). claims worker s c ≡ true) (sym event.after) (rw miss is)
commit_keeps old new group piece (Err fault) event same = keeps_same old new same

pub commit_all : (old new : Store) (group : ℕ) (piece : Piece) (result : Result ℕ StoreFault) → IfOk result (λ mask. IsEvent old new worker (Commit group piece mask))
    → IfOk result (λ mask. (c : ℕ) → c / 64 ≡ group → worker_claims old c ≡ true → holds_chunk piece c ≡ true → in_mask group mask c ≡ true)
commit_all old new group piece (Ok mask) event = λ c here claimed has.
    and_from (c / 64 == group) (has_bit mask (c % 64)) (eq-eqb (c / 64) group here) (event.right.1.bits c here ∙ and_from _ _ claimed has)
commit_all old new group piece (Err fault) event = tt

pub commit_held : (old new : Store) (group : ℕ) (piece : Piece) (result : Result ℕ StoreFault) → IfOk result (λ mask. IsEvent old new worker (Commit group piece mask))
    → IfOk result (λ mask. (c : ℕ) → in_mask group mask c ≡ true → HoldsChunk new c)
commit_held old new group piece (Ok mask) event = λ c hit.
    let parts = and_parts (c / 64 == group) (has_bit mask (c % 64)) hit in
    let both : (worker_claims old c && holds_chunk piece c) ≡ true = sym (event.right.1.bits c (eqb-true (c / 64) group parts.0)) ∙ parts.1 in
    let has : holds_chunk piece c ≡ true = (and_parts _ _ both).1 in
    subst (λ (s : State). is_held s c ≡ true) (sym event.after) (rw hit has)
commit_held old new group piece (Err fault) event = tt

pub parents_keep : (old new : Store) (group : ℕ) (piece : Checked) (result : Result ℕ StoreFault) → IfOk result (λ mask. DidStore old new group piece (Stored mask))
    → IfErr result (λ fault. IsUnstored old new group piece fault) → Keeps (worker_claims old) (worker_claims new)
parents_keep old new group piece (Ok mask) did unstored = λ c is. subst (λ (s : State). claims worker s c ≡ true) (sym (did worker).after) is
parents_keep old new group piece (Err fault) did unstored = keeps_same old new (unstored_same old new group piece fault unstored)

-- a length that was met is recorded
met_there : (o : Option ℕ) (l : ℕ) (answer : Settling) → answer ≢ Settled → answer ≡ settling o l → (k : ℕ) × (o ≡ Some k)
met_there None l answer not is = absurd (not is)
met_there (Some k) l answer not is = (k, refl)

pub settle_records : (old new : Store) (piece : Checked) (answer : Settling) → Settles old new piece answer → answer ≢ TooLarge → answer ≢ OtherRoot
    → (l : ℕ) × Records new l
settle_records old new piece Settled settles small same = (length_of (piece_of (fixed_of old).base piece), subst (λ (s : State). s.recorded ≡ Some (length_of (piece_of (fixed_of old).base piece))) (sym (settles worker).after) refl)
settle_records old new piece Known settles small same =
    let there = met_there (state_of old).recorded (length_of (piece_of (fixed_of old).base piece)) Known (λ e. let no : Known ≡ Settled = e in cc) (settles worker).right.3 in
    (there.0, subst (λ (s : State). s.recorded ≡ Some there.0) (sym (settles worker).after) there.1)
settle_records old new piece Differs settles small same =
    let there = met_there (state_of old).recorded (length_of (piece_of (fixed_of old).base piece)) Differs (λ e. let no : Differs ≡ Settled = e in cc) (settles worker).right.3 in
    (there.0, subst (λ (s : State). s.recorded ≡ Some there.0) (sym (settles worker).after) there.1)
settle_records old new piece OtherRoot settles small same = absurd (same refl)
settle_records old new piece TooLarge settles small same = absurd (small refl)

pub length_records : (store : Store) (result : Option ℕ) → result ≡ (state_of store).recorded → IfSome result (λ l. Records store l)
length_records store None is = tt
length_records store (Some l) is = sym is

-- All parents of a piece at boundaries of the group are held once they were stored: those of the mask were, and the others had been.
pub parents_held : (old new : Store) (group : ℕ) (piece : Checked) (result : Result ℕ StoreFault) → IfOk result (λ mask. DidStore old new group piece (Stored mask))
    → IfOk result (λ mask. IsMaskOf group mask (λ m. holds_parent (piece_of (fixed_of old).base piece) m && not (is_some ((state_of old).parents m))))
    → IfOk result (λ _. (m : ℕ) → m / 64 ≡ group → holds_parent (piece_of (fixed_of old).base piece) m ≡ true → HasParent new m)
parents_held old new group piece (Ok mask) did all = λ m here has. elim (cases_Bool (in_mask group mask m)) [
  | inl hit ↦ subst (λ (s : State). is_some (s.parents m) ≡ true) (sym (did worker).after) (rw hit has)
  | inr miss ↦ elim (cases_Bool (is_some ((state_of old).parents m))) [
    | inl before ↦ subst (λ (s : State). is_some (s.parents m) ≡ true) (sym (did worker).after) (rw miss before)
    | inr none ↦ absurd (both_ways _ miss (and_from (m / 64 == group) (has_bit mask (m % 64)) (eq-eqb (m / 64) group here) (all.bits m here ∙ and_from _ _ has (ap not none))))
  ]
]
parents_held old new group piece (Err fault) did all = tt

-- why none are stored
pub parents_refused : (old : Store) (piece : Checked) (result : Result ℕ StoreFault) → IsErrOf result fault.OtherRoot ↔ (¬ IsOf (fixed_of old) piece)
    → IsErrOf result fault.OtherLength ↔ (IsOf (fixed_of old) piece × ((state_of old).recorded ≢ Some (length_of (piece_of (fixed_of old).base piece)))) → result ≢ Err fault.NoGroup
    → IfErr result (λ why. (why ≡ fault.Memory) ⊎ (¬ IsOf (fixed_of old) piece) ⊎ IsOfOtherLength Records old (piece_of (fixed_of old).base piece))
parents_refused old piece (Ok mask) root long never = tt
parents_refused old piece (Err fault.Memory) root long never = inl refl
parents_refused old piece (Err fault.NoGroup) root long never = absurd (never refl)
parents_refused old piece (Err fault.OtherRoot) root long never = inr (inl (root.0 refl))
parents_refused old piece (Err fault.OtherLength) root long never = inr (inr (λ l is same. (long.0 refl).1 (is ∙ ap (λ (n : ℕ). Some n) same)))

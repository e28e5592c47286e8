-- What a worker of a one-thread store knows of it, and that it lasts while the worker calls.
use Rattle.std.specs.Prelude.{◌≡◌, ◌⊎◌, ℕ, ◌/◌, ◌%◌, ◌==◌, ◌&&◌, true, false, List, [], ◌∷◌, Option, None, Some, is_some}
use Rattle.std.proofs.Common.{refl, sym, ap, subst, ◌∙◌, inl, inr, eqb-true}
use Rattle.std.proofs.lemmas.Bool.{and_parts, cases_Bool}
use Rattle.holders.specs.declared.fixed.Fixed.{Fixed}
use Rattle.store_core.specs.declared.history.Call.{Call}
use Rattle.store_core.specs.declared.history.Call.TheVariants.{Take, Give, Commit, Settle, Read, Length, Parents, Serve}
use Rattle.store_core.specs.declared.history.Event.{Event}
use Rattle.holders.specs.declared.piece.Piece.{Piece}
use Rattle.store_core.specs.declared.store.Store.{Store}
use Rattle.store_core.specs.Events.{IsRightReply, after, after_call}
use Rattle.store_core.proofs.Lasting.{recorded_from}
use Rattle.store_core.proofs.ParentOrigins.{parents_from}
use Rattle.store_core.specs.Histories.{AreLegalFrom, run}
use Rattle.store_core.specs.Masks.{has_bit, in_mask}
use Rattle.store_core.specs.Names.{Name}
use Rattle.holders.specs.Pieces.{holds_chunk}
use Rattle.std.specs.List.{AllByRecursion}
use Rattle.store_core.specs.States.{State, is_among, claims, is_claimed, is_held}
use Rattle.store_core.specs.Stores.{fixed_of, state_of}
use Rattle.gather.specs.Filled.{Lasts}
use Rattle.gather.specs.Claims.{Among}
use Rattle.gather.specs.Worked.{HasWorked, IsOwn, worker, worker_claims}

abbrev pub Records : Store → ℕ → Type 0
Records store l = (state_of store).recorded ≡ Some l

abbrev pub HoldsChunk : Store → ℕ → Type 0
HoldsChunk store c = is_held (state_of store) c ≡ true

abbrev pub HasParent : Store → ℕ → Type 0
HasParent store m = is_some ((state_of store).parents m) ≡ true

-- a chunk was claimed before: in a one-thread store nobody else claims one meanwhile
abbrev pub IsBusy : Store → Store → ℕ → Type 0
IsBusy old new c = is_claimed (state_of old) c ≡ true

-- a chunk that is held stays so
call_holds : (fixed : Fixed) (s : State) (who : List Name) (call : Call) → IsRightReply fixed s who call → (c : ℕ) → is_held s c ≡ true
    → is_held (after_call who call s) c ≡ true
call_holds fixed s who (Take group want granted) right c is = is
call_holds fixed s who (Give group mask given) right c is = is
call_holds fixed s who (Commit group piece committed) right c is = elim (cases_Bool (in_mask group committed c)) [
  | inl hit ↦
      let parts = and_parts (c / 64 == group) (has_bit committed (c % 64)) hit in
      let both : (claims who s c && holds_chunk piece c) ≡ true = sym (right.1.bits c (eqb-true (c / 64) group parts.0)) ∙ parts.1 in
      let has : holds_chunk piece c ≡ true = (and_parts (claims who s c) (holds_chunk piece c) both).1 in
      rw hit has
  | inr miss ↦ rw miss is
]
call_holds fixed s who (Settle piece answer) right c is = is
call_holds fixed s who (Read at len bytes) right c is = is
call_holds fixed s who (Length recorded) right c is = is
call_holds fixed s who (Parents group piece answer) right c is = is
call_holds fixed s who (Serve start len answer) right c is = is

run_holds : (fixed : Fixed) (s : State) (events : List Event) → AreLegalFrom fixed s events → (c : ℕ) → is_held s c ≡ true → is_held (run s events) c ≡ true
run_holds fixed s [] legal c is = is
run_holds fixed s (e ∷ events) legal c is = run_holds fixed (after s e) events legal.1 c (call_holds fixed s e.who e.call legal.0 c is)

-- a claim after the worker's call is the worker's, or it stood before
call_claims : (s : State) (call : Call) (c : ℕ) → is_claimed (after_call worker call s) c ≡ true
    → ((after_call worker call s).claim c ≡ s.claim c) ⊎ (claims worker (after_call worker call s) c ≡ true)
call_claims s (Take group want granted) c is = elim (cases_Bool (in_mask group granted c)) [ inl hit ↦ inr (rw hit refl) | inr miss ↦ inl (rw miss refl) ]
call_claims s (Give group mask given) c is = elim (cases_Bool (in_mask group given c)) [
  | inl hit ↦ let no : false ≡ true = rw hit at is in cc
  | inr miss ↦ inl (rw miss refl)
]
call_claims s (Commit group piece committed) c is = elim (cases_Bool (in_mask group committed c)) [
  | inl hit ↦ let no : false ≡ true = rw hit at is in cc
  | inr miss ↦ inl (rw miss refl)
]
call_claims s (Settle piece answer) c is = inl refl
call_claims s (Read at len bytes) c is = inl refl
call_claims s (Length recorded) c is = inl refl
call_claims s (Parents group piece answer) c is = inl refl
call_claims s (Serve start len answer) c is = inl refl

run_claims : (s : State) (events : List Event) → AllByRecursion IsOwn events → (c : ℕ) → is_claimed (run s events) c ≡ true
    → ((run s events).claim c ≡ s.claim c) ⊎ (claims worker (run s events) c ≡ true)
run_claims s [] own c is = inl refl
run_claims s (e ∷ events) own c is = elim (run_claims (after s e) events own.1 c is) [
  | inr mine ↦ inr mine
  | inl same ↦
      let by : after s e ≡ after_call worker e.call s = ap (λ (who : List Name). after_call who e.call s) own.0 in
      let here : (run s (e ∷ events)).claim c ≡ (after_call worker e.call s).claim c = same ∙ ap (λ (t : State). t.claim c) by in
      elim (call_claims s e.call c (subst (λ (o : Option Name). is_some o ≡ true) here is)) [
        | inl before ↦ inl (here ∙ before)
        | inr mine ↦ inr (subst (λ (o : Option Name). is_among worker o ≡ true) (sym here) mine)
      ]
]

some_claims : (names : List Name) (o : Option Name) → is_among names o ≡ true → is_some o ≡ true
some_claims names None is = let no : false ≡ true = is in cc
some_claims names (Some name) is = refl

work_frees : (handed : Piece → Type 0) (s t u : Store) (n q c : ℕ) → HasWorked handed s t n q → Among (worker_claims s) (worker_claims t) → IsBusy t u c → IsBusy s u c ⊎ HoldsChunk t c
work_frees handed s t u n q c worked among busy =
    elim (run_claims (state_of s) worked.events worked.own c (subst (λ (x : State). is_claimed x c ≡ true) worked.after busy)) [
      | inl same ↦
          inl (subst (λ (o : Option Name). is_some o ≡ true) same (subst (λ (x : State). is_claimed x c ≡ true) worked.after busy))
      | inr mine ↦
          let now : worker_claims t c ≡ true = subst (λ (x : State). claims worker x c ≡ true) (sym worked.after) mine in
          inl (some_claims worker ((state_of s).claim c) (among c now))
    ]

some_parent : (o : Option (List ℕ)) → is_some o ≡ true → (bytes : List ℕ) × (o ≡ Some bytes)
some_parent (Some bytes) is = (bytes, refl)
some_parent None is = let no : false ≡ true = is in cc

-- a parent that is held stays so
work_parent : (handed : Piece → Type 0) (s t : Store) (n q m : ℕ) → HasWorked handed s t n q → HasParent s m → HasParent t m
work_parent handed s t n q m worked is =
    let there = some_parent ((state_of s).parents m) is in
    subst (λ (x : State). is_some (x.parents m) ≡ true) (sym worked.after) (ap is_some (parents_from (fixed_of s) (state_of s) worked.events worked.legal m there.0 there.1))

pub lasts_work : Lasts HasWorked worker_claims Records HoldsChunk HasParent IsBusy
lasts_work = record {
  length = λ handed s t n q l worked is.
      subst (λ (x : State). x.recorded ≡ Some l) (sym worked.after) (recorded_from (fixed_of s) (state_of s) worked.events worked.legal l is);
  chunk = λ handed s t n q c worked is.
      subst (λ (x : State). is_held x c ≡ true) (sym worked.after) (run_holds (fixed_of s) (state_of s) worked.events worked.legal c is);
  parent = work_parent;
  frees = work_frees;
  later = λ handed s t u n q c worked busy. busy;
}

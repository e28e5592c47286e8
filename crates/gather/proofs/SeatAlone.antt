-- What a seat with which all others were joined knows of its store.
use Rattle.gather.proofs.SeatCommon.{◌≡◌, ◌⊎◌, ℕ, ◌/◌, ◌%◌, ◌<◌, ◌==◌, true, false, not, ◌&&◌, ◌||◌, List, [], ◌∷◌, ◌++◌, append-nil, append_assoc, map, Contains, is_some, Option, None, Some, refl, sym, ap, subst, ◌∙◌, inl, inr, eq-eqb, eqb-true, lt-ltb, and_from, and_parts, both_ways, cases_Bool, or_left, Contains-append_left, Contains-head, Contains-tail, IsWanted, IsNone, some_bytes, Fixed, Call, Commit, Give, Length, Parents, Read, Serve, Settle, Take, Event, Piece, Named, SeatView, after, after_call, IsLegal, run, state_after, has_bit, in_mask, Name, has_name, least_name, holds_chunk, State, claims, empty, is_among, is_claimed, is_held, mine, names_of, claims_last, held_lasts, legal-append, run-append, same_name-refl, right_there, Gripped, AreAllNames, LooksRound, Called, event_of}
use Rattle.gather.specs.SeatLasting.{HoldsOn, IsAlone, IsBusyOn, alone_on}
use Rattle.gather.specs.Seats.{GoneOn, fixed_of}
use Rattle.gather.proofs.Sharing.{goes_on, sees_on}

-- whoever these names claim for is one of them
least_own : (names who : List Name) → ((name : Name) → has_name who name ≡ true → has_name names name ≡ true) → is_some (least_name who) ≡ true
    → is_among names (least_name who) ≡ true
least_own names [] own is = let no : false ≡ true = is in cc
least_own names (name ∷ who) own is = own name (or_left _ _ (same_name-refl name))

-- After calls of these names alone each claim is one of theirs.
call_owned : (names who : List Name) (call : Call) (s : State) → ((name : Name) → has_name who name ≡ true → has_name names name ≡ true)
    → ((c : ℕ) → is_claimed s c ≡ true → claims names s c ≡ true) → (c : ℕ) → is_claimed (after_call who call s) c ≡ true
    → claims names (after_call who call s) c ≡ true
call_owned names who (Take group want granted) s own all c is = elim (cases_Bool (in_mask group granted c)) [
  | inl hit ↦
      let some : is_some (least_name who) ≡ true = rw hit at is in
      rw hit (least_own names who own some)
  | inr miss ↦
      let before : is_claimed s c ≡ true = rw miss at is in
      rw miss (all c before)
]
call_owned names who (Give group mask given) s own all c is = elim (cases_Bool (in_mask group given c)) [
  | inl hit ↦ let no : false ≡ true = rw hit at is in cc
  | inr miss ↦
      let before : is_claimed s c ≡ true = rw miss at is in
      rw miss (all c before)
]
call_owned names who (Commit group piece committed) s own all c is = elim (cases_Bool (in_mask group committed c)) [
  | inl hit ↦ let no : false ≡ true = rw hit at is in cc
  | inr miss ↦
      let before : is_claimed s c ≡ true = rw miss at is in
      rw miss (all c before)
]
call_owned names who (Settle piece answer) s own all c is = all c is
call_owned names who (Read at len bytes) s own all c is = all c is
call_owned names who (Length recorded) s own all c is = all c is
call_owned names who (Parents group piece answer) s own all c is = all c is
call_owned names who (Serve start len answer) s own all c is = all c is

run_owned : (names : List Name) (s : State) (events : List Event)
    → ((e : Event) (name : Name) → Contains events e → has_name e.who name ≡ true → has_name names name ≡ true)
    → ((c : ℕ) → is_claimed s c ≡ true → claims names s c ≡ true) → (c : ℕ) → is_claimed (run s events) c ≡ true → claims names (run s events) c ≡ true
run_owned names s [] own all = all
run_owned names s (e ∷ events) own all =
    run_owned names (after s e) events (λ x name h. own x name (Contains-tail events e x h))
    (call_owned names e.who e.call s (λ name. own e name (Contains-head events e)) all)

pub claims_owned : (names : List Name) (history : List Event)
    → ((e : Event) (name : Name) → Contains history e → has_name e.who name ≡ true → has_name names name ≡ true) → (c : ℕ)
    → is_claimed (state_after history) c ≡ true → claims names (state_after history) c ≡ true
claims_owned names history own = run_owned names empty history own (λ c is. let no : false ≡ true = is in cc)

-- what is held after a part of what was seen is so after whatever follows
pub holds_after : (seat : Gripped) (there rest : List Event) (c : ℕ) → seat.view.seen ≡ there ++ rest → is_held (state_after there) c ≡ true → HoldsOn seat c
holds_after seat there rest c seen held more legal =
    let same : seat.view.seen ++ more ≡ there ++ (rest ++ more) = ap (λ (h : List Event). h ++ more) seen ∙ append_assoc there rest more in
    let got = some_bytes ((state_after there).held c) held in
    subst (λ (h : List Event). is_held (state_after h) c ≡ true) (sym same)
    (ap is_some (held_lasts seat.view.fixed there (rest ++ more) c got.0 (subst (λ (h : List Event). IsLegal seat.view.fixed h) same legal) got.1))

pub holds_on : (seat : Gripped) (c : ℕ) → is_held (state_after seat.view.seen) c ≡ true → HoldsOn seat c
holds_on seat c held = holds_after seat seat.view.seen [] c (sym (append-nil seat.view.seen)) held

-- looking round is no call
pub looks_on : (handed : Piece → Type 0) (old new : Gripped) → LooksRound old.view new.view → GoneOn handed old new 0 0
looks_on handed old new looked = sees_on handed old new looked.sees

-- each call that a seat has seen is its own, once it is alone and has looked round
pub seen_own : (then new : SeatView) → AreAllNames then.names → LooksRound then new → (e : Event) → Contains then.seen e → Contains (mine new) e
seen_own then new all looked e h =
    subst (λ (es : List Event). Contains es e) (sym (looked.alone all))
    (subst (λ (es : List Event). Contains es e) (sym looked.sees.goes_on.seen_is)
    (Contains-append_left (then.seen ++ looked.sees.between) [] e (Contains-append_left then.seen looked.sees.between e h)))

-- a chunk that is claimed where a seat takes, the seat claims itself, if it is alone
taken_own : (old then new : Gripped) (group want granted c : ℕ) (called : Called (Take group want granted) old.view then.view) → LooksRound then.view new.view
    → is_claimed (state_after (old.view.seen ++ called.between)) c ≡ true → IsAlone old.view
    → claims (names_of old.view) (state_after (old.view.seen ++ called.between)) c ≡ true
taken_own old then new group want granted c called looked claimed alone =
    let names : List Name = names_of old.view in
    let there : List Event = old.view.seen ++ called.between in
    let all : AreAllNames then.view.names = subst (λ (ns : List Named). AreAllNames ns) (sym called.goes_on.names_are) alone.all in
    let same : names_of new.view ≡ names =
    ap (λ (ns : List Named). map (λ (named : Named). named.name) ns) (looked.sees.goes_on.names_are ∙ called.goes_on.names_are) in
    let mine_there : (e : Event) → Contains there e → Contains (mine new.view) e =
    (λ e h.
    seen_own then.view new.view all looked e (subst (λ (es : List Event). Contains es e) (sym called.goes_on.seen_is)
    (Contains-append_left there (event_of old.view (Take group want granted) ∷ []) e h))) in
    let alone_new : IsAlone new.view =
    alone_on IsNone then new 0 0 (looks_on IsNone then new looked)
    (alone_on IsNone old then 0 0 (goes_on IsNone old then (Take group want granted) tt called) alone) in
    let own : (e : Event) (name : Name) → Contains there e → has_name e.who name ≡ true → has_name names name ≡ true =
    (λ e name h has. subst (λ (ns : List Name). has_name ns name ≡ true) same (alone_new.own e name (mine_there e h) has)) in
    claims_owned names there own c claimed

cases_claim : (o : Option Name) → (is_some o ≡ false) ⊎ ((name : Name) × (o ≡ Some name))
cases_claim None = inl refl
cases_claim (Some name) = inr (name, refl)

-- a chunk that is wanted and not granted is held, or it is claimed, by the seat itself or by somebody else
pub rest_there : (old then new : Gripped) (group want granted : ℕ) → Called (Take group want granted) old.view then.view → LooksRound then.view new.view
    → (c : ℕ) → IsWanted group want c → c < (fixed_of old).capacity → (in_mask group granted c ≡ true) ⊎ HoldsOn new c ⊎ IsBusyOn old new c
rest_there old then new group want granted called looked c wanted below =
    let names : List Name = names_of old.view in
    let there : List Event = old.view.seen ++ called.between in
    let s : State = state_after there in
    let call : Event = event_of old.view (Take group want granted) in
    let seen : new.view.seen ≡ there ++ (call ∷ looked.sees.between) =
    looked.sees.goes_on.seen_is ∙ append-nil (then.view.seen ++ looked.sees.between) ∙ ap (λ (h : List Event). h ++ looked.sees.between) called.goes_on.seen_is
    ∙ append_assoc there (call ∷ []) looked.sees.between in
    let legal : IsLegal then.view.fixed there =
    (legal-append then.view.fixed empty there (call ∷ []) (subst (λ (h : List Event). IsLegal then.view.fixed h) called.goes_on.seen_is called.goes_on.legal)).0 in
    elim (cases_Bool (in_mask group granted c)) [
      | inl hit ↦ inl hit
      | inr miss ↦ elim (cases_Bool (is_held s c)) [
        | inl held ↦ inr (inl (holds_after new there (call ∷ looked.sees.between) c seen held))
        | inr not_held ↦ elim (cases_claim (s.claim c)) [
          | inl unclaimed ↦
              let right = right_there (Take group want granted) old.view then.view called in
              let room : c < then.view.fixed.capacity = subst (λ (f : Fixed). c < f.capacity) (sym called.goes_on.fixed_is) below in
              let free_there : not (is_held s c || is_claimed s c) ≡ true = rw not_held (rw unclaimed refl) in
              let granted_too = right.bits c wanted.0 ∙ and_from _ _ wanted.1 (and_from _ _ (lt-ltb c then.view.fixed.capacity room) free_there) in
              absurd (both_ways _ miss (and_from (c / 64 == group) (has_bit granted (c % 64)) (eq-eqb (c / 64) group wanted.0) granted_too))
          | inr (name, claimed) ↦ elim (cases_Bool (has_name names name)) [
            | inl ours ↦
                let own : claims names s c ≡ true = subst (λ (o : Option Name). is_among names o ≡ true) (sym claimed) ours in
                inr (inr (inl (sym (claims_last then.view.fixed old.view.seen called.between names c legal called.goes_on.others) ∙ own)))
            | inr theirs ↦ inr (inr (inr (
              λ alone.
                  let some : is_claimed s c ≡ true = ap is_some claimed in
                  let own : is_among names (Some name) ≡ true =
                  subst (λ (o : Option Name). is_among names o ≡ true) claimed (taken_own old then new group want granted c called looked some alone) in
                  both_ways _ theirs own,
              record { before = called.between; after = call ∷ looked.sees.between; seen_is = seen; name = name; claimed = claimed; of = theirs },
            )))
          ]
        ]
      ]
    ]

-- a chunk that was committed is held
pub held_there : (old new : Gripped) (group : ℕ) (piece : Piece) (committed : ℕ) → Called (Commit group piece committed) old.view new.view
    → (c : ℕ) → in_mask group committed c ≡ true → HoldsOn new c
held_there old new group piece committed called c hit =
    let there : List Event = old.view.seen ++ called.between in
    let last : Event = event_of old.view (Commit group piece committed) in
    let right = right_there (Commit group piece committed) old.view new.view called in
    let parts = and_parts (c / 64 == group) (has_bit committed (c % 64)) hit in
    let both : (claims (names_of old.view) (state_after there) c && holds_chunk piece c) ≡ true =
    sym (right.1.bits c (eqb-true (c / 64) group parts.0)) ∙ parts.1 in
    let has : holds_chunk piece c ≡ true = (and_parts _ _ both).1 in
    let then : state_after new.view.seen ≡ after (state_after there) last = ap state_after called.goes_on.seen_is ∙ run-append empty there (last ∷ []) in
    holds_on new c (subst (λ (t : State). is_held t c ≡ true) (sym then) (rw hit has))

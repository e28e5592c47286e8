-- What workers leave to the seat with which theirs were joined: each piece is one that was handed over.
use Rattle.gather.proofs.SeatCommon.{◌≡◌, ℕ, ◌<◌, true, false, List, [], ◌++◌, length, map, get_or, Contains, refl, sym, ap, subst, ◌∙◌, arith, inl, inr, All, both_ways, false_from_ne_true, All-member, Contains-cons_cases, IsHanded, IsFrom, from_wider, Fixed, Event, Piece, Named, SeatView, events_of, state_after, Name, has_name, claims, mine, names_of, seat_claims, Assembly, opening_view, AreAllNames}
use Rattle.gather.specs.declared.crew.Crew.{Crew}
use Rattle.gather.specs.Crews.{Each, Worked}
use Rattle.gather.specs.Joined.{AreCallsOf, AreClaimsOf, HasAllNamesOf}
use Rattle.gather.specs.Seats.{BeginsAfter, KeepsItsOwn}

-- what the holders of each of these crews may give
abbrev pub AreLent : {H : Type 0} → (H → ℕ → ℕ → List ℕ → Type 0) → (Piece → Type 0) → List (Crew H) → Type 0
AreLent {H = H} gives handed crews = All (λ (crew : Crew H). (piece : Piece) → IsHanded gives crew.holders.items piece → handed piece) crews

-- the first seat of a store has the only name
pub opening_all : (fixed : Fixed) (view : SeatView) → view ≡ opening_view fixed → AreAllNames view.names
opening_all fixed view is =
    let only : Named = record { name = []; splits = 0 } in
    subst (λ (v : SeatView). AreAllNames v.names) (sym is) (record {
      first = refl;
      split = λ named number among below. elim (Contains-cons_cases [] only named among) [
        | inl same ↦ let none : number < 0 = subst (λ (n : Named). number < n.splits) same below in absurd (omega (arith, none))
        | inr never ↦ absurd (omega (arith, never.1))
      ];
    })

-- a seat that has seen nothing has made no call
no_calls : (view : SeatView) → view.seen ≡ [] → mine view ≡ []
no_calls view none = ap (λ (h : List Event). events_of (names_of view) h) none

never_among : (events : List Event) (e : Event) → events ≡ [] → Contains events e → ⊥
never_among events e none h = let there : Contains [] e = subst (λ (es : List Event). Contains es e) none h in omega (arith, there.1)

module _ (H : Type 0) (gives : H → ℕ → ℕ → List ℕ → Type 0) (count : H → ℕ) (handed : Piece → Type 0) (assembly : Assembly) (given : SeatView) (before after : List (Crew H))
    (none : given.seen ≡ []) (begins : All (λ (crew : Crew H). BeginsAfter given crew.seat.view) before)
    (wide : AreLent gives handed before) (each : Each (Worked assembly gives count) before after) where
  -- what a crew called, and by which names
  crew_from : (i : ℕ) (d : Crew H) → i < length before → (e : Event) → Contains (mine (get_or after i d).seat.view) e
      → IsFrom handed e.call × (e.who ≡ names_of (get_or after i d).seat.view)
  crew_from i d below e h =
      let old : Crew H = get_or before i d in
      let new : Crew H = get_or after i d in
      let gone = (each.each i d below).reports.gains in
      let nothing : mine old.seat.view ≡ [] = no_calls old.seat.view ((begins i d below).seen_is ∙ none) in
      let own : mine new.seat.view ≡ gone.own = gone.mine_is ∙ ap (λ (es : List Event). es ++ gone.own) nothing in
      let there : Contains gone.own e = subst (λ (es : List Event). Contains es e) own h in (
        All-member (λ (x : Event). IsFrom handed x.call) gone.own
            (from_wider (IsHanded gives old.holders.items) handed (wide i d below) gone.own gone.from) e there,
        All-member (λ (x : Event). x.who ≡ names_of old.seat.view) gone.own gone.by e there
            ∙ ap (λ (ns : List Named). map (λ (named : Named). named.name) ns) (sym gone.names_are),
      )

  -- what the joined seat called
  joined_from : (stays joined : SeatView) → KeepsItsOwn given stays → AreCallsOf stays after joined → HasAllNamesOf stays after joined → (e : Event)
      → Contains (mine joined) e → IsFrom handed e.call × ((name : Name) → has_name e.who name ≡ true → has_name (names_of joined) name ≡ true)
  joined_from stays joined keeps calls has e h = elim (calls e h) [
    | inl ours ↦ absurd (never_among (mine stays) e (no_calls stays (ap (λ (v : SeatView). v.seen) keeps.rest_is ∙ none)) ours)
    | inr of ↦
        let i : ℕ = of.among.0 in
        let below : i < length before = omega (arith, of.among.1, each.len) in
        let its = crew_from i of.crew below e (subst (λ (crew : Crew H). Contains (mine crew.seat.view) e) (sym of.among.2) of.call) in (
          its.0,
          λ name by. has.1 of.crew of.among name (subst (λ (crew : Crew H). has_name (names_of crew.seat.view) name ≡ true) of.among.2
              (subst (λ (who : List Name). has_name who name ≡ true) its.1 by)),
        )
  ]

  -- it claims nothing
  claims_none : (stays joined : SeatView) → KeepsItsOwn given stays → AreClaimsOf stays after joined → (c : ℕ) → seat_claims joined c ≡ false
  claims_none stays joined keeps claim c = false_from_ne_true _ (λ h. elim (claim c h) [
    | inl ours ↦
        let seen : stays.seen ≡ [] = ap (λ (v : SeatView). v.seen) keeps.rest_is ∙ none in
        let no : false ≡ true = subst (λ (es : List Event). claims (names_of stays) (state_after es) c ≡ true) seen ours in cc
    | inr of ↦
        let i : ℕ = of.among.0 in
        let below : i < length before = omega (arith, of.among.1, each.len) in
        let now : seat_claims (get_or after i of.crew).seat.view c ≡ true =
        subst (λ (crew : Crew H). seat_claims crew.seat.view c ≡ true) (sym of.among.2) of.claims in
        absurd (both_ways _ ((begins i of.crew below).no_claims c) ((each.each i of.crew below).claimed c now))
  ])

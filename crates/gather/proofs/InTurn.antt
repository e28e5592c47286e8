-- What crews that meet know of each other, and so of whoever claimed a chunk while one of them closed.
use Rattle.gather.proofs.SeatCommon.{◌≡◌, ◌≢◌, ◌⊎◌, ℕ, zero, suc, ◌+◌, ◌<◌, ◌≤◌, true, false, List, [], ◌∷◌, ◌++◌, append-nil, append_assoc, length, map, slice_index_or, Contains, Some, Option, refl, sym, ap, subst, ◌∙◌, arith, inl, inr, All, cases_Bool, cases_lt, both_ways, Contains-cons_cases, Contains-head, Contains-tail, Among, IsHanded, IsNone, IsTooLarge, HasFailed, made_of, Event, Fixed, Form, Piece, Named, SeatView, AreOfOthers, IsLegal, events_of, is_by, state_after, Name, has_name, empty, is_among, mine, names_of, seat_claims, claims_last, legal-append, Assembly, Gripped, IsSeatOf, fixed_of}
use Rattle.std.proofs.Common.{length-set, get_or-set_other, get_or-set_same}
use Rattle.std.proofs.lemmas.List.{append_cancel_left, get_or_default}
use Rattle.std.proofs.lemmas.List.Elements.{filter-append}
use Rattle.std.specs.Prelude.{slice_set}
use Rattle.gather.specs.declared.crew.Crew.{Crew}
use Rattle.gather.specs.Crews.{Each, WorkedOn}
use Rattle.gather.specs.Filling.{Closes, IsBusyBeside, IsOfNone}
use Rattle.gather.specs.Going.{goes}
use Rattle.gather.specs.SeatLasting.{IsBusyOn, IsClaimedMeanwhile, IsOther, alone_on, lasts, meanwhile_from, meanwhile_on}
use Rattle.gather.specs.Seats.{GoneOn, claims_of}
use Rattle.gather.specs.Turns.{AllMeet, HasSeen, Looks, Meets, Turns}
use Rattle.gather.proofs.Sharing.{sees_on}
use Rattle.holders.specs.Parts.{HaveParts}
use Rattle.holders.specs.declared.grain.Grain.TheVariants.{Group as ByGroup}
use Rattle.store_core.specs.Knowledge.{KeepsClaims, Sees}
use Rattle.store_core.specs.Views.{Continues}
use Rattle.store_core.proofs.Joining.{continued}

none_first : (x z : List Event) → x ++ z ≡ [] → x ≡ []
none_first [] z none = refl
none_first (e ∷ x) z none = let no : e ∷ (x ++ z) ≡ [] = none in cc

-- of two stretches of others' calls each is of others', and both together are
others_first : (names : List Name) (x z : List Event) → AreOfOthers names (x ++ z) → AreOfOthers names x
others_first names x z none = none_first (events_of names x) (events_of names z) (sym (filter-append (is_by names) x z) ∙ none)

others_both : (names : List Name) (x z : List Event) → AreOfOthers names x → AreOfOthers names z → AreOfOthers names (x ++ z)
others_both names x z first second = filter-append (is_by names) x z ∙ ap (λ (h : List Event). h ++ events_of names z) first ∙ second

seen_more : (a b : SeatView) (sees : Sees a b) → b.seen ≡ a.seen ++ sees.between
seen_more a b sees = sees.goes_on.seen_is ∙ append-nil (a.seen ++ sees.between)

has_seen : (a b : SeatView) → Sees a b → HasSeen a b
has_seen a b sees = (sees.between, seen_more a b sees)

has_then : (a b c : SeatView) → HasSeen a b → HasSeen b c → HasSeen a c
has_then a b c first second = (first.0 ++ second.0, second.1 ∙ ap (λ (h : List Event). h ++ second.0) first.1 ∙ append_assoc a.seen first.0 second.0)

pub sees_none : (view : SeatView) → IsLegal view.fixed view.seen → Sees view view
sees_none view legal = record {
  between = [];
  goes_on = record {
    fixed_is = refl;
    names_are = refl;
    seen_is = sym (append-nil (view.seen ++ []) ∙ append-nil view.seen);
    others = refl;
    mine_is = sym (append-nil (mine view));
    legal = legal;
  };
  claims_are = λ c. refl;
  written_are = refl;
  storing_is = refl;
}

pub sees_then : (a b c : SeatView) → Sees a b → Sees b c → Sees a c
sees_then a b c first second = record {
  between = first.between ++ second.between;
  goes_on = record {
    fixed_is = second.goes_on.fixed_is ∙ first.goes_on.fixed_is;
    names_are = second.goes_on.names_are ∙ first.goes_on.names_are;
    seen_is = seen_more b c second ∙ ap (λ (h : List Event). h ++ second.between) (seen_more a b first) ∙ append_assoc a.seen first.between second.between
        ∙ sym (append-nil (a.seen ++ (first.between ++ second.between)));
    others = others_both (names_of a) first.between second.between first.goes_on.others
        (subst (λ (ns : List Named). AreOfOthers (map (λ (named : Named). named.name) ns) second.between) first.goes_on.names_are second.goes_on.others);
    mine_is = second.goes_on.mine_is ∙ append-nil (mine b) ∙ first.goes_on.mine_is;
    legal = second.goes_on.legal;
  };
  claims_are = λ n. second.claims_are n ∙ first.claims_are n;
  written_are = second.written_are ∙ first.written_are;
  storing_is = second.storing_is ∙ first.storing_is;
}

-- a seat that met another
pub met_sees : (view new : SeatView) (history : List Event) → new ≡ record view { seen = history } → Continues view history → IsLegal new.fixed new.seen → KeepsClaims view new → Sees view new
met_sees view new history same on legal keeps = record {
  between = on.between;
  goes_on = record {
    fixed_is = ap (λ (v : SeatView). v.fixed) same;
    names_are = ap (λ (v : SeatView). v.names) same;
    seen_is = ap (λ (v : SeatView). v.seen) same ∙ on.is ∙ sym (append-nil (view.seen ++ on.between));
    others = on.others;
    mine_is = ap mine same ∙ continued view history on ∙ sym (append-nil (mine view));
    legal = legal;
  };
  claims_are = keeps;
  written_are = ap (λ (v : SeatView). v.written) same;
  storing_is = ap (λ (v : SeatView). v.storing) same;
}

pub looks_none : {H : Type 0} (assembly : Assembly) (crew : Crew H) → IsSeatOf assembly crew.seat → Looks assembly crew crew
looks_none assembly crew of = record { of = of; sees = sees_none crew.seat.view of.knows.legal; same = refl }

pub looks_then : {H : Type 0} (assembly : Assembly) (a b c : Crew H) → Looks assembly a b → Looks assembly b c → Looks assembly a c
looks_then {H = H} assembly a b c first second = record {
  of = second.of;
  sees = sees_then a.seat.view b.seat.view c.seat.view first.sees second.sees;
  same = second.same ∙ ap (λ (crew : Crew H). record crew { seat = c.seat }) first.same;
}

-- the seat that crews met goes on to meet another
pub meets_on : {H : Type 0} (assembly : Assembly) (before now after : SeatView) (old new : Crew H) → Sees now after → Meets assembly before now old new → Meets assembly before after old new
meets_on assembly before now after old new sees met = record {
  looks = met.looks;
  heard = met.heard;
  told = has_then new.seat.view now after met.told (has_seen now after sees);
}

pub meets_from : {H : Type 0} (assembly : Assembly) (before now after : SeatView) (old new : Crew H) → Sees before now → Meets assembly now after old new → Meets assembly before after old new
meets_from assembly before now after old new sees met = record {
  looks = met.looks;
  heard = has_then before now new.seat.view (has_seen before now sees) met.heard;
  told = met.told;
}

-- one seat meets the others twice
module _ {H : Type 0} (assembly : Assembly) (first last : Crew H) (mid : SeatView) (olds mids news : List (Crew H)) (begun : Sees first.seat.view mid) (ended : Sees mid last.seat.view)
    (looks : Looks assembly first last)
    (once : Each (Meets assembly first.seat.view mid) olds mids) (twice : Each (Meets assembly mid last.seat.view) mids news) where
  each_looks : (i : ℕ) (d : Crew H) → i < length (first ∷ olds) → Looks assembly (slice_index_or (first ∷ olds) i d) (slice_index_or (last ∷ news) i d)
  each_looks zero d below = looks
  each_looks (suc i) d below =
      looks_then assembly _ (slice_index_or mids i d) _ (once.each i d (omega (arith, below))).looks (twice.each i d (omega (arith, below, once.len))).looks

  -- the seat has seen between its two rounds what any had seen
  all_seen : (i : ℕ) (d : Crew H) → i < length (first ∷ olds) → HasSeen (slice_index_or (first ∷ olds) i d).seat.view mid
  all_seen zero d below = has_seen first.seat.view mid begun
  all_seen (suc i) d below =
      let met = once.each i d (omega (arith, below)) in
      has_then (slice_index_or olds i d).seat.view (slice_index_or mids i d).seat.view mid (has_seen _ _ met.looks.sees) met.told

  all_told : (j : ℕ) (e : Crew H) → j < length (first ∷ olds) → HasSeen mid (slice_index_or (last ∷ news) j e).seat.view
  all_told zero e below = has_seen mid last.seat.view ended
  all_told (suc j) e below = (twice.each j e (omega (arith, below, once.len))).heard

  pub all_met : AllMeet assembly (first ∷ olds) (last ∷ news)
  all_met = record {
    looks = record { len = omega (arith, once.len, twice.len); each = each_looks };
    seen = λ i j d e low below. has_then (slice_index_or (first ∷ olds) i d).seat.view mid (slice_index_or (last ∷ news) j e).seat.view (all_seen i d low) (all_told j e below);
  }

-- Whoever made no call from before a claim until after it, and made it, had made it before.
idle_claims : (view last : SeatView) (x z : List Event) (name : Name) (c : ℕ) → Sees view last → last.seen ≡ (view.seen ++ x) ++ z → has_name (names_of view) name ≡ true
    → (state_after (view.seen ++ x)).claim c ≡ Some name → seat_claims view c ≡ true
idle_claims view last x z name c sees there has claimed =
    let cut : sees.between ≡ x ++ z =
    append_cancel_left view.seen sees.between (x ++ z) (sym (seen_more view last sees) ∙ there ∙ append_assoc view.seen x z) in
    let others : AreOfOthers (names_of view) x = others_first (names_of view) x z (subst (λ (h : List Event). AreOfOthers (names_of view) h) cut sees.goes_on.others) in
    let legal : IsLegal last.fixed (view.seen ++ x) = (legal-append last.fixed empty (view.seen ++ x) z (subst (λ (h : List Event). IsLegal last.fixed h) there sees.goes_on.legal)).0 in
    sym (claims_last last.fixed view.seen x (names_of view) c legal others) ∙ subst (λ (o : Option Name). is_among (names_of view) o ≡ true) (sym claimed) has

-- a name is one of the crews', or none of theirs
whose : {H : Type 0} (crews : List (Crew H)) (name : Name) → ((crew : Crew H) × Contains crews crew × (has_name (names_of crew.seat.view) name ≡ true)) ⊎ IsOfNone crews name
whose [] name = inr (λ crew never. absurd (omega (arith, never.1)))
whose {H = H} (first ∷ crews) name = elim (cases_Bool (has_name (names_of first.seat.view) name)) [
  | inl has ↦ inl (first, Contains-head crews first, has)
  | inr lacks ↦ elim (whose crews name) [
    | inl (crew, among, has) ↦ inl (crew, Contains-tail crews first crew among, has)
    | inr none ↦ inr (λ crew among. elim (Contains-cons_cases crews first crew among) [
      | inl same ↦ subst (λ (x : Crew H). has_name (names_of x.seat.view) name ≡ false) (sym same) lacks
      | inr rest ↦ none crew rest
    ])
  ]
]

-- a crew that only looks before its round and after it
module _ {H : Type 0} (assembly : Assembly) (form : Form) (gives : H → ℕ → ℕ → List ℕ → Type 0) (count : H → ℕ) (a b c d : Crew H) (before : Looks assembly a b) (after : Looks assembly c d) where
  looks_worked : WorkedOn assembly (made_of form gives) count b c → WorkedOn assembly (made_of form gives) count a d
  looks_worked worked =
      let handed : Piece → Type 0 = IsHanded (made_of form gives) a.holders.items in
      let w : WorkedOn assembly (made_of form gives) count (record a { seat = b.seat }) c =
      subst (λ (crew : Crew H). WorkedOn assembly (made_of form gives) count crew c) before.same worked in
      let r = w.reports in
      subst (λ (crew : Crew H). WorkedOn assembly (made_of form gives) count a crew) (sym after.same) (record {
        of = after.of;
        reports = record {
          chunks = 0 + (r.chunks + 0);
          parents = 0 + (r.parents + 0);
          gains = goes.adds handed a.seat b.seat d.seat 0 (r.chunks + 0) 0 (r.parents + 0) (sees_on handed a.seat b.seat before.sees)
              (goes.adds handed b.seat c.seat d.seat r.chunks 0 r.parents 0 r.gains (sees_on handed c.seat d.seat after.sees));
          no_more = r.no_more;
          committed = omega (arith, r.committed);
          stored = omega (arith, r.stored);
          failed = r.failed;
          answered = r.answered;
          no_less = r.no_less;
          too_large = λ large. elim (r.too_large large) [
            | inl was ↦ inl was
            | inr is ↦ inr (subst (λ (f : Fixed). IsTooLarge handed f) before.sees.goes_on.fixed_is is)
          ];
          stays = r.stays;
        };
        claimed = λ n is. sym (before.sees.claims_are n) ∙ w.claimed n (sym (after.sees.claims_are n) ∙ is);
        holders = w.holders;
      })

  pub closes_between : (busy busy' : Gripped → Gripped → ℕ → Type 0) → ((n : ℕ) → busy b.seat c.seat n → busy' a.seat d.seat n) → Closes assembly form gives count busy b c
      → Closes assembly form gives count busy' a d
  closes_between busy busy' then closes = record {
    worked = looks_worked closes.worked;
    fills = λ blob is served have.
        let F : Fixed = fixed_of assembly in
        let held : b.holders.items ≡ a.holders.items = ap (λ (crew : Crew H). crew.holders.items) before.same in
        let gone : GoneOn IsNone c.seat d.seat 0 0 = sees_on IsNone c.seat d.seat after.sees in
        elim (closes.fills blob is served (subst (λ (holders : List H). HaveParts form ByGroup gives F.mode blob holders) (sym held) have)) [
          | inl failed ↦ inl (subst (λ (crew : Crew H). HasFailed crew.report) (sym after.same) failed)
          | inr (inl large) ↦ inr (inl (
            subst (λ (crew : Crew H). crew.report.too_large ≡ true) (sym after.same) large.0,
            subst (λ (holders : List H). IsTooLarge (IsHanded (made_of form gives) holders) F) held large.1,
          ))
          | inr (inr (filled, full)) ↦ inr (inr (
            record {
              recorded = filled.recorded;
              is = lasts.length IsNone c.seat d.seat 0 0 filled.recorded gone filled.is;
              chunks = λ long n below. elim (filled.chunks long n below) [
                | inl holds ↦ inl (lasts.chunk IsNone c.seat d.seat 0 0 n gone holds)
                | inr is ↦ inr (then n is)
              ];
            },
            record {
              recorded = full.recorded;
              is = lasts.length IsNone c.seat d.seat 0 0 full.recorded gone full.is;
              parents = λ long m low below. lasts.parent IsNone c.seat d.seat 0 0 m gone (full.parents long m low below);
            },
          ))
        ];
  }

-- one crew closes between two meetings of all
module _ {H : Type 0} (assembly : Assembly) (form : Form) (gives : H → ℕ → ℕ → List ℕ → Type 0) (count : H → ℕ) (number : ℕ) (old met new : List (Crew H)) (one : Crew H)
    (there : number < length old) (first : AllMeet assembly old met) (second : AllMeet assembly (slice_set met number one) new) where
  below_met : number < length met
  below_met = omega (arith, there, first.looks.len)

  in_set : (i : ℕ) → i < length old → i < length (slice_set met number one)
  in_set i below = omega (arith, below, first.looks.len, length-set met number one)

  other_looks : (i : ℕ) (d : Crew H) → i < length old → i ≢ number → Looks assembly (slice_index_or old i d) (slice_index_or new i d)
  other_looks i d below other =
      looks_then assembly _ (slice_index_or met i d) _ (first.looks.each i d below)
      (subst (λ (crew : Crew H). Looks assembly crew (slice_index_or new i d)) (get_or-set_other met number i one d other) (second.looks.each i d (in_set i below)))

  one_looks : (d : Crew H) → Looks assembly one (slice_index_or new number d)
  one_looks d = subst (λ (crew : Crew H). Looks assembly crew (slice_index_or new number d)) (get_or-set_same met number one d below_met) (second.looks.each number d (in_set number there))

  -- what another crew's name had claimed then, that crew claims
  other_claims : (d : Crew H) (n : ℕ) (is : IsClaimedMeanwhile (IsOther (slice_index_or met number d).seat.view) (slice_index_or met number d).seat.view one.seat.view n) (i : ℕ) (e : Crew H)
      → i < length old → has_name (names_of (slice_index_or old i e).seat.view) is.name ≡ true → seat_claims (slice_index_or old i e).seat.view n ≡ true
  other_claims d n is i e below has =
      let view : SeatView = (slice_index_or old i e).seat.view in
      let begun : SeatView = (slice_index_or met number d).seat.view in
      let other : i ≢ number = (λ same.
      let here : names_of (slice_index_or old number d).seat.view ≡ names_of view =
      ap (λ (crew : Crew H). names_of crew.seat.view) (get_or_default old number d e there ∙ ap (λ (k : ℕ). slice_index_or old k e) (sym same)) in
      let now : names_of begun ≡ names_of view = ap (λ (ns : List Named). map (λ (named : Named). named.name) ns) (first.looks.each number d there).sees.goes_on.names_are ∙ here in
      both_ways _ (subst (λ (ns : List Name). has_name ns is.name ≡ false) now is.of) has) in
      let heard = first.seen i number e d below there in
      let told : HasSeen one.seat.view (slice_index_or new i e).seat.view =
      subst (λ (crew : Crew H). HasSeen crew.seat.view (slice_index_or new i e).seat.view) (get_or-set_same met number one d below_met) (second.seen number i d e (in_set number there) (in_set i below)) in
      let at : begun.seen ++ is.before ≡ view.seen ++ (heard.0 ++ is.before) = ap (λ (h : List Event). h ++ is.before) heard.1 ∙ append_assoc view.seen heard.0 is.before in
      idle_claims view (slice_index_or new i e).seat.view (heard.0 ++ is.before) (is.after ++ told.0) is.name n (other_looks i e below other).sees
      (told.1 ∙ ap (λ (h : List Event). h ++ told.0) is.seen_is ∙ append_assoc (begun.seen ++ is.before) is.after told.0 ∙ ap (λ (h : List Event). h ++ (is.after ++ told.0)) at)
      has (subst (λ (h : List Event). (state_after h).claim n ≡ Some is.name) at is.claimed)

  turn_busy : (d : Crew H) (n : ℕ) → IsBusyOn (slice_index_or met number d).seat one.seat n → IsBusyBeside old (slice_index_or old number d).seat (slice_index_or new number d).seat n
  turn_busy d n (inl claims) = inl (sym ((first.looks.each number d there).sees.claims_are n) ∙ claims)
  turn_busy d n (inr (others, is)) =
      let a : Gripped = (slice_index_or old number d).seat in
      let b : Gripped = (slice_index_or met number d).seat in
      let z : Gripped = (slice_index_or new number d).seat in
      let gone : GoneOn IsNone a b 0 0 = sees_on IsNone a b (first.looks.each number d there).sees in
      inr (
        λ alone. others (alone_on IsNone a b 0 0 gone alone),
        elim (whose old is.name) [
          | inl (crew, among, has) ↦
              let i : ℕ = among.0 in
              inl (record {
                crew = crew;
                among = among;
                claims = subst (λ (x : Crew H). seat_claims x.seat.view n ≡ true) among.2
                    (other_claims d n is i crew among.1 (subst (λ (x : Crew H). has_name (names_of x.seat.view) is.name ≡ true) (sym among.2) has));
              })
          | inr none ↦
              let outside : IsClaimedMeanwhile (IsOfNone old) b.view one.seat.view n =
              record { before = is.before; after = is.after; seen_is = is.seen_is; name = is.name; claimed = is.claimed; of = none } in
              inr (meanwhile_on (IsOfNone old) IsNone a one.seat z 0 0 n (sees_on IsNone one.seat z (one_looks d).sees) (meanwhile_from (IsOfNone old) IsNone a b one.seat 0 0 n gone outside))
        ],
      )

  pub turns : ((d : Crew H) → Closes assembly form gives count IsBusyOn (slice_index_or met number d) one) → Turns assembly form gives count number old new
  turns closes = record {
    len = omega (arith, second.looks.len, length-set met number one, first.looks.len);
    others = other_looks;
    closes = λ d. closes_between assembly form gives count (slice_index_or old number d) (slice_index_or met number d) one (slice_index_or new number d)
        (first.looks.each number d there) (one_looks d) IsBusyOn (IsBusyBeside old) (turn_busy d) (closes d);
  }

-- crews with the same names, that claim nothing more
pub record ClaimsNoMore {H : Type 0} (old new : Crew H) : Type 0 where
  pub names_are : new.seat.view.names ≡ old.seat.view.names
  pub claims : Among (claims_of old.seat) (claims_of new.seat)

pub beside_on : {H : Type 0} (crews : List (Crew H)) (handed : Piece → Type 0) (s t u : Gripped) (n q c : ℕ) → GoneOn handed t u n q → IsBusyBeside crews s t c → IsBusyBeside crews s u c
beside_on crews handed s t u n q c gone (inl claims) = inl claims
beside_on crews handed s t u n q c gone (inr (others, inl by)) = inr (others, inl by)
beside_on crews handed s t u n q c gone (inr (others, inr is)) = inr (others, inr (meanwhile_on (IsOfNone crews) handed s t u n q c gone is))

pub beside_from : {H : Type 0} (before crews : List (Crew H)) → Each ClaimsNoMore before crews → (handed : Piece → Type 0) (s t u : Gripped) (n q c : ℕ) → GoneOn handed s t n q
    → Among (claims_of s) (claims_of t) → IsBusyBeside crews t u c → IsBusyBeside before s u c
beside_from before crews each handed s t u n q c gone among (inl claims) = inl (among c claims)
beside_from {H = H} before crews each handed s t u n q c gone among (inr (others, inl by)) =
    let i : ℕ = by.among.0 in
    let below : i < length before = omega (arith, by.among.1, each.len) in
    inr (
      λ alone. others (alone_on handed s t n q gone alone),
      inl (record {
        crew = slice_index_or before i by.crew;
        among = (i, below, get_or_default before i (slice_index_or before i by.crew) by.crew below);
        claims = (each.each i by.crew below).claims c (subst (λ (crew : Crew H). seat_claims crew.seat.view c ≡ true) (sym by.among.2) by.claims);
      }),
    )
beside_from {H = H} before crews each handed s t u n q c gone among (inr (others, inr is)) =
    let none : IsOfNone before is.name = (λ crew within.
    let i : ℕ = within.0 in
    let now : Crew H = slice_index_or crews i crew in
    let below : i < length crews = omega (arith, within.1, each.len) in
    let same : names_of now.seat.view ≡ names_of crew.seat.view =
    ap (λ (ns : List Named). map (λ (named : Named). named.name) ns) (each.each i crew within.1).names_are ∙ ap (λ (x : Crew H). names_of x.seat.view) within.2 in
    subst (λ (ns : List Name). has_name ns is.name ≡ false) same (is.of now (i, below, get_or_default crews i now crew below))) in
    let outside : IsClaimedMeanwhile (IsOfNone before) t.view u.view c =
    record { before = is.before; after = is.after; seen_is = is.seen_is; name = is.name; claimed = is.claimed; of = none } in
    inr (λ alone. others (alone_on handed s t n q gone alone), inr (meanwhile_from (IsOfNone before) handed s t u n q c gone outside))

-- one more crew of a round has its turn
module _ {H : Type 0} (assembly : Assembly) (form : Form) (gives : H → ℕ → ℕ → List ℕ → Type 0) (count : H → ℕ) (old now new : List (Crew H)) (number : ℕ)
    (of : All (λ (crew : Crew H). IsSeatOf assembly crew.seat) old) (len : length now ≡ length old) (there : number < length now)
    (rest : (i : ℕ) (d : Crew H) → i < length old → number ≤ i → Looks assembly (slice_index_or old i d) (slice_index_or now i d))
    (done : (i : ℕ) (d : Crew H) → i < number → Closes assembly form gives count (IsBusyBeside old) (slice_index_or old i d) (slice_index_or now i d))
    (turn : Turns assembly form gives count number now new) where
  kept : Each ClaimsNoMore old now
  kept = record {
    len = len;
    each = λ i d below. elim (cases_lt i number) [
      | inl low ↦ let worked = (done i d low).worked in record { names_are = worked.reports.gains.names_are; claims = worked.claimed }
      | inr high ↦ let looks = rest i d below high in record { names_are = looks.sees.goes_on.names_are; claims = λ c is. sym (looks.sees.claims_are c) ∙ is }
    ];
  }

  pub turned_rest : (i : ℕ) (d : Crew H) → i < length old → number + 1 ≤ i → Looks assembly (slice_index_or old i d) (slice_index_or new i d)
  turned_rest i d below high =
      looks_then assembly _ (slice_index_or now i d) _ (rest i d below (omega (arith, high))) (turn.others i d (omega (arith, below, len)) (λ e. omega (arith, e, high)))

  pub turned_done : (i : ℕ) (d : Crew H) → i < number + 1 → Closes assembly form gives count (IsBusyBeside old) (slice_index_or old i d) (slice_index_or new i d)
  turned_done i d low =
      let x : Crew H = slice_index_or old i d in
      let y : Crew H = slice_index_or now i d in
      let z : Crew H = slice_index_or new i d in
      let within : i < length old = omega (arith, low, there, len) in
      elim (cases_lt i number) [
        | inl sooner ↦
            let looks : Looks assembly y z = turn.others i d (omega (arith, within, len)) (λ e. omega (arith, e, sooner)) in
            closes_between assembly form gives count x x y z (looks_none assembly x (of i d within)) looks (IsBusyBeside old) (IsBusyBeside old)
            (λ n is. beside_on old IsNone x.seat y.seat z.seat 0 0 n (sees_on IsNone y.seat z.seat looks.sees) is) (done i d sooner)
        | inr later ↦
            let at : number ≡ i = omega (arith, low, later) in
            let looks : Looks assembly x y = rest i d within later in
            let closes : Closes assembly form gives count (IsBusyBeside now) y z =
            subst (λ (k : ℕ). Closes assembly form gives count (IsBusyBeside now) (slice_index_or now k d) (slice_index_or new k d)) at (turn.closes d) in
            closes_between assembly form gives count x y z z looks (looks_none assembly z closes.worked.of) (IsBusyBeside now) (IsBusyBeside old)
            (λ n is. beside_from old now kept IsNone x.seat y.seat z.seat 0 0 n (sees_on IsNone x.seat y.seat looks.sees) (λ c claims. sym (looks.sees.claims_are c) ∙ claims) is) closes
      ]

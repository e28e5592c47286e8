-- What a worker knows of a shared store by its seat, and that it lasts.
use Rattle.std.specs.Prelude.{◌≡◌, ◌⊎◌, ℕ, true, false, List, ◌++◌, map, Contains, Some, is_some}
use Rattle.std.proofs.Common.{append_assoc, inl, inr, subst, sym, ap, ◌∙◌}
use Rattle.std.proofs.lemmas.List.Elements.{Contains-append_cases}
use Rattle.bao_check.proofs.Lists.{All-member}
use Rattle.gather.specs.Filled.{Lasts}
use Rattle.gather.specs.Claims.{Among}
use Rattle.gather.specs.Seats.{GoneOn, claims_of}
use Rattle.store_core.specs.declared.history.Event.{Event}
use Rattle.store_core.specs.Histories.{IsLegal, state_after}
use Rattle.holders.specs.declared.piece.Piece.{Piece}
use Rattle.store_core.specs.declared.view.Named.{Named}
use Rattle.store_core.specs.declared.view.SeatView.{SeatView}
use Rattle.store_core.specs.Names.{Name, has_name}
use Rattle.store_core.specs.States.{State, is_held}
use Rattle.store_core.specs.Views.{mine, names_of}
use Rattle.store_shared.specs.Seats.{Gripped}
use Rattle.store_core.specs.Knowledge.{AreAllNames}

-- it is so of the state after all that was seen, and after whatever legally follows
abbrev pub IsFromNow : (State → Type 0) → Gripped → Type 0
IsFromNow P seat = (more : List Event) → IsLegal seat.view.fixed (seat.view.seen ++ more) → P (state_after (seat.view.seen ++ more))

-- the length is recorded
abbrev pub RecordsOn : Gripped → ℕ → Type 0
RecordsOn seat l = IsFromNow (λ (s : State). s.recorded ≡ Some l) seat

lasts_on : (P : State → Type 0) (handed : Piece → Type 0) (s t : Gripped) (n q : ℕ) → GoneOn handed s t n q → IsFromNow P s → IsFromNow P t
lasts_on P handed s t n q gone is more legal =
    let same : t.view.seen ++ more ≡ s.view.seen ++ (gone.more ++ more) =
    ap (λ (seen : List Event). seen ++ more) gone.seen_is ∙ append_assoc s.view.seen gone.more more in
    subst (λ (h : List Event). P (state_after h)) (sym same)
    (is (gone.more ++ more) (subst (λ (h : List Event). IsLegal s.view.fixed h) same (subst (λ fixed. IsLegal fixed (t.view.seen ++ more)) gone.fixed_is legal)))

records_last : (handed : Piece → Type 0) (s t : Gripped) (n q l : ℕ) → GoneOn handed s t n q → RecordsOn s l → RecordsOn t l
records_last handed s t n q l gone is = lasts_on (λ (x : State). x.recorded ≡ Some l) handed s t n q gone is

-- The seat has all names that there are, and no other names than these made its calls.
pub record IsAlone (view : SeatView) : Type 0 where
  pub all : AreAllNames view.names
  pub own : (e : Event) (name : Name) → Contains (mine view) e → has_name e.who name ≡ true → has_name (names_of view) name ≡ true

-- a chunk is held
abbrev pub HoldsOn : Gripped → ℕ → Type 0
HoldsOn seat c = IsFromNow (λ (s : State). is_held s c ≡ true) seat

-- a parent is held, if the seat has all names that there are
abbrev pub HasParentOn : Gripped → ℕ → Type 0
HasParentOn seat m = AreAllNames seat.view.names → IsFromNow (λ (s : State). is_some (s.parents m) ≡ true) seat

-- While a seat went on, the chunk was claimed by such a name: after a part of what the seat saw meanwhile.
pub record IsClaimedMeanwhile (by : Name → Type 0) (old new : SeatView) (c : ℕ) : Type 0 where
  pub before : List Event
  pub after : List Event
  pub seen_is : new.seen ≡ (old.seen ++ before) ++ after
  pub name : Name
  pub claimed : (state_after (old.seen ++ before)).claim c ≡ Some name
  pub of : by name

-- the name isn't one of the seat's
abbrev pub IsOther : SeatView → Name → Type 0
IsOther view name = has_name (names_of view) name ≡ false

-- the seat itself claims the chunk; or it isn't alone, and somebody else claimed the chunk while it went on
abbrev pub IsBusyOn : Gripped → Gripped → ℕ → Type 0
IsBusyOn old new c = (claims_of old c ≡ true) ⊎ ((¬ IsAlone old.view) × IsClaimedMeanwhile (IsOther old.view) old.view new.view c)

holds_last : (handed : Piece → Type 0) (s t : Gripped) (n q c : ℕ) → GoneOn handed s t n q → HoldsOn s c → HoldsOn t c
holds_last handed s t n q c gone is = lasts_on (λ (x : State). is_held x c ≡ true) handed s t n q gone is

-- a seat that is alone goes on, and stays so
pub alone_on : (handed : Piece → Type 0) (old new : Gripped) (n q : ℕ) → GoneOn handed old new n q → IsAlone old.view → IsAlone new.view
alone_on handed old new n q gone alone =
    let same : names_of new.view ≡ names_of old.view = ap (λ (ns : List Named). map (λ (named : Named). named.name) ns) gone.names_are in
    record {
      all = subst (λ (ns : List Named). AreAllNames ns) (sym gone.names_are) alone.all;
      own = λ e name h has.
          subst (λ (ns : List Name). has_name ns name ≡ true) (sym same)
          (elim (Contains-append_cases (mine old.view) gone.own e (subst (λ (es : List Event). Contains es e) gone.mine_is h)) [
            | inl before ↦ alone.own e name before has
            | inr last ↦
                subst (λ (who : List Name). has_name who name ≡ true) (All-member (λ (x : Event). x.who ≡ names_of old.view) gone.own gone.by e last) has
          ]);
    }

parent_last : (handed : Piece → Type 0) (s t : Gripped) (n q m : ℕ) → GoneOn handed s t n q → HasParentOn s m → HasParentOn t m
parent_last handed s t n q m gone is all =
    lasts_on (λ (x : State). is_some (x.parents m) ≡ true) handed s t n q gone (is (subst (λ (ns : List Named). AreAllNames ns) gone.names_are all))

-- what was claimed from a later time on, or until an earlier one, was claimed meanwhile
pub meanwhile_from : (by : Name → Type 0) (handed : Piece → Type 0) (s t u : Gripped) (n q c : ℕ) → GoneOn handed s t n q → IsClaimedMeanwhile by t.view u.view c → IsClaimedMeanwhile by s.view u.view c
meanwhile_from by handed s t u n q c gone is =
    let same : t.view.seen ++ is.before ≡ s.view.seen ++ (gone.more ++ is.before) =
    ap (λ (seen : List Event). seen ++ is.before) gone.seen_is ∙ append_assoc s.view.seen gone.more is.before in
    record {
      before = gone.more ++ is.before;
      after = is.after;
      seen_is = is.seen_is ∙ ap (λ (h : List Event). h ++ is.after) same;
      name = is.name;
      claimed = subst (λ (h : List Event). (state_after h).claim c ≡ Some is.name) same is.claimed;
      of = is.of;
    }

pub meanwhile_on : (by : Name → Type 0) (handed : Piece → Type 0) (s t u : Gripped) (n q c : ℕ) → GoneOn handed t u n q → IsClaimedMeanwhile by s.view t.view c → IsClaimedMeanwhile by s.view u.view c
meanwhile_on by handed s t u n q c gone is = record {
  before = is.before;
  after = is.after ++ gone.more;
  seen_is = gone.seen_is ∙ ap (λ (h : List Event). h ++ gone.more) is.seen_is ∙ append_assoc (s.view.seen ++ is.before) is.after gone.more;
  name = is.name;
  claimed = is.claimed;
  of = is.of;
}

pub busy_from : (handed : Piece → Type 0) (s t u : Gripped) (n q c : ℕ) → GoneOn handed s t n q → Among (claims_of s) (claims_of t) → IsBusyOn t u c → IsBusyOn s u c
busy_from handed s t u n q c gone among (inl claims) = inl (among c claims)
busy_from handed s t u n q c gone among (inr (others, is)) =
    let same : names_of t.view ≡ names_of s.view = ap (λ (ns : List Named). map (λ (named : Named). named.name) ns) gone.names_are in
    inr (
      λ alone. others (alone_on handed s t n q gone alone),
      subst (λ (ns : List Name). IsClaimedMeanwhile (λ (name : Name). has_name ns name ≡ false) s.view u.view c) same (meanwhile_from (IsOther t.view) handed s t u n q c gone is),
    )

pub busy_on : (handed : Piece → Type 0) (s t u : Gripped) (n q c : ℕ) → GoneOn handed t u n q → IsBusyOn s t c → IsBusyOn s u c
busy_on handed s t u n q c gone (inl claims) = inl claims
busy_on handed s t u n q c gone (inr (others, is)) = inr (others, meanwhile_on (IsOther s.view) handed s t u n q c gone is)

-- a seat that is alone claims it itself
pub busy_alone : (old new : Gripped) (c : ℕ) → IsAlone old.view → IsBusyOn old new c → claims_of old c ≡ true
busy_alone old new c alone (inl claims) = claims
busy_alone old new c alone (inr (others, is)) = absurd (others alone)

pub lasts : Lasts GoneOn claims_of RecordsOn HoldsOn HasParentOn IsBusyOn
lasts = record {
  length = records_last;
  chunk = holds_last;
  parent = parent_last;
  frees = λ handed s t u n q c gone among busy. inl (busy_from handed s t u n q c gone among busy);
  later = busy_on;
}

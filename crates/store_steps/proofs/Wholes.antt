-- A seat with all names that there are has made all calls.
use Rattle.std.proofs.Common.{◌≡◌, ◌⊎◌, ℕ, ◌+◌, ◌-◌, ◌<◌, true, false, List, [], ◌∷◌, ◌++◌, length, Contains, slice_index, refl, sym, ap, subst, ◌∙◌, arith, inl, inr, append-nil, append_assoc}
use Rattle.std.proofs.lemmas.Bool.{cases_lt, false≢true, or_left}
use mathlib.Core.Option.{some}
use lib.ListN.{get_elem?}
use Rattle.atomic_table.specs.Table.{State as Table, keeps, stepped}
use Rattle.holders.specs.declared.fixed.Fixed.{Fixed}
use Rattle.store_core.specs.declared.history.Event.{Event}
use Rattle.store_core.specs.declared.view.Named.{Named}
use Rattle.store_core.specs.declared.view.SeatView.{SeatView}
use Rattle.store_core.specs.Histories.{AreOfOthers, events_of, is_by}
use Rattle.store_core.specs.Names.{Name, has_name, share_name}
use Rattle.store_core.specs.Views.{Continues, mine}
use Rattle.store_core.proofs.Joining.{plain}
use Rattle.store_core.proofs.Lasting.{others_parts}
use Rattle.store_core.proofs.Tells.{same_name-refl}
use Rattle.store_steps.proofs.Lists.{others_split}
use Rattle.store_core.specs.Knowledge.{AreAllNames, LooksRound, Sees}
use Rattle.store_steps.specs.Rule.{HasView, HaveCallers, RuleHolds, IsLater}
use Rattle.store_steps.proofs.Storers.{gets}
use Rattle.store_core.proofs.Naming.{entry_of, first_entry, first_there, name_there}
use Rattle.store_steps.proofs.StepViews.{Steps, look_step}

-- a name is one of these, or one that a later split gives, or one that comes of it
abbrev pub Covers : List Named → Name → Type 0
Covers names name = (has_name (plain names) name ≡ true) ⊎ ((named : Named) × Contains names named × IsLater named name)

-- what comes of one of these is one of them or comes of a later split
covers_after : (names : List Named) → AreAllNames names → (rest first : Name) → has_name (plain names) first ≡ true → Covers names (first ++ rest)
covers_after names all [] first is = inl (subst (λ (n : Name). has_name (plain names) n ≡ true) (sym (append-nil first)) is)
covers_after names all (number ∷ rest) first is =
    let e = entry_of names first is in
    let longer : first ++ number ∷ rest ≡ (first ++ number ∷ []) ++ rest = sym (append_assoc first (number ∷ []) rest) in
    elim (cases_lt number e.0.splits) [
      | inl below ↦
          let next : has_name (plain names) (first ++ number ∷ []) ≡ true =
          subst (λ (n : Name). has_name (plain names) (n ++ number ∷ []) ≡ true) e.2 (all.split e.0 number e.1 below) in
          subst (λ (n : Name). Covers names n) (sym longer) (covers_after names all rest (first ++ number ∷ []) next)
      | inr above ↦
          let count : number ≡ e.0.splits + (number - e.0.splits) = omega (arith, above) in
          inr (
            e.0,
            e.1,
            record {
              number = number - e.0.splits;
              rest = rest;
              is = ap (λ (n : Name). n ++ number ∷ rest) (sym e.2) ∙ ap (λ (x : ℕ). e.0.name ++ x ∷ rest) count;
            },
          )
    ]

pub covers : (names : List Named) → AreAllNames names → (name : Name) → Covers names name
covers names all name = covers_after names all name [] all.first

-- a caller with a name has one of all names
by_first : (names : List Named) (who : List Name) → AreAllNames names → 0 < length who
    → ((named : Named) → Contains names named → (name : Name) → IsLater named name → share_name (name ∷ []) who ≡ false) → share_name (plain names) who ≡ true
by_first names [] all named never = absurd (omega (arith, named))
by_first names (name ∷ who) all named never = elim (covers names all name) [
  | inl ours ↦ or_left _ _ ours
  | inr later ↦
      let shares : share_name (name ∷ []) (name ∷ who) ≡ true = or_left _ _ (or_left _ _ (same_name-refl name)) in
      absurd (false≢true (sym (never later.0 later.1 name later.2) ∙ shares))
]

-- where each event has a caller, and no later name has called, all events are the seat's
pub all_own : (names : List Named) (events : List Event) → AreAllNames names → HaveCallers events
    → ((named : Named) → Contains names named → (name : Name) → IsLater named name → AreOfOthers (name ∷ []) events) → events_of (plain names) events ≡ events
all_own names [] all called never = refl
all_own names (e ∷ events) all called never =
    let ours : is_by (plain names) e ≡ true =
    by_first names e.who all called.0 (λ named among name later. (others_parts (name ∷ []) e events (never named among name later)).0) in
    rw ours (ap (λ (es : List Event). e ∷ es)
    (all_own names events all called.1 (λ named among name later. (others_parts (name ∷ []) e events (never named among name later)).1)))

callers_split : (first second : List Event) → HaveCallers (first ++ second) → HaveCallers first × HaveCallers second
callers_split [] second h = (tt, h)
callers_split (e ∷ first) second h = let more = callers_split first second h.1 in ((h.0, more.0), more.1)

module _ (fixed : Fixed) (s : Table Unit (List SeatView)) (k : RuleHolds fixed s) (seat part : ℕ) (view : SeatView) (here : HasView s.views seat part view) (all : AreAllNames view.names) where
  abbrev on : Continues view k.history
  on = (k.views seat part view here).continues

  -- what a view with all names has seen, and what was called since, are its calls
  both_own : (events_of (plain view.names) view.seen ≡ view.seen) × (events_of (plain view.names) on.between ≡ on.between)
  both_own =
      let callers = callers_split view.seen on.between (subst (λ (h : List Event). HaveCallers h) on.is k.names.callers) in
      let others : (named : Named) → Contains view.names named → (name : Name) → IsLater named name → AreOfOthers (name ∷ []) view.seen × AreOfOthers (name ∷ []) on.between =
      λ named among name later. others_split (name ∷ []) view.seen on.between (subst (λ (h : List Event). AreOfOthers (name ∷ []) h) on.is
      (k.names.new_to_calls named (record { seat = seat; part = part; view = view; has = here; among = among }) name later)) in (
        all_own view.names view.seen all callers.0 (λ named among name later. (others named among name later).0),
        all_own view.names on.between all callers.1 (λ named among name later. (others named among name later).1),
      )

  pub alone : mine view ≡ view.seen
  alone = both_own.0

  -- so that it has seen the whole history
  pub whole_history : k.history ≡ view.seen
  whole_history = on.is ∙ ap (λ (xs : List Event). view.seen ++ xs) (sym both_own.1 ∙ on.others) ∙ append-nil view.seen

  -- There is no other view.
  pub only_view : (i j : ℕ) (other : SeatView) → HasView s.views i j other → ◌≡◌ {A = ℕ × ℕ} (i, j) (seat, part)
  only_view i j other there =
      let f : Named = first_entry other.names in
      let among : Contains other.names f = first_there other.names (k.names.named i j other there) in
      let has : has_name (plain other.names) f.name ≡ true = name_there other.names f among in
      elim (covers view.names all f.name) [
        | inl ours ↦ sym (k.names.owned i j other there f.name has) ∙ k.names.owned seat part view here f.name ours
        | inr later ↦ absurd (k.names.new_to_views later.0 f (record { seat = seat; part = part; view = view; has = here; among = later.1 })
            (record { seat = i; part = j; view = other; has = there; among = among }) later.2)
      ]

-- the load of a seat with one view
pub round_steps : (fixed : Fixed) (s : Table Unit (List SeatView)) → RuleHolds fixed s → (id : ℕ) (view : SeatView) → get_elem? s.views id ≡ some (view ∷ [])
    → Steps fixed s id 0 (slice_index s.words 0) (λ new. LooksRound view new)
round_steps fixed s k id view at =
    let t = look_step fixed s k id view at (λ t. []) 0 (λ new. Sees view new) (record { legal = tt; quiet = refl; by = tt }) (λ new looked same. looked) in
    let later : Table Unit (List SeatView) = stepped s 0 (slice_index s.words 0) id [] (t.new ∷ []) keeps in
    let there : HasView later.views id 0 t.new = gets s.views id (view ∷ []) (t.new ∷ []) 0 t.new at refl in
    record {
      new = t.new;
      kept = t.kept;
      told = record {
        sees = t.told;
        alone = λ all.
            alone fixed later t.kept id 0 t.new there (subst (λ (names : List Named). AreAllNames names) (sym t.told.goes_on.names_are) all);
      };
    }

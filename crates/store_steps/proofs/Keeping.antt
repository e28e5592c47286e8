-- A step of a seat with one view keeps the rule.
use Rattle.std.proofs.Common.{◌≡◌, ◌≢◌, ◌⊎◌, ℕ, ◌/◌, ◌<◌, true, false, Option, Some, List, [], ◌∷◌, ◌++◌, length, Contains, set, refl, sym, ap, subst, ◌∙◌, arith, inl, inr, append_assoc}
use Rattle.std.proofs.lemmas.Bool.{false≢true, or_cases}
use mathlib.Core.Option.{some}
use lib.ListN.{get_elem?}
use Rattle.atomic_table.specs.Table.{State as Table, keeps, stepped}
use Rattle.holders.specs.declared.fixed.Fixed.{Fixed}
use Rattle.store_core.specs.declared.history.Event.{Event}
use Rattle.store_core.specs.declared.view.Named.{Named}
use Rattle.store_core.specs.declared.view.SeatView.{SeatView}
use Rattle.store_core.specs.Histories.{AreOfOthers, IsLegal, state_after}
use Rattle.store_core.specs.Names.{Name, has_name, same_name, share_name}
use Rattle.store_core.specs.Orders.{AreInOrder}
use Rattle.store_core.specs.States.{State, claims, empty, is_claimed}
use Rattle.store_core.specs.declared.view.Boundaries.{Boundaries}
use Rattle.store_core.specs.Views.{is_boundary, names_of}
use Rattle.store_core.proofs.Joining.{plain}
use Rattle.store_core.proofs.Lasting.{claims_from, legal-append, run-append}
use Rattle.store_core.proofs.Tells.{claims-claimed, claims_apart, same_name-true}
use Rattle.store_steps.specs.Layout.{cell_at, parent_at, parent_word_place}
use Rattle.store_steps.specs.Rule.{AreApart, AreParentsKept, ViewFits, FitsParents, HasView, HaveCallers, RuleHolds, IsLater, IsNamed, StandFor, StandForParents, StoresAt}
use Rattle.store_steps.proofs.ParentsStanding.{LeavesParents, fits_left, fits_same, parents_left}
use Rattle.store_steps.proofs.Storers.{at_other, gets, stores_on}
use Rattle.store_core.proofs.Naming.{apart_from, entry_of}
use Rattle.store_steps.proofs.Lists.{AreBy, one_part, others_by}
use Rattle.store_core.proofs.Going.{others-append}

-- what holds of a view at a place
pub placed : (P : ℕ → ℕ → SeatView → Type 0) (i j id part : ℕ) (v view : SeatView) → i ≡ id → j ≡ part → v ≡ view → P id part view → P i j v
placed P i j id part v view seat_is part_is view_is h = subst (λ (a : ℕ). P a j v) (sym seat_is) (subst (λ (b : ℕ). P id b v) (sym part_is) (subst (λ (u : SeatView). P id part u) (sym view_is) h))

-- what the rule asks of a view at a place, by who owns names, who is storing parents, and what is so of each entry
pub record Fits (fixed : Fixed) (history : List Event) (words : List ℕ) (owner : Name → ℕ × ℕ) (storer : ℕ → Option (ℕ × ℕ)) (Entry : Named → Type 0)
    (seat part : ℕ) (view : SeatView) : Type 0 where
  pub fits : ViewFits fixed history words view
  pub owned : (name : Name) → has_name (names_of view) name ≡ true → owner name ≡ (seat, part)
  pub named : 0 < length view.names
  pub ordered : AreInOrder (names_of view)
  pub entries : (named : Named) → Contains view.names named → Entry named
  pub parents : FitsParents fixed words storer seat part view

-- the rule holds where it does of each view
pub rule_by : (fixed : Fixed) (t : Table Unit (List SeatView)) (history : List Event) → IsLegal fixed history → StandFor fixed t.words (state_after history) → HaveCallers history
    → (owner : Name → ℕ × ℕ) (storer : ℕ → Option (ℕ × ℕ)) (Entry : Named → Type 0)
    → ((i j : ℕ) (v : SeatView) → HasView t.views i j v → Fits fixed history t.words owner storer Entry i j v)
    → ((one other : Named) → Entry one → Entry other → IsLater one other.name → ⊥)
    → ((named : Named) → Entry named → (name : Name) → IsLater named name → AreOfOthers (name ∷ []) history)
    → StandForParents fixed t.words (state_after history).parents storer → ((m i j : ℕ) → storer m ≡ Some (i, j) → StoresAt t.views i j m) → RuleHolds fixed t
rule_by fixed t history legal words callers owner storer Entry each new_to_views new_to_calls stand by = record {
  history = history;
  legal = legal;
  words = words;
  views = λ i j v h. (each i j v h).fits;
  names = record {
    owner = owner;
    owned = λ i j v h. (each i j v h).owned;
    named = λ i j v h. (each i j v h).named;
    ordered = λ i j v h. (each i j v h).ordered;
    new_to_views = λ one other a b. new_to_views one other ((each a.seat a.part a.view a.has).entries one a.among) ((each b.seat b.part b.view b.has).entries other b.among);
    new_to_calls = λ named k. new_to_calls named ((each k.seat k.part k.view k.has).entries named k.among);
    callers = callers;
  };
  parents = record { storer = storer; stand = stand; fit = λ i j v h. (each i j v h).parents; by = by };
}

-- events that have callers
callers-append : (first second : List Event) → HaveCallers first → HaveCallers second → HaveCallers (first ++ second)
callers-append [] second a b = b
callers-append (e ∷ first) second a b = (a.0, callers-append first second a.1 b)

some_plain : (names : List Named) → 0 < length names → 0 < length (plain names)
some_plain [] more = more
some_plain (named ∷ names) more = omega arith

-- calls by a caller with names
callers_by : (names : List Named) (own : List Event) → 0 < length names → AreBy (plain names) own → HaveCallers own
callers_by names [] more by = tt
callers_by names (e ∷ own) more by =
    (subst (λ (who : List Name). 0 < length who) (sym by.0) (some_plain names more), callers_by names own more by.1)

-- the only name of a set
pub single : (name other : Name) → has_name (name ∷ []) other ≡ true → other ≡ name
single name other h = elim (or_cases (same_name other name) false h) [ inl same ↦ same_name-true other name same | inr never ↦ absurd (false≢true never) ]

-- the names of a step's seat have called, and no name of a split has
new_names_by : (views : List (List SeatView)) (history : List Event) → AreApart views history → (seat part : ℕ) (view : SeatView) → HasView views seat part view
    → (own : List Event) → AreBy (names_of view) own → (named : Named) → IsNamed views named → (name : Name) → IsLater named name → AreOfOthers (name ∷ []) own
new_names_by views history apart seat part view has own by named is name later =
    others_by (name ∷ []) (names_of view) own (apart_from (name ∷ []) (names_of view) (λ other one ours.
    let e = entry_of view.names other ours in
    let same : name ≡ e.0.name = sym (single name other one) ∙ sym e.2 in
    apart.new_to_views named e.0 is (record { seat = seat; part = part; view = view; has = has; among = e.1 })
    (subst (λ (n : Name). IsLater named n) same later))) by

-- a view goes on to fit where others call and its chunks' cells are left
fits_on : (fixed : Fixed) (history own : List Event) (words later : List ℕ) (view : SeatView) → IsLegal fixed (history ++ own)
    → ViewFits fixed history words view → AreOfOthers (names_of view) own
    → ((number : ℕ) → claims (names_of view) (state_after history) (number / 129) ≡ true → cell_at fixed later number ≡ cell_at fixed words number)
    → ViewFits fixed (history ++ own) later view
fits_on fixed history own words later view legal fits others same = record {
  fixed_is = fits.fixed_is;
  continues = record {
    between = fits.continues.between ++ own;
    is = ap (λ (h : List Event). h ++ own) fits.continues.is ∙ append_assoc view.seen fits.continues.between own;
    others = others-append (names_of view) fits.continues.between own fits.continues.others others;
  };
  written = λ number value is.
      let w = fits.written number value is in (
        ap (λ (s : State). claims (names_of view) s (number / 129)) (run-append empty history own)
            ∙ claims_from fixed (state_after history) own (names_of view) (legal-append fixed empty history own legal).1 others (number / 129) ∙ w.0,
        same number w.0 ∙ w.1,
      );
}

module _ (fixed : Fixed) (s : Table Unit (List SeatView)) (k : RuleHolds fixed s) (id : ℕ) (view new : SeatView)
    (seat : get_elem? s.views id ≡ some (view ∷ [])) (same : new.names ≡ view.names) where
  -- the stepping seat's view
  abbrev pub its : HasView s.views id 0 view
  its = record { parts = view ∷ []; is_seat = seat; is_part = refl }

  -- a view after the step: the seat's, or another's as it was
  abbrev pub Found : ℕ → ℕ → SeatView → Type 0
  Found i j v = ((i ≡ id) × (j ≡ 0) × (v ≡ new)) ⊎ ((i ≢ id) × HasView s.views i j v)

  pub found : (i j : ℕ) (v : SeatView) → HasView (set s.views id (new ∷ [])) i j v → Found i j v
  found i j v h = elim (at_other s.views id (new ∷ []) i j v h) [
    | inl here ↦ let one = one_part new v j here.1 in inl (here.0, one.0, one.1)
    | inr other ↦ inr other
  ]

  -- another seat's names are none of this one's
  strangers : (i j : ℕ) (v : SeatView) → i ≢ id → HasView s.views i j v → (name : Name) → has_name (names_of v) name ≡ true → has_name (names_of view) name ≡ true → ⊥
  strangers i j v other h name their our =
      let place : (i, j) ≡ (id, 0) = sym (k.names.owned i j v h name their) ∙ k.names.owned id 0 view its name our in
      other (ap (λ (p : ℕ × ℕ). p.0) place)

  others_fit : (own : List Event) (later : List ℕ) → AreBy (names_of view) own → IsLegal fixed (k.history ++ own)
      → ((number : ℕ) → is_claimed (state_after k.history) (number / 129) ≡ true → claims (names_of view) (state_after k.history) (number / 129) ≡ false
      → cell_at fixed later number ≡ cell_at fixed s.words number)
      → (i j : ℕ) (v : SeatView) → i ≢ id → HasView s.views i j v → ViewFits fixed (k.history ++ own) later v
  others_fit own later by legal cells i j v other h =
      let apart : share_name (names_of v) (names_of view) ≡ false = apart_from (names_of v) (names_of view) (strangers i j v other h) in
      let turned : share_name (names_of view) (names_of v) ≡ false = apart_from (names_of view) (names_of v) (λ name our their. strangers i j v other h name their our) in
      fits_on fixed k.history own s.words later v legal (k.views i j v h) (others_by (names_of v) (names_of view) own apart by) (λ number c.
      cells number (claims-claimed (names_of v) (state_after k.history) (number / 129) c)
      (claims_apart (state_after k.history) (names_of view) (names_of v) (number / 129) turned c))

  -- Which parents are kept after the step, by these storers: the seat's view fits, and what others are storing they still
  -- are, with its words.
  pub parents_then : (later : List ℕ) (parents : ℕ → Option (List ℕ)) (storer : ℕ → Option (ℕ × ℕ)) → StandForParents fixed later parents storer
      → FitsParents fixed later storer id 0 new → ((m i j : ℕ) → i ≢ id → k.parents.storer m ≡ Some (i, j) → storer m ≡ Some (i, j))
      → ((number i j : ℕ) → i ≢ id → k.parents.storer (number / 8) ≡ Some (i, j) → parent_at fixed later number ≡ parent_at fixed s.words number)
      → ((m i j : ℕ) → storer m ≡ Some (i, j) → StoresAt (set s.views id (new ∷ [])) i j m) → AreParentsKept fixed later (set s.views id (new ∷ [])) parents
  parents_then later parents storer stand ours owned cells by = record {
    storer = storer;
    stand = stand;
    fit = λ i j v h. elim (found i j v h) [
      | inl here ↦ placed (FitsParents fixed later storer) i j id 0 v new here.0 here.1 here.2 ours
      | inr other ↦
          let f = k.parents.fit i j v other.1 in
          record {
            low = f.low;
            owned = λ m is. owned m i j other.0 (f.owned m is);
            written = λ number value is. let w = f.written number value is in (w.0, cells number i j other.0 (f.owned (number / 8) w.0) ∙ w.1);
          }
    ];
    by = by;
  }

  -- Where the words of parents are left, and the parents held are the same, those that are held or being
  -- stored are kept, since the seat is storing the same.
  pub parents_kept : (later : List ℕ) → LeavesParents fixed s.words later → (parents : ℕ → Option (List ℕ)) → parents ≡ (state_after k.history).parents
      → new.storing ≡ view.storing → new.parent_words ≡ view.parent_words → AreParentsKept fixed later (set s.views id (new ∷ [])) parents
  parents_kept later leaves parents same_parents same_storing same_words = parents_then later parents k.parents.storer
      (subst (λ (p : ℕ → Option (List ℕ)). StandForParents fixed later p k.parents.storer) (sym same_parents)
      (parents_left fixed s.words later (state_after k.history).parents k.parents.storer leaves k.parents.stand))
      (fits_same fixed later k.parents.storer id 0 view new same_storing same_words
      (fits_left fixed s.words later k.parents.storer id 0 view leaves (k.parents.fit id 0 view its)))
      (λ m i j other is. is) (λ number i j other is. leaves (parent_word_place fixed number) (omega arith))
      (λ m i j is. stores_on s.views id view new seat m (λ h. ap (λ (bs : List Boundaries). is_boundary bs m) same_storing ∙ h) i j (k.parents.by m i j is))

  -- The rule after a step of the seat's that makes word i the number n, with its own events and its new view.
  pub kept_step : (own : List Event) (i n : ℕ) → AreBy (names_of view) own → IsLegal fixed (k.history ++ own)
      → StandFor fixed (set s.words i n) (state_after (k.history ++ own)) → ViewFits fixed (k.history ++ own) (set s.words i n) new
      → ((number : ℕ) → is_claimed (state_after k.history) (number / 129) ≡ true → claims (names_of view) (state_after k.history) (number / 129) ≡ false
      → cell_at fixed (set s.words i n) number ≡ cell_at fixed s.words number)
      → AreParentsKept fixed (set s.words i n) (set s.views id (new ∷ [])) (state_after (k.history ++ own)).parents
      → RuleHolds fixed (stepped s i n id [] (new ∷ []) keeps)
  kept_step own i n by legal words fits cells parents =
      let Now : ℕ → ℕ → SeatView → Type 0 = Fits fixed (k.history ++ own) (set s.words i n) k.names.owner parents.storer (IsNamed s.views) in
      rule_by fixed (stepped s i n id [] (new ∷ []) keeps) (k.history ++ own) legal words
      (callers-append k.history own k.names.callers (callers_by view.names own (k.names.named id 0 view its) by)) k.names.owner parents.storer (IsNamed s.views)
      (λ a b v h. elim (found a b v h) [
        | inl here ↦ placed Now a b id 0 v new here.0 here.1 here.2 (record {
          fits = fits;
          owned = λ name ours. k.names.owned id 0 view its name (subst (λ (ns : List Named). has_name (plain ns) name ≡ true) same ours);
          named = subst (λ (ns : List Named). 0 < length ns) (sym same) (k.names.named id 0 view its);
          ordered = subst (λ (ns : List Named). AreInOrder (plain ns)) (sym same) (k.names.ordered id 0 view its);
          entries = λ named among. record { seat = id; part = 0; view = view; has = its; among = subst (λ (ns : List Named). Contains ns named) same among };
          parents = parents.fit id 0 new (gets s.views id (view ∷ []) (new ∷ []) 0 new seat refl);
        })
        | inr other ↦ record {
          fits = others_fit own (set s.words i n) by legal cells a b v other.0 other.1;
          owned = k.names.owned a b v other.1;
          named = k.names.named a b v other.1;
          ordered = k.names.ordered a b v other.1;
          entries = λ named among. record { seat = a; part = b; view = v; has = other.1; among = among };
          parents = parents.fit a b v h;
        }
      ])
      k.names.new_to_views
      (λ named is name l.
      others-append (name ∷ []) k.history own (k.names.new_to_calls named is name l) (new_names_by s.views k.history k.names id 0 view its own by named is name l))
      parents.stand parents.by

-- A seat with two views loads a word: they merge to one, or both see all that happened.
use Rattle.std.proofs.lemmas.Bool.Decides.{nat_tests}
use Rattle.std.proofs.Common.{◌≢◌, ◌≡◌, ◌⊎◌, ℕ, ◌/◌, ◌<◌, ◌==◌, true, false, ◌||◌, if◌then◌else◌, List, [], ◌∷◌, ◌++◌, set, slice_index, Option, None, Some, refl, sym, ap, subst, ◌∙◌, arith, inl, inr}
use Rattle.std.proofs.lemmas.Bool.{cases_Bool, cases_eq, false_from_ne_true, or_cases, or_left, or_right}
use Rattle.std.proofs.lemmas.List.{append-nil, set-get_or}
use Rattle.std.specs.Option.{option_map}
use mathlib.Core.Option.{some}
use lib.ListN.{get_elem?}
use Rattle.atomic_table.specs.declared.shared.Seat.{Seat}
use Rattle.atomic_table.specs.Table.{Allows, State as Table, keeps, stepped}
use Rattle.holders.specs.declared.fixed.Fixed.{Fixed}
use Rattle.store_core.specs.declared.view.SeatView.{SeatView}
use Rattle.store_core.specs.declared.view.StoredWord.{StoredWord}
use Rattle.store_core.specs.Histories.{IsLegal, state_after}
use Rattle.store_core.specs.Names.{Name, has_name, share_name}
use Rattle.store_core.specs.States.{claims, is_among}
use Rattle.store_core.specs.declared.view.Boundaries.{Boundaries}
use Rattle.store_core.specs.Views.{is_boundary, is_storing, merge_names, names_of, stored}
use Rattle.store_core.proofs.Joining.{merge-has}
use Rattle.store_core.proofs.Ordering.{merge_order}
use Rattle.store_steps.specs.declared.words.Words.{Words}
use Rattle.store_steps.specs.Grips.{first_of}
use Rattle.store_steps.specs.Plays.{MeetsSeat, Merges, OfTwo, later_views}
use Rattle.store_steps.specs.Rule.{ViewFits, FitsParents, HasView, RuleHolds, StoresAt}
use Rattle.store_steps.proofs.Keeping.{placed}
use Rattle.store_core.proofs.Naming.{apart_from, merge-cases, merge-some}
use Rattle.store_steps.proofs.Lists.{one_part}
use Rattle.store_steps.proofs.Regrouping.{FitsTo, fits_to, other_place, same_place, two_parts, rekept_to}
use Rattle.store_steps.proofs.ParentsStanding.{fits_same}
use Rattle.store_steps.proofs.Storers.{at_other, gets, had, stays}

-- what a load by a seat with two views comes to
pub record Turns (fixed : Fixed) (s : Table Unit (List SeatView)) (id : ℕ) (Told : List SeatView → Type 0) : Type 0 where
  pub later : List SeatView
  pub kept : RuleHolds fixed (stepped s 0 (slice_index s.words 0) id [] later keeps)
  pub told : Told later

-- that is what the table asks of it
pub turn_asks : (words : Words) (seat : Seat (Unit {0}) (List SeatView)) → seat.table_id ≡ words.table.shared.table_id → (one two : SeatView) → seat.me.0 ≡ one ∷ two ∷ []
    → (Told : SeatView → SeatView → List SeatView → Type 0)
    → ((s : Table Unit (List SeatView)) → RuleHolds words.fixed s → get_elem? s.views seat.id ≡ some (one ∷ two ∷ []) → Turns words.fixed s seat.id (λ later. Told one two later))
    → (seat.table_id ≡ words.table.shared.table_id) × (0 < words.table.shared.table_id.words)
    × Allows (RuleHolds words.table.shared.key) words.table.shared.table_id.slots seat.id seat.me 0 (λ n. n) (λ n later. OfTwo Told seat.me later)
turn_asks words seat table_is one two is Told turns = (
  table_is,
  omega (arith, words.count),
  subst (λ (k : Fixed). Allows (RuleHolds k) words.table.shared.table_id.slots seat.id seat.me 0 (λ n. n) (λ n later. OfTwo Told seat.me later)) (sym words.key_is) (λ s kept homes at small.
      let t = turns s kept (at ∙ ap (λ (vs : List SeatView). some vs) is) in (
        t.later,
        keeps,
        tt,
        t.kept,
        λ first second e.
            let same : one ∷ two ∷ [] ≡ first ∷ second ∷ [] = sym is ∙ e in (
              subst (λ (vs : List SeatView). Told (first_of vs) (first_of (later_views vs)) t.later) same t.told,
              refl,
            ),
      )),
)

-- a boundary of one of two
is_boundary-append : (first second : List Boundaries) (m : ℕ) → is_boundary (first ++ second) m ≡ (is_boundary first m || is_boundary second m)
is_boundary-append [] second m = refl
is_boundary-append (b ∷ first) second m = let rest = is_boundary-append first second m in grind (arith, nat_tests)

-- a word stored by the first of two, or by the second where the first stored none
pub stored-append : (first second : List StoredWord) (number : ℕ) → ((stored first number ≡ None) × (stored (first ++ second) number ≡ stored second number))
    ⊎ ((value : ℕ) × (stored first number ≡ Some value) × (stored (first ++ second) number ≡ Some value))
stored-append [] second number = inl (refl, refl)
stored-append (w ∷ first) second number = elim (cases_Bool (w.number == number)) [
  | inl here ↦ inr (w.value, rw here refl, rw here refl)
  | inr other ↦ elim (stored-append first second number) [ inl none ↦ inl (rw other none.0, rw other none.1) | inr there ↦ inr (there.0, rw other there.1, rw other there.2) ]
]

stored_by : (first second : List StoredWord) (number value : ℕ) → stored (first ++ second) number ≡ Some value → (stored first number ≡ Some value) ⊎ (stored second number ≡ Some value)
stored_by first second number value h = elim (stored-append first second number) [ inl none ↦ inr (sym none.1 ∙ h) | inr there ↦ inl (there.1 ∙ sym there.2 ∙ h) ]

among_more : (ours all : List Name) → ((name : Name) → has_name ours name ≡ true → has_name all name ≡ true) → (o : Option Name)
    → is_among ours o ≡ true → is_among all o ≡ true
among_more ours all more None h = h
among_more ours all more (Some name) h = more name h

module _ (fixed : Fixed) (s : Table Unit (List SeatView)) (k : RuleHolds fixed s) (id : ℕ) (one two : SeatView) (at : get_elem? s.views id ≡ some (one ∷ two ∷ [])) where
  abbrev pub part_one : HasView s.views id 0 one
  part_one = record { parts = one ∷ two ∷ []; is_seat = at; is_part = refl }

  abbrev pub part_two : HasView s.views id 1 two
  part_two = record { parts = one ∷ two ∷ []; is_seat = at; is_part = refl }

  abbrev fits_one : ViewFits fixed k.history s.words one
  fits_one = k.views id 0 one part_one

  abbrev fits_two : ViewFits fixed k.history s.words two
  fits_two = k.views id 1 two part_two

  -- no name is of both
  never_both : (name : Name) → has_name (names_of one) name ≡ true → has_name (names_of two) name ≡ true → ⊥
  never_both name a b =
      let place : (id, 0) ≡ (id, 1) = sym (k.names.owned id 0 one part_one name a) ∙ k.names.owned id 1 two part_two name b in
      let never : 0 ≡ 1 = ap (λ (p : ℕ × ℕ). p.1) place in
      omega (arith, never)

  pub apart : share_name (names_of one) (names_of two) ≡ false
  apart = apart_from (names_of one) (names_of two) never_both

  abbrev word : ℕ
  word = slice_index s.words 0

  left : set s.words 0 word ≡ s.words
  left = set-get_or s.words 0 0

  -- who was storing a parent is where it was, or where the seat's view went
  stores_to : (parts : List SeatView) (to : ℕ × ℕ → ℕ × ℕ) → ((p : ℕ × ℕ) → p.0 ≢ id → to p ≡ p)
      → ((j : ℕ) (v : SeatView) → get_elem? (one ∷ two ∷ []) j ≡ some v → (m : ℕ) → is_storing v m ≡ true → StoresAt (set s.views id parts) (to (id, j)).0 (to (id, j)).1 m)
      → (m : ℕ) (p : ℕ × ℕ) → StoresAt s.views p.0 p.1 m → StoresAt (set s.views id parts) (to p).0 (to p).1 m
  stores_to parts to others goes m p old = elim (cases_eq p.0 id) [
    | inl here ↦
        subst (λ (n : ℕ). StoresAt (set s.views id parts) (to (n, p.1)).0 (to (n, p.1)).1 m) (sym here)
        (goes p.1 old.view (had s.views id (one ∷ two ∷ []) p.0 p.1 old.view at here old.has) m old.storing)
    | inr other ↦
        subst (λ (q : ℕ × ℕ). StoresAt (set s.views id parts) q.0 q.1 m) (sym (others p other))
        (record { view = old.view; has = stays s.views id parts p.0 p.1 old.view other old.has; storing = old.storing })
  ]

  -- The views merge.
  abbrev merged : SeatView
  merged = record { fixed = one.fixed; names = merge_names one.names two.names; seen = k.history; written = one.written ++ two.written; storing = one.storing ++ two.storing; parent_words = one.parent_words ++ two.parent_words }

  merged_has : (name : Name) → has_name (names_of merged) name ≡ (has_name (names_of one) name || has_name (names_of two) name)
  merged_has name = merge-has one.names two.names name

  claims_one : (c : ℕ) → claims (names_of one) (state_after k.history) c ≡ true → claims (names_of merged) (state_after k.history) c ≡ true
  claims_one c = among_more (names_of one) (names_of merged) (λ name h. merged_has name ∙ or_left _ _ h) ((state_after k.history).claim c)

  claims_two : (c : ℕ) → claims (names_of two) (state_after k.history) c ≡ true → claims (names_of merged) (state_after k.history) c ≡ true
  claims_two c = among_more (names_of two) (names_of merged) (λ name h. merged_has name ∙ or_right _ _ h) ((state_after k.history).claim c)

  merged_fits : ViewFits fixed k.history s.words merged
  merged_fits = record {
    fixed_is = fits_one.fixed_is;
    continues = record { between = []; is = sym (append-nil k.history); others = refl };
    written = λ number value is. elim (stored_by one.written two.written number value is) [
      | inl a ↦ let w = fits_one.written number value a in (claims_one (number / 129) w.0, w.1)
      | inr b ↦ let w = fits_two.written number value b in (claims_two (number / 129) w.0, w.1)
    ];
  }

  abbrev to : ℕ × ℕ → ℕ × ℕ
  to p = if p.0 == id then (id, 0) else p

  abbrev storer_then : ℕ → Option (ℕ × ℕ)
  storer_then m = option_map to (k.parents.storer m)

  parents_one : FitsParents fixed s.words k.parents.storer id 0 one
  parents_one = k.parents.fit id 0 one part_one

  parents_two : FitsParents fixed s.words k.parents.storer id 1 two
  parents_two = k.parents.fit id 1 two part_two

  owned_then : (m : ℕ) (place : ℕ × ℕ) → k.parents.storer m ≡ Some place → to place ≡ (id, 0) → storer_then m ≡ Some (id, 0)
  owned_then m place is to_is = ap (λ (o : Option (ℕ × ℕ)). option_map to o) is ∙ ap (λ (p : ℕ × ℕ). Some p) to_is

  merged_storing : (m : ℕ) → is_storing merged m ≡ true → (is_storing one m ≡ true) ⊎ (is_storing two m ≡ true)
  merged_storing m is = or_cases (is_storing one m) (is_storing two m) (sym (is_boundary-append one.storing two.storing m) ∙ is)

  merged_parents : FitsParents fixed s.words storer_then id 0 merged
  merged_parents = record {
    low = λ m is. elim (merged_storing m is) [ inl a ↦ parents_one.low m a | inr b ↦ parents_two.low m b ];
    owned = λ m is. elim (merged_storing m is) [
      | inl a ↦ owned_then m (id, 0) (parents_one.owned m a) (same_place id id (id, 0) (id, 0) refl)
      | inr b ↦ owned_then m (id, 1) (parents_two.owned m b) (same_place id id (id, 0) (id, 1) refl)
    ];
    written = λ number value is. elim (stored_by one.parent_words two.parent_words number value is) [
      | inl a ↦ let w = parents_one.written number value a in (is_boundary-append one.storing two.storing (number / 8) ∙ or_left _ _ w.0, w.1)
      | inr b ↦ let w = parents_two.written number value b in (is_boundary-append one.storing two.storing (number / 8) ∙ or_right _ _ w.0, w.1)
    ];
  }

  merged_rule : FitsTo fixed s k to id 0 merged
  merged_rule = record {
    fits = merged_fits;
    owned = λ name ours. elim (or_cases (has_name (names_of one) name) (has_name (names_of two) name) (sym (merged_has name) ∙ ours)) [
      | inl a ↦ ap (λ (p : ℕ × ℕ). to p) (k.names.owned id 0 one part_one name a) ∙ same_place id id (id, 0) (id, 0) refl
      | inr b ↦ ap (λ (p : ℕ × ℕ). to p) (k.names.owned id 1 two part_two name b) ∙ same_place id id (id, 0) (id, 1) refl
    ];
    named = merge-some one.names two.names (k.names.named id 1 two part_two);
    ordered = merge_order one.names two.names (k.names.ordered id 0 one part_one) (k.names.ordered id 1 two part_two) (λ name a. false_from_ne_true _ (λ b. never_both name a b));
    entries = λ named among. elim (merge-cases one.names two.names named among) [
      | inl a ↦ record { seat = id; part = 0; view = one; has = part_one; among = a }
      | inr b ↦ record { seat = id; part = 1; view = two; has = part_two; among = b }
    ];
    parents = merged_parents;
  }

  merge_rule : (i j : ℕ) (v : SeatView) → HasView (set s.views id (merged ∷ [])) i j v → FitsTo fixed s k to i j v
  merge_rule i j v h = elim (at_other s.views id (merged ∷ []) i j v h) [
    | inl here ↦ let only = one_part merged v j here.1 in placed (FitsTo fixed s k to) i j id 0 v merged here.0 only.0 only.1 merged_rule
    | inr other ↦ fits_to fixed s k to i j i j v (other_place i id (id, 0) (i, j) other.0) other.1
  ]

  pub merge_turns : Turns fixed s id (λ later. Merges one two later)
  merge_turns = record {
    later = merged ∷ [];
    kept = rekept_to fixed s k (stepped s 0 word id [] (merged ∷ []) keeps) left to merge_rule (stores_to (merged ∷ []) to (λ p other. other_place p.0 id (id, 0) p other) (λ j v there m is.
        subst (λ (q : ℕ × ℕ). StoresAt (set s.views id (merged ∷ [])) q.0 q.1 m) (sym (same_place id id (id, 0) (id, j) refl)) (record {
          view = merged;
          has = gets s.views id (one ∷ two ∷ []) (merged ∷ []) 0 merged at refl;
          storing = is_boundary-append one.storing two.storing m ∙ elim (two_parts one two v j there) [
            | inl first ↦ or_left _ _ (ap (λ (u : SeatView). is_storing u m) (sym first.1) ∙ is)
            | inr second ↦ or_right _ _ (ap (λ (u : SeatView). is_storing u m) (sym second.1) ∙ is)
          ];
        })));
    told = record {
      view = merged;
      is = refl;
      merged = record {
        apart = apart;
        joined = record {
          fixed_first = refl;
          fixed_second = fits_one.fixed_is ∙ sym fits_two.fixed_is;
          names_are = refl;
          after_first = fits_one.continues;
          after_second = fits_two.continues;
          written_are = refl;
          storing_are = refl;
          parent_words_are = refl;
        };
        legal = subst (λ (f : Fixed). IsLegal f k.history) (sym fits_one.fixed_is) k.legal;
      };
    };
  }

  -- Both see all that happened.
  abbrev met_one : SeatView
  met_one = record one { seen = k.history }

  abbrev met_two : SeatView
  met_two = record two { seen = k.history }

  abbrev Stays : ℕ → ℕ → SeatView → Type 0
  Stays = FitsTo fixed s k (λ p. p)

  -- a view that has seen the history fits as it did
  met_rule : (j : ℕ) (view : SeatView) → HasView s.views id j view → Stays id j (record view { seen = k.history })
  met_rule j view h =
      let f : Stays id j view = fits_to fixed s k (λ p. p) id j id j view refl h in
      record {
        fits = record { fixed_is = f.fits.fixed_is; continues = record { between = []; is = sym (append-nil k.history); others = refl }; written = f.fits.written };
        owned = f.owned;
        named = f.named;
        ordered = f.ordered;
        entries = f.entries;
        parents = fits_same fixed s.words (λ m. option_map (λ p. p) (k.parents.storer m)) id j view (record view { seen = k.history }) refl refl f.parents;
      }

  meet_rule : (i j : ℕ) (v : SeatView) → HasView (set s.views id (met_one ∷ met_two ∷ [])) i j v → Stays i j v
  meet_rule i j v h = elim (at_other s.views id (met_one ∷ met_two ∷ []) i j v h) [
    | inl here ↦ elim (two_parts met_one met_two v j here.1) [
      | inl first ↦ placed Stays i j id 0 v met_one here.0 first.0 first.1 (met_rule 0 one part_one)
      | inr second ↦ placed Stays i j id 1 v met_two here.0 second.0 second.1 (met_rule 1 two part_two)
    ]
    | inr other ↦ fits_to fixed s k (λ p. p) i j i j v refl other.1
  ]

  pub meet_turns : Turns fixed s id (λ later. MeetsSeat one two later)
  meet_turns = record {
    later = met_one ∷ met_two ∷ [];
    kept = rekept_to fixed s k (stepped s 0 word id [] (met_one ∷ met_two ∷ []) keeps) left (λ p. p) meet_rule (stores_to (met_one ∷ met_two ∷ []) (λ p. p) (λ p other. refl) (λ j v there m is.
        let met : (part : ℕ) (new : SeatView) → j ≡ part → get_elem? (met_one ∷ met_two ∷ []) part ≡ some new → is_storing new m ≡ is_storing v m
        → StoresAt (set s.views id (met_one ∷ met_two ∷ [])) id j m =
        λ part new place has storing. subst (λ (n : ℕ). StoresAt (set s.views id (met_one ∷ met_two ∷ [])) id n m) (sym place)
        (record { view = new; has = gets s.views id (one ∷ two ∷ []) (met_one ∷ met_two ∷ []) part new at has; storing = storing ∙ is }) in
        elim (two_parts one two v j there) [
          | inl first ↦ met 0 met_one first.0 refl (ap (λ (u : SeatView). is_storing u m) (sym first.1))
          | inr second ↦ met 1 met_two second.0 refl (ap (λ (u : SeatView). is_storing u m) (sym second.1))
        ]));
    told = record {
      new_first = met_one;
      new_second = met_two;
      is = refl;
      met = record {
        history = k.history;
        first_is = refl;
        second_is = refl;
        after_first = fits_one.continues;
        after_second = fits_two.continues;
        legal = subst (λ (f : Fixed). IsLegal f k.history) (sym fits_one.fixed_is) k.legal;
        apart = apart;
      };
    };
  }

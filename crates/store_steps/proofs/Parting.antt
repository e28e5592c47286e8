-- A seat with one view parts: its first name splits, and a new seat gets the name that comes of it.
use Rattle.std.proofs.Common.{slice_index, ◌≡◌, ◌≢◌, ℕ, ◌+◌, ◌<◌, true, false, if◌then◌else◌, List, [], ◌∷◌, ◌++◌, length, set, Contains, refl, sym, ap, subst, ◌∙◌, arith, inl, inr, length-append, ◌/◌, append_assoc}
use Rattle.std.proofs.lemmas.Bool.{false_from_ne_true}
use mathlib.Core.Option.{some}
use lib.ListN.{get_elem?}
use Rattle.atomic_table.specs.Table.{Splits, State as Table}
use Rattle.bao_check.proofs.Lists.{Contains-cons_cases}
use Rattle.holders.specs.declared.fixed.Fixed.{Fixed}
use Rattle.store_core.specs.declared.history.Event.{Event}
use Rattle.store_core.specs.declared.view.Named.{Named}
use Rattle.store_core.specs.declared.view.SeatView.{SeatView}
use Rattle.store_core.specs.Histories.{AreOfOthers, state_after}
use Rattle.store_core.specs.Names.{Name, has_name, same_name}
use Rattle.store_core.specs.Orders.{AreInOrder}
use Rattle.store_core.specs.States.{claims, empty}
use Rattle.store_core.specs.Views.{names_of, split_first, split_second}
use Rattle.store_core.proofs.Joining.{plain, split_keeps}
use Rattle.store_core.proofs.Lasting.{claims_from}
use Rattle.store_core.proofs.Ordering.{split_keeps_order}
use Rattle.store_core.proofs.Tells.{same_name-true, same_name-refl}
use Rattle.store_steps.specs.Layout.{cell_at}
use Rattle.store_core.specs.Knowledge.{ArePartsOf}
use Rattle.store_steps.specs.Rule.{ViewFits, HasView, RuleHolds, IsLater, IsNamed}
use Rattle.store_steps.specs.declared.words.Words.{Words}
use Rattle.store_steps.specs.Grips.{first_of}
use Rattle.store_steps.specs.Plays.{PartsInTwo}
use Rattle.store_steps.proofs.StepViews.{Steps, seen_legal, still_step}
use Rattle.store_steps.proofs.Keeping.{Fits, its, placed, single}
use Rattle.store_core.proofs.Naming.{child, entry_of, first_entry, first_there, later_cases, name_there, new_names-are, raise-length, raised, raised_cases, same_rest}
use Rattle.store_steps.proofs.Lists.{one_part, others_split}
use Rattle.store_steps.proofs.ParentsStanding.{fits_same, fits_none}
use Rattle.store_steps.proofs.Regrouping.{at_end, rekept}
use Rattle.store_steps.proofs.Storers.{at_other, stores_on, longer}

-- what comes of an entry's next count, or of its next child, comes of it
later_raised : (named : Named) (name : Name) → IsLater (raised named) name → IsLater named name
later_raised named name k =
    let number : named.splits + 1 + k.number ≡ named.splits + (k.number + 1) = omega arith in
    record { number = k.number + 1; rest = k.rest; is = k.is ∙ ap (λ (n : ℕ). named.name ++ n ∷ k.rest) number }

later_child : (named : Named) (name : Name) → IsLater (child named) name → IsLater named name
later_child named name k =
    let number : named.splits ≡ named.splits + 0 = omega arith in
    record {
      number = 0;
      rest = (0 + k.number) ∷ k.rest;
      is = k.is ∙ append_assoc named.name (named.splits ∷ []) ((0 + k.number) ∷ k.rest)
          ∙ ap (λ (n : ℕ). named.name ++ n ∷ (0 + k.number) ∷ k.rest) number;
    }

child_later : (named : Named) → IsLater named (child named).name
child_later named =
    let number : named.splits ≡ named.splits + 0 = omega arith in
    record { number = 0; rest = []; is = ap (λ (n : ℕ). named.name ++ n ∷ []) number }

module _ (fixed : Fixed) (s : Table Unit (List SeatView)) (k : RuleHolds fixed s) (id : ℕ) (view : SeatView) (at : get_elem? s.views id ≡ some (view ∷ [])) where
  abbrev entry : Named
  entry = first_entry view.names

  abbrev here : HasView s.views id 0 view
  here = its fixed s k id view view at refl

  some_names : 0 < length view.names
  some_names = k.names.named id 0 view here

  there : IsNamed s.views entry
  there = record { seat = id; part = 0; view = view; has = here; among = first_there view.names some_names }

  -- the new seat's only name
  new_name : names_of (split_second view) ≡ (child entry).name ∷ []
  new_name = ap (λ (ns : List Named). plain ns) (new_names-are view.names some_names)

  no_call : AreOfOthers ((child entry).name ∷ []) k.history
  no_call = k.names.new_to_calls entry there (child entry).name (child_later entry)

  abbrev fits : ViewFits fixed k.history s.words view
  fits = k.views id 0 view here

  -- nobody has called by that name, neither in what was seen nor since
  both_none : AreOfOthers (names_of (split_second view)) view.seen × AreOfOthers (names_of (split_second view)) fits.continues.between
  both_none = subst (λ (ns : List Name). AreOfOthers ns view.seen × AreOfOthers ns fits.continues.between) (sym new_name)
      (others_split ((child entry).name ∷ []) view.seen fits.continues.between (subst (λ (h : List Event). AreOfOthers ((child entry).name ∷ []) h) fits.continues.is no_call))

  both_ordered : AreInOrder (names_of (split_first view)) × AreInOrder (names_of (split_second view))
  both_ordered = split_keeps_order view (k.names.ordered id 0 view here)

  pub parts_told : ArePartsOf view (split_first view) (split_second view)
  parts_told = record {
    first_is = refl;
    second_is = refl;
    no_calls = both_none.0;
    no_claims = λ c. claims_from fixed empty view.seen (names_of (split_second view)) (seen_legal fixed s k id view at) both_none.0 c;
  }

  -- the views afterwards
  abbrev first_views : List (List SeatView)
  first_views = set s.views id (split_first view ∷ [])

  abbrev later : List (List SeatView)
  later = first_views ++ (split_second view ∷ []) ∷ []

  -- an entry afterwards is the one that split, the new one, or another
  data Entry : Named → Type 0 where
    is_raised : (one : Named) → one ≡ raised entry → Entry one
    is_child : (one : Named) → one ≡ child entry → Entry one
    is_old : (one : Named) → IsNamed s.views one → (one.name ≡ entry.name → ⊥) → Entry one

  -- what comes of an entry came of one before
  pub record Older (one : Named) : Type 0 where
    pub old : Named
    pub is : IsNamed s.views old
    pub later_too : (name : Name) → IsLater one name → IsLater old name

  older : (one : Named) → Entry one → Older one
  older one (is_raised _ e) = record { old = entry; is = there; later_too = λ name l. later_raised entry name (subst (λ (n : Named). IsLater n name) e l) }
  older one (is_child _ e) = record { old = entry; is = there; later_too = λ name l. later_child entry name (subst (λ (n : Named). IsLater n name) e l) }
  older one (is_old _ h differ) = record { old = one; is = h; later_too = λ name l. l }

  -- the new name doesn't come of an entry afterwards
  child_new : (one : Named) → Entry one → IsLater one (child entry).name → ⊥
  child_new one (is_raised _ e) l =
      let l' : IsLater (raised entry) (child entry).name = subst (λ (n : Named). IsLater n (child entry).name) e l in
      let same : entry.splits ≡ entry.splits + 1 + l'.number = same_rest entry.name entry.splits (entry.splits + 1 + l'.number) [] l'.rest l'.is in
      omega (arith, same)
  child_new one (is_child _ e) l =
      let l' : IsLater (child entry) (child entry).name = subst (λ (n : Named). IsLater n (child entry).name) e l in
      let size : length (child entry).name ≡ length ((child entry).name ++ (0 + l'.number) ∷ l'.rest) = ap (λ (n : Name). length n) l'.is in
      omega (arith, size, length-append (child entry).name ((0 + l'.number) ∷ l'.rest))
  child_new one (is_old _ h differ) l =
      elim (later_cases one.name entry.name (one.splits + l.number) entry.splits l.rest (sym l.is)) [
        | inl same ↦ differ same.0
        | inr more ↦ k.names.new_to_views one entry h there (record { number = l.number; rest = more.0; is = more.1 })
      ]

  never_later : (one other : Named) → Entry one → Entry other → IsLater one other.name → ⊥
  never_later one other a (is_raised _ e) l =
      let o = older one a in
      k.names.new_to_views o.old entry o.is there (o.later_too entry.name (subst (λ (n : Named). IsLater one n.name) e l))
  never_later one other a (is_child _ e) l = child_new one a (subst (λ (n : Named). IsLater one n.name) e l)
  never_later one other a (is_old _ h differ) l = let o = older one a in k.names.new_to_views o.old other o.is h (o.later_too other.name l)

  -- no seat had the new name
  not_new : (i j : ℕ) (v : SeatView) → HasView s.views i j v → (name : Name) → has_name (names_of v) name ≡ true → same_name name (child entry).name ≡ false
  not_new i j v h name ours = false_from_ne_true _ (λ same.
      let e = entry_of v.names name ours in
      let name_is : (child entry).name ≡ e.0.name = sym (same_name-true name (child entry).name same) ∙ sym e.2 in
      k.names.new_to_views entry e.0 there (record { seat = i; part = j; view = v; has = h; among = e.1 })
      (subst (λ (n : Name). IsLater entry n) name_is (child_later entry)))

  abbrev owner : Name → ℕ × ℕ
  owner name = if same_name name (child entry).name then (length first_views, 0) else k.names.owner name

  abbrev Now : ℕ → ℕ → SeatView → Type 0
  Now = Fits fixed k.history s.words owner k.parents.storer Entry

  first_now : Now id 0 (split_first view)
  first_now = record {
    fits = record {
      fixed_is = fits.fixed_is;
      continues = record {
        between = fits.continues.between;
        is = fits.continues.is;
        others = subst (λ (ns : List Name). AreOfOthers ns fits.continues.between) (sym (split_keeps view)) fits.continues.others;
      };
      written = λ number value is.
          subst (λ (ns : List Name). (claims ns (state_after k.history) (number / 129) ≡ true) × (cell_at fixed s.words number ≡ value)) (sym (split_keeps view))
          (fits.written number value is);
    };
    owned = λ name ours.
        let mine : has_name (names_of view) name ≡ true = subst (λ (ns : List Name). has_name ns name ≡ true) (split_keeps view) ours in
        rw (not_new id 0 view here name mine) (k.names.owned id 0 view here name mine);
    named = omega (arith, some_names, raise-length view.names);
    ordered = both_ordered.0;
    entries = λ one among. elim (raised_cases view.names (k.names.ordered id 0 view here) one among) [
      | inl first ↦ is_raised one first
      | inr rest ↦ is_old one (record { seat = id; part = 0; view = view; has = here; among = rest.0 }) rest.1
    ];
    parents = fits_same fixed s.words k.parents.storer id 0 view (split_first view) refl refl (k.parents.fit id 0 view here);
  }

  second_now : Now (length first_views) 0 (split_second view)
  second_now = record {
    fits = record {
      fixed_is = fits.fixed_is;
      continues = record { between = fits.continues.between; is = fits.continues.is; others = both_none.1 };
      written = λ number value is. cc;
    };
    owned = λ name ours.
        let same : name ≡ (child entry).name = single (child entry).name name (subst (λ (ns : List Name). has_name ns name ≡ true) new_name ours) in
        let test : same_name name (child entry).name ≡ true = subst (λ (n : Name). same_name name n ≡ true) same (same_name-refl name) in
        rw test refl;
    named = subst (λ (ns : List Named). 0 < length ns) (sym (new_names-are view.names some_names)) (omega arith);
    ordered = both_ordered.1;
    entries = λ one among.
        let there : Contains (child entry ∷ []) one = subst (λ (ns : List Named). Contains ns one) (new_names-are view.names some_names) among in
        elim (Contains-cons_cases [] (child entry) one there) [ inl first ↦ is_child one first | inr never ↦ absurd (omega (arith, never.1)) ];
    parents = fits_none fixed s.words k.parents.storer (length first_views) 0 (split_second view) refl refl;
  }

  other_now : (i j : ℕ) (v : SeatView) → i ≢ id → HasView s.views i j v → Now i j v
  other_now i j v differ h = record {
    fits = k.views i j v h;
    owned = λ name ours. rw (not_new i j v h name ours) (k.names.owned i j v h name ours);
    named = k.names.named i j v h;
    ordered = k.names.ordered i j v h;
    entries = λ one among. is_old one (record { seat = i; part = j; view = v; has = h; among = among }) (λ same.
        let theirs = k.names.owned i j v h one.name (name_there v.names one among) in
        let ours = k.names.owned id 0 view here entry.name (name_there view.names entry (first_there view.names some_names)) in
        let place : (p : ℕ × ℕ) × (p ≡ (i, j)) × (p ≡ (id, 0)) = (k.names.owner entry.name, ap (λ (n : Name). k.names.owner n) (sym same) ∙ theirs, ours) in
        differ (ap (λ (p : ℕ × ℕ). p.0) (sym place.1 ∙ place.2)));
    parents = k.parents.fit i j v h;
  }

  now : (i j : ℕ) (v : SeatView) → HasView later i j v → Now i j v
  now i j v h = elim (at_end first_views (split_second view ∷ []) h.parts i h.is_seat) [
    | inl before ↦ elim (at_other s.views id (split_first view ∷ []) i j v (record { parts = h.parts; is_seat = before; is_part = h.is_part })) [
      | inl mine ↦ let only = one_part (split_first view) v j mine.1 in placed Now i j id 0 v (split_first view) mine.0 only.0 only.1 first_now
      | inr other ↦ other_now i j v other.0 other.1
    ]
    | inr last ↦
        let only = one_part (split_second view) v j (subst (λ (ps : List SeatView). get_elem? ps j ≡ some v) (sym last.1) h.is_part) in
        placed Now i j (length first_views) 0 v (split_second view) last.0 only.0 only.1 second_now
  ]

  pub parted_kept : RuleHolds fixed (record { words = s.words; homes = s.homes; views = set s.views id (split_first view ∷ []) ++ (split_second view ∷ []) ∷ [] })
  parted_kept = rekept fixed s k (record { words = s.words; homes = s.homes; views = later }) refl owner k.parents.storer Entry now never_later
      (λ one is name l. let o = older one is in k.names.new_to_calls o.old o.is name (o.later_too name l)) k.parents.stand
      (λ m i j is.
      let on = stores_on s.views id view (split_first view) at m (λ h. h) i j (k.parents.by m i j is) in
      record { view = on.view; has = longer first_views ((split_second view ∷ []) ∷ []) i j on.view on.has; storing = on.storing })

  -- the load before it
  pub part_steps : Steps fixed s id 0 (slice_index s.words 0) (λ new. PartsInTwo view new)
  part_steps = record { new = view; kept = still_step fixed s k id view at 0; told = record { same = refl; parts = parts_told } }

-- that is what the table asks where a seat's only view parts
pub part_asks : (words : Words) (id : ℕ) (views : List SeatView) → views ≡ first_of views ∷ []
    → Splits (RuleHolds words.table.shared.key) id views (split_first (first_of views) ∷ []) (split_second (first_of views) ∷ [])
part_asks words id views one =
    subst (λ (f : Fixed). Splits (RuleHolds f) id views (split_first (first_of views) ∷ []) (split_second (first_of views) ∷ [])) (sym words.key_is)
    (λ s k at. parted_kept words.fixed s k id (first_of views) (at ∙ ap (λ (vs : List SeatView). some vs) one))

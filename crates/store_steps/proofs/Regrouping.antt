-- Views that move from seat to seat: the words, the history and each view are as they were.
use Rattle.std.proofs.Common.{◌≡◌, ◌≢◌, ◌⊎◌, ℕ, zero, suc, ◌==◌, if◌then◌else◌, Bool, ◌||◌, Option, Some, is_some, List, [], ◌∷◌, ◌++◌, length, set, refl, sym, ap, subst, ◌∙◌, inl, inr, ne_eqb, eq-eqb, arith}
use Rattle.std.specs.Option.{option_map}
use Rattle.std.proofs.lemmas.Bool.{cases_eq}
use mathlib.Core.Option.{some, some-injective, some-ne-none}
use lib.ListN.{get_elem?}
use Rattle.atomic_table.specs.Table.{State as Table}
use Rattle.atomic_table.proofs.Lists.{at_last, set_else}
use Rattle.holders.specs.declared.fixed.Fixed.{Fixed}
use Rattle.store_core.specs.declared.view.Named.{Named}
use Rattle.store_core.specs.declared.view.SeatView.{SeatView}
use Rattle.store_core.specs.Histories.{AreOfOthers, state_after}
use Rattle.store_core.specs.Names.{Name}
use Rattle.store_steps.specs.Rule.{FitsParents, HasView, RuleHolds, IsLater, IsNamed, StandForParents, StoresAt}
use Rattle.atomic_table.specs.Table.{Enters, Joins, Splits}
use Rattle.store_steps.specs.declared.words.Words.{Words}
use Rattle.store_steps.specs.Grips.{first_of}
use Rattle.store_steps.specs.Plays.{later_views}
use Rattle.store_steps.proofs.Keeping.{Fits, rule_by, placed}
use Rattle.store_steps.proofs.Lists.{one_part, is_some-map}
use Rattle.store_steps.proofs.Storers.{at_other, gets, had, longer, moved_from, stays}

stand_moved : (fixed : Fixed) (words : List ℕ) (parents : ℕ → Option (List ℕ)) (storer : ℕ → Option (ℕ × ℕ)) (to : ℕ × ℕ → ℕ × ℕ)
    → StandForParents fixed words parents storer → StandForParents fixed words parents (λ m. option_map to (storer m))
stand_moved fixed words parents storer to h = record {
  held = h.held;
  claimed = λ m below. h.claimed m below ∙ ap (λ (b : Bool). is_some (parents m) || b) (sym (is_some-map to (storer m)));
  cells = h.cells;
  apart = λ m is. h.apart m (sym (is_some-map to (storer m)) ∙ is);
}

module _ (fixed : Fixed) (s : Table Unit (List SeatView)) (k : RuleHolds fixed s) where
  -- what the rule asks of a view of another table with the same words, of whose names and parents owners and storers moved
  abbrev pub FitsTo : (ℕ × ℕ → ℕ × ℕ) → ℕ → ℕ → SeatView → Type 0
  FitsTo to = Fits fixed k.history s.words (λ name. to (k.names.owner name)) (λ m. option_map to (k.parents.storer m)) (IsNamed s.views)

  pub fits_to : (to : ℕ × ℕ → ℕ × ℕ) (a b i j : ℕ) (view : SeatView) → to (a, b) ≡ (i, j) → HasView s.views a b view → FitsTo to i j view
  fits_to to a b i j view is h =
      let f : FitsParents fixed s.words k.parents.storer a b view = k.parents.fit a b view h in
      record {
        fits = k.views a b view h;
        owned = λ name ours. ap to (k.names.owned a b view h name ours) ∙ is;
        named = k.names.named a b view h;
        ordered = k.names.ordered a b view h;
        entries = λ named among. record { seat = a; part = b; view = view; has = h; among = among };
        parents = record {
          low = f.low;
          owned = λ m stores. ap (λ (o : Option (ℕ × ℕ)). option_map to o) (f.owned m stores) ∙ ap (λ (p : ℕ × ℕ). Some p) is;
          written = f.written;
        };
      }

  -- the rule of that table
  pub rekept : (t : Table Unit (List SeatView)) → t.words ≡ s.words → (owner : Name → ℕ × ℕ) (storer : ℕ → Option (ℕ × ℕ)) (Entry : Named → Type 0)
      → ((i j : ℕ) (v : SeatView) → HasView t.views i j v → Fits fixed k.history s.words owner storer Entry i j v)
      → ((one other : Named) → Entry one → Entry other → IsLater one other.name → ⊥)
      → ((named : Named) → Entry named → (name : Name) → IsLater named name → AreOfOthers (name ∷ []) k.history)
      → StandForParents fixed s.words (state_after k.history).parents storer → ((m i j : ℕ) → storer m ≡ Some (i, j) → StoresAt t.views i j m) → RuleHolds fixed t
  rekept t same owner storer Entry each new_to_views new_to_calls stand by =
      subst (λ (words : List ℕ). RuleHolds fixed (record { words = words; homes = t.homes; views = t.views })) (sym same)
      (rule_by fixed (record { words = s.words; homes = t.homes; views = t.views }) k.history k.legal k.words k.names.callers owner storer Entry each new_to_views new_to_calls stand by)

  -- where owners and storers moved
  pub rekept_to : (t : Table Unit (List SeatView)) → t.words ≡ s.words → (to : ℕ × ℕ → ℕ × ℕ) → ((i j : ℕ) (v : SeatView) → HasView t.views i j v → FitsTo to i j v)
      → ((m : ℕ) (p : ℕ × ℕ) → StoresAt s.views p.0 p.1 m → StoresAt t.views (to p).0 (to p).1 m) → RuleHolds fixed t
  rekept_to t same to each goes = rekept t same (λ name. to (k.names.owner name)) (λ m. option_map to (k.parents.storer m)) (IsNamed s.views) each k.names.new_to_views k.names.new_to_calls
      (stand_moved fixed s.words (state_after k.history).parents k.parents.storer to k.parents.stand) (λ m i j is.
      let from = moved_from (k.parents.storer m) to (i, j) is in
      subst (λ (q : ℕ × ℕ). StoresAt t.views q.0 q.1 m) from.2 (goes m from.0 (k.parents.by m from.0.0 from.0.1 from.1)))

-- a view that stood at a place, and where it stands now
pub record Moved (views : List (List SeatView)) (to : ℕ × ℕ → ℕ × ℕ) (seat part : ℕ) (view : SeatView) : Type 0 where
  pub old_seat : ℕ
  pub old_part : ℕ
  pub has : HasView views old_seat old_part view
  pub is : to (old_seat, old_part) ≡ (seat, part)

-- each view stands where its place goes
abbrev pub Goes : List (List SeatView) → List (List SeatView) → (ℕ × ℕ → ℕ × ℕ) → Type 0
Goes views later to = (seat part : ℕ) (view : SeatView) → HasView views seat part view → HasView later (to (seat, part)).0 (to (seat, part)).1 view

-- the views of a table stand elsewhere in another
pub record Regroups (views later : List (List SeatView)) (to : ℕ × ℕ → ℕ × ℕ) : Type 0 where
  pub moved : (seat part : ℕ) (view : SeatView) → HasView later seat part view → Moved views to seat part view
  pub goes : Goes views later to

pub regroup : (fixed : Fixed) (s t : Table Unit (List SeatView)) → t.words ≡ s.words → RuleHolds fixed s → (to : ℕ × ℕ → ℕ × ℕ) → Regroups s.views t.views to → RuleHolds fixed t
regroup fixed s t same k to r = rekept_to fixed s k t same to
    (λ i j v h. let m = r.moved i j v h in fits_to fixed s k to m.old_seat m.old_part i j v m.is m.has)
    (λ m p old. record { view = old.view; has = r.goes p.0 p.1 old.view old.has; storing = old.storing })

-- places of a list with one more at its end
pub at_end : {A : Type 0} (xs : List A) (x y : A) (i : ℕ) → get_elem? (xs ++ x ∷ []) i ≡ some y → (get_elem? xs i ≡ some y) ⊎ ((i ≡ length xs) × (x ≡ y))
at_end [] x y zero h = inr (refl, some-injective x y h)
at_end [] x y (suc i) h = absurd (some-ne-none y (sym h))
at_end (z ∷ xs) x y zero h = inl h
at_end (z ∷ xs) x y (suc i) h = elim (at_end xs x y i h) [
  | inl before ↦ inl before
  | inr last ↦ let place : suc i ≡ suc (length xs) = ap (λ (n : ℕ). suc n) last.0 in inr (place, last.1)
]

-- a seat with no view has none
pub no_part : (view : SeatView) (part : ℕ) → get_elem? [] part ≡ some view → ⊥
no_part view zero h = some-ne-none view (sym h)
no_part view (suc part) h = some-ne-none view (sym h)

-- of two views
pub two_parts : (one two view : SeatView) (part : ℕ) → get_elem? (one ∷ two ∷ []) part ≡ some view → ((part ≡ 0) × (view ≡ one)) ⊎ ((part ≡ 1) × (view ≡ two))
two_parts one two view zero h = inl (refl, sym (some-injective one view h))
two_parts one two view (suc zero) h = inr (refl, sym (some-injective two view h))
two_parts one two view (suc (suc part)) h = absurd (some-ne-none view (sym h))

-- a place is another where the seats are
pub other_place : (i id : ℕ) (place other : ℕ × ℕ) → i ≢ id → (if i == id then place else other) ≡ other
other_place i id place other differ = rw (ne_eqb i id differ) refl

pub same_place : (i id : ℕ) (place other : ℕ × ℕ) → i ≡ id → (if i == id then place else other) ≡ place
same_place i id place other same = rw (eq-eqb i id same) refl

-- A seat takes in another's view: it has both.
abbrev pub join_to : ℕ → ℕ → ℕ × ℕ → ℕ × ℕ
join_to id other p = if p.0 == other then (id, 1) else p

pub joined_regroups : (views : List (List SeatView)) (id other : ℕ) (one two : SeatView)
    → get_elem? views id ≡ some (one ∷ []) → other ≢ id → get_elem? views other ≡ some (two ∷ [])
    → Regroups views (set (set views id (one ∷ two ∷ [])) other []) (join_to id other)
joined_regroups views id other one two at differ two_seat =
    let both : List (List SeatView) = set views id (one ∷ two ∷ []) in
    let one_there : HasView views id 0 one = record { parts = one ∷ []; is_seat = at; is_part = refl } in
    let two_there : HasView views other 0 two = record { parts = two ∷ []; is_seat = two_seat; is_part = refl } in
    let Old : ℕ → ℕ → SeatView → Type 0 = Moved views (join_to id other) in
    record {
      moved = (λ i j v h.
          elim (at_other both other [] i j v h) [
            | inl spent ↦ absurd (no_part v j spent.1)
            | inr away ↦ elim (at_other views id (one ∷ two ∷ []) i j v away.1) [
              | inl here ↦ elim (two_parts one two v j here.1) [
                | inl first ↦ placed Old i j id 0 v one here.0 first.0 first.1
                    (record { old_seat = id; old_part = 0; has = one_there; is = other_place id other (id, 1) (id, 0) (λ e. differ (sym e)) })
                | inr second ↦ placed Old i j id 1 v two here.0 second.0 second.1
                    (record { old_seat = other; old_part = 0; has = two_there; is = same_place other other (id, 1) (other, 0) refl })
              ]
              | inr there ↦ record { old_seat = i; old_part = j; has = there.1; is = other_place i other (id, 1) (i, j) away.0 }
            ]
          ]);
      goes = (λ i j v h. elim (cases_eq i other) [
        | inl taken ↦
            let only = one_part two v j (had views other (two ∷ []) i j v two_seat taken h) in
            subst (λ (q : ℕ × ℕ). HasView (set both other []) q.0 q.1 v) (sym (same_place i other (id, 1) (i, j) taken))
            (stays both other [] id 1 v (λ e. differ (sym e)) (gets views id (one ∷ []) (one ∷ two ∷ []) 1 v at (ap (λ (u : SeatView). some u) (sym only.1))))
        | inr left ↦
            subst (λ (q : ℕ × ℕ). HasView (set both other []) q.0 q.1 v) (sym (other_place i other (id, 1) (i, j) left))
            (stays both other [] i j v left (elim (cases_eq i id) [
              | inl here ↦
                  let only = one_part one v j (had views id (one ∷ []) i j v at here h) in
                  subst (λ (q : ℕ × ℕ). HasView both q.0 q.1 v) (λ x. (sym here x, sym only.0 x))
                  (gets views id (one ∷ []) (one ∷ two ∷ []) 0 v at (ap (λ (u : SeatView). some u) (sym only.1)))
              | inr away ↦ stays views id (one ∷ two ∷ []) i j v away h
            ]))
      ]);
    }

pub joined_kept : (fixed : Fixed) (s : Table Unit (List SeatView)) → RuleHolds fixed s → (id other : ℕ) (one two : SeatView)
    → get_elem? s.views id ≡ some (one ∷ []) → other ≢ id → get_elem? (set s.views id (one ∷ two ∷ [])) other ≡ some (two ∷ [])
    → RuleHolds fixed (record { words = s.words; homes = s.homes; views = set (set s.views id (one ∷ two ∷ [])) other [] })
joined_kept fixed s k id other one two at differ at_two =
    regroup fixed s (record { words = s.words; homes = s.homes; views = set (set s.views id (one ∷ two ∷ [])) other [] }) refl k (join_to id other)
    (joined_regroups s.views id other one two at differ (sym (set_else s.views id other (one ∷ two ∷ []) differ) ∙ at_two))

-- A new seat with no view comes in.
pub entered_regroups : (views : List (List SeatView)) → Regroups views (views ++ [] ∷ []) (λ p. p)
entered_regroups views = record {
  moved = λ i j v h. elim (at_end views [] h.parts i h.is_seat) [
    | inl there ↦ record { old_seat = i; old_part = j; has = record { parts = h.parts; is_seat = there; is_part = h.is_part }; is = refl }
    | inr last ↦ absurd (no_part v j (subst (λ (ps : List SeatView). get_elem? ps j ≡ some v) (sym last.1) h.is_part))
  ];
  goes = λ i j v h. longer views ([] ∷ []) i j v h;
}

pub entered_kept : (fixed : Fixed) (s : Table Unit (List SeatView)) → RuleHolds fixed s
    → RuleHolds fixed (record { words = s.words; homes = s.homes; views = s.views ++ [] ∷ [] })
entered_kept fixed s k = regroup fixed s (record { words = s.words; homes = s.homes; views = s.views ++ [] ∷ [] }) refl k (λ p. p) (entered_regroups s.views)

-- A seat with two views leaves the second to a new one.
abbrev pub leave_to : ℕ → ℕ → ℕ × ℕ → ℕ × ℕ
leave_to id new p = if p.0 == id then (if p.1 == 0 then p else (new, 0)) else p

pub left_regroups : (views : List (List SeatView)) (id : ℕ) (one two : SeatView) → get_elem? views id ≡ some (one ∷ two ∷ [])
    → Regroups views (set views id (one ∷ []) ++ (two ∷ []) ∷ []) (leave_to id (length (set views id (one ∷ []))))
left_regroups views id one two at =
    let first : List (List SeatView) = set views id (one ∷ []) in
    let to : ℕ × ℕ → ℕ × ℕ = leave_to id (length first) in
    let Old : ℕ → ℕ → SeatView → Type 0 = Moved views to in
    let seat : (j : ℕ) (v : SeatView) → get_elem? (one ∷ two ∷ []) j ≡ some v → HasView views id j v =
    λ j v h. record { parts = one ∷ two ∷ []; is_seat = at; is_part = h } in
    record {
      moved = (λ i j v h.
          elim (at_end first (two ∷ []) h.parts i h.is_seat) [
            | inl there ↦ elim (at_other views id (one ∷ []) i j v (record { parts = h.parts; is_seat = there; is_part = h.is_part })) [
              | inl here ↦
                  let only = one_part one v j here.1 in
                  placed Old i j id 0 v one here.0 only.0 only.1 (record { old_seat = id; old_part = 0; has = seat 0 one refl; is = same_place id id (id, 0) (id, 0) refl })
              | inr other ↦ record { old_seat = i; old_part = j; has = other.1; is = other_place i id (if j == 0 then (i, j) else (length first, 0)) (i, j) other.0 }
            ]
            | inr last ↦
                let only = one_part two v j (subst (λ (ps : List SeatView). get_elem? ps j ≡ some v) (sym last.1) h.is_part) in
                placed Old i j (length first) 0 v two last.0 only.0 only.1
                (record { old_seat = id; old_part = 1; has = seat 1 two refl; is = same_place id id (length first, 0) (id, 1) refl })
          ]);
      goes = (λ i j v h. elim (cases_eq i id) [
        | inl here ↦
            let second : ℕ × ℕ = (length first, 0) in
            let where_to : to (i, j) ≡ (if j == 0 then (i, j) else second) = same_place i id (if j == 0 then (i, j) else second) (i, j) here in
            elim (two_parts one two v j (had views id (one ∷ two ∷ []) i j v at here h)) [
              | inl stay ↦
                  subst (λ (q : ℕ × ℕ). HasView (first ++ (two ∷ []) ∷ []) q.0 q.1 v) (sym (where_to ∙ same_place j 0 (i, j) second stay.0))
                  (longer first ((two ∷ []) ∷ []) i j v (subst (λ (q : ℕ × ℕ). HasView first q.0 q.1 v) (λ x. (sym here x, sym stay.0 x))
                  (gets views id (one ∷ two ∷ []) (one ∷ []) 0 v at (ap (λ (u : SeatView). some u) (sym stay.1)))))
              | inr leave ↦
                  subst (λ (q : ℕ × ℕ). HasView (first ++ (two ∷ []) ∷ []) q.0 q.1 v) (sym (where_to ∙ other_place j 0 (i, j) second (λ e. omega (arith, e, leave.0))))
                  (record { parts = two ∷ []; is_seat = at_last first (two ∷ []) (length first) refl; is_part = ap (λ (u : SeatView). some u) (sym leave.1) })
            ]
        | inr other ↦
            subst (λ (q : ℕ × ℕ). HasView (first ++ (two ∷ []) ∷ []) q.0 q.1 v) (sym (other_place i id (if j == 0 then (i, j) else (length first, 0)) (i, j) other))
            (longer first ((two ∷ []) ∷ []) i j v (stays views id (one ∷ []) i j v other h))
      ]);
    }

pub left_kept : (fixed : Fixed) (s : Table Unit (List SeatView)) → RuleHolds fixed s → (id : ℕ) (one two : SeatView)
    → get_elem? s.views id ≡ some (one ∷ two ∷ [])
    → RuleHolds fixed (record { words = s.words; homes = s.homes; views = set s.views id (one ∷ []) ++ (two ∷ []) ∷ [] })
left_kept fixed s k id one two at =
    regroup fixed s (record { words = s.words; homes = s.homes; views = set s.views id (one ∷ []) ++ (two ∷ []) ∷ [] }) refl k (leave_to id (length (set s.views id (one ∷ []))))
    (left_regroups s.views id one two at)

-- What the table asks of these.
pub join_asks : (words : Words) (id other : ℕ) (ours theirs : List SeatView) → ours ≡ first_of ours ∷ [] → theirs ≡ first_of theirs ∷ []
    → Joins (RuleHolds words.table.shared.key) id ours other theirs (ours ++ theirs) []
join_asks words id other ours theirs one two =
    subst (λ (f : Fixed). Joins (RuleHolds f) id ours other theirs (ours ++ theirs) []) (sym words.key_is)
    (subst (λ (vs : List SeatView × List SeatView). Joins (RuleHolds words.fixed) id vs.0 other vs.1 (vs.0 ++ vs.1) []) (λ i. (sym one i, sym two i))
    (λ s k at differ at_other. joined_kept words.fixed s k id other (first_of ours) (first_of theirs) at differ at_other))

pub enter_asks : (words : Words) (slots i : ℕ) → Enters (RuleHolds words.table.shared.key) slots i (λ n views. views ≡ [])
enter_asks words slots i =
    subst (λ (f : Fixed). Enters (RuleHolds f) slots i (λ n views. views ≡ [])) (sym words.key_is) (λ s k homes small. ([], entered_kept words.fixed s k, refl))

pub leave_asks : (words : Words) (id : ℕ) (views : List SeatView) (one two : SeatView) → views ≡ one ∷ two ∷ []
    → Splits (RuleHolds words.table.shared.key) id views (first_of views ∷ []) (later_views views)
leave_asks words id views one two both =
    subst (λ (f : Fixed). Splits (RuleHolds f) id views (first_of views ∷ []) (later_views views)) (sym words.key_is)
    (subst (λ (vs : List SeatView). Splits (RuleHolds words.fixed) id vs (first_of vs ∷ []) (later_views vs)) (sym both)
    (λ s k at. left_kept words.fixed s k id one two at))

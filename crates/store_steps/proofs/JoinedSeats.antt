-- Seats that enter, join, leave, merge and meet: which machine the table then stands for.
use Rattle.std.proofs.lemmas.Bool.Decides.{nat_tests}
use Rattle.std.proofs.Common.{◌≡◌, ◌⊎◌, ℕ, ◌/◌, ◌==◌, Bool, true, false, not, ◌&&◌, ◌||◌, if◌then◌else◌, List, [], ◌∷◌, ◌++◌, length, Option, Some, is_some, set, slice_index, refl, sym, ap, subst, ◌∙◌, arith, inl, inr, eq-eqb, ne_eqb}
use Rattle.std.proofs.lemmas.Bool.{both_ways, cases_Bool, cases_eq, false_from_ne_true, or_cases, or_left, or_right, false≢true}
use Rattle.std.proofs.lemmas.List.{length-set, set-get_or}
use mathlib.Core.Option.{some}
use lib.ListN.{get_elem?}
use Rattle.atomic_table.specs.Table.{State as Table, keeps, stepped}
use Rattle.holders.specs.declared.fixed.Fixed.{Fixed}
use Rattle.store_core.specs.declared.view.SeatView.{SeatView}
use Rattle.store_core.specs.declared.view.StoredWord.{StoredWord}
use Rattle.store_core.specs.Histories.{IsLegal, state_after}
use Rattle.store_core.specs.Machine.{Machine, MachineSeat, ReadUnderWay, no_seat}
use Rattle.store_core.specs.States.{claims}
use Rattle.store_core.specs.Views.{names_of, seat_claims, stored, Continues}
use Rattle.store_core.proofs.Joining.{claims_continued, join_keeps}
use Rattle.store_core.proofs.Tells.{claims_apart}
use Rattle.store_steps.specs.Machines.{HasRead, StandsForMachine}
use Rattle.store_steps.specs.Renames.{EnterStays, JoinRenames, LeaveRenames, MeetStays, MergeStays, joined_claim, left_claim}
use Rattle.store_steps.specs.Rule.{HasView, RuleHolds}
use Rattle.store_steps.proofs.Lists.{one_part}
use Rattle.store_steps.proofs.Meeting.{part_one, part_two, apart, stored-append}
use Rattle.store_steps.proofs.Regrouping.{Regroups, entered_regroups, join_to, joined_regroups, leave_to, left_regroups, other_place, same_place, two_parts}
use Rattle.store_steps.proofs.Simulating.{under_way_later}
use Rattle.store_steps.proofs.Storers.{at_other, gets, had, stays}
use Rattle.store_steps.proofs.Renaming.{Stands, claims_now, renamed_served, renamed_stands, same_stands, stays_stands}
use Rattle.std.proofs.lemmas.Option.{none-some}
use Rattle.store_steps.proofs.Keeping.{placed}
use Rattle.store_core.specs.declared.history.Event.{Event}

pub enter_stays : EnterStays
enter_stays fixed s m k stands =
    let r = entered_regroups s.views in
    stays_stands fixed s (record { words = s.words; homes = s.homes; views = s.views ++ [] ∷ [] }) m refl k stands
    (λ i j v h. same_stands fixed (s.views ++ [] ∷ []) i j v (r.goes i j v h))
    (λ i j v h c is.
    let old = r.moved i j v h in
    record { old_seat = old.old_seat; old_part = old.old_part; view = v; has = old.has; claimed = is; is = ap (λ (p : ℕ × ℕ). p.0) old.is })

-- claims and seats of a joined machine
joined_some : (seat other : ℕ) (o : Option ℕ) → is_some (joined_claim seat other o) ≡ is_some o
joined_some seat other o = grind (arith, nat_tests)

module _ (m : Machine) (other : ℕ) where
  abbrev without : ℕ → MachineSeat
  without n = if n == other then no_seat else m.seat n

  -- what a seat did that counts as none is none's
  without_is : (n : ℕ) (P : MachineSeat → Type 0) → (P no_seat → ⊥) → P (without n) → ((n == other) ≡ false) × P (m.seat n)
  without_is n P never is = elim (cases_Bool (n == other)) [ inl hit ↦ absurd (never (rw hit at is)) | inr miss ↦ (miss, rw miss at is) ]

  without_wrote : (n c w : ℕ) → (without n).written c w ≡ true → ((n == other) ≡ false) × ((m.seat n).written c w ≡ true)
  without_wrote n c w is = without_is n (λ seat. seat.written c w ≡ true) false≢true is

  without_read : (n : ℕ) (r : ReadUnderWay) → (without n).reading ≡ Some r → ((n == other) ≡ false) × ((m.seat n).reading ≡ Some r)
  without_read n r is = without_is n (λ seat. seat.reading ≡ Some r) (none-some r) is

  without_same : (n : ℕ) → (n == other) ≡ false → (without n).piece ≡ (m.seat n).piece
  without_same n miss = rw miss refl

pub join_renames : JoinRenames
join_renames fixed s m seat other one two k stands at at_two differ =
    let views : List (List SeatView) = set (set s.views seat (one ∷ two ∷ [])) other [] in
    let r = joined_regroups s.views seat other one two at differ at_two in
    let served = renamed_served fixed m (λ c. joined_claim seat other (m.claim c)) (without m other) stands.served (λ c. joined_some seat other (m.claim c))
    (λ n c w is. let old = without_wrote m other n c w is in (old.1, without_same m other n old.0))
    (λ n c w is by.
    let miss : (n == other) ≡ false = (without_wrote m other n c w is).0 in
    let kept : joined_claim seat other (Some n) ≡ Some n = rw miss refl in
    ap (λ (o : Option ℕ). joined_claim seat other o) by ∙ kept)
    (λ n piece is. (without_is m other n (λ seat. seat.piece ≡ Some piece) (none-some piece) is).1) (λ n r is. (without_read m other n r is).1) in
    renamed_stands fixed s (record { words = s.words; homes = s.homes; views = views }) m (λ p. (join_to seat other p).0) refl k stands
    (λ i j v h. same_stands fixed views (join_to seat other (i, j)).0 (join_to seat other (i, j)).1 v (r.goes i j v h))
    (λ i j v h c is.
    let old = r.moved i j v h in
    record { old_seat = old.old_seat; old_part = old.old_part; view = v; has = old.has; claimed = is; is = ap (λ (p : ℕ × ℕ). p.0) old.is })
    (λ c. joined_claim seat other (m.claim c)) (without m other) (λ c. joined_some seat other (m.claim c))
    (λ i j v h c is by.
    let now : joined_claim seat other (Some i) ≡ Some (join_to seat other (i, j)).0 = elim (cases_Bool (i == other)) [ inl hit ↦ rw hit refl | inr miss ↦ rw miss refl ] in
    ap (λ (o : Option ℕ). joined_claim seat other o) by ∙ now)
    served (λ n c w is. (without_wrote m other n c w is).1)
    (λ n x is.
    let old = without_read m other n x is in
    let was : HasRead fixed s.views n x = stands.reads n x old.1 in
    let place : join_to seat other (n, was.part) ≡ (n, was.part) = rw old.0 refl in
    let there : HasView views n was.part was.view = subst (λ (p : ℕ × ℕ). HasView views p.0 p.1 was.view) place (r.goes n was.part was.view was.has) in
    record { part = was.part; view = was.view; has = there; under_way = was.under_way })

-- claims and seats of a machine of which a seat leaves some
left_some : (seat new : ℕ) (theirs : Bool) (o : Option ℕ) → is_some (left_claim seat new theirs o) ≡ is_some o
left_some seat new theirs o = grind (arith, nat_tests)

module _ (m : Machine) (seat : ℕ) (view : SeatView) where
  abbrev leaving : ℕ → MachineSeat
  leaving n = if n == seat then record (m.seat n) { written = λ c w. not (seat_claims view c) && (m.seat n).written c w } else m.seat n

  leaving_wrote : (n c w : ℕ) → (leaving n).written c w ≡ true → (((n == seat) && seat_claims view c) ≡ false) × ((m.seat n).written c w ≡ true)
  leaving_wrote n c w is = grind (arith, nat_tests)

  leaving_piece : (n : ℕ) → (leaving n).piece ≡ (m.seat n).piece
  leaving_piece n = elim (cases_Bool (n == seat)) [ inl hit ↦ rw hit refl | inr miss ↦ rw miss refl ]

  leaving_read : (n : ℕ) → (leaving n).reading ≡ (m.seat n).reading
  leaving_read n = elim (cases_Bool (n == seat)) [ inl hit ↦ rw hit refl | inr miss ↦ rw miss refl ]

-- a seat with two views
module _ (fixed : Fixed) (s : Table Unit (List SeatView)) (k : RuleHolds fixed s) (seat : ℕ) (one two : SeatView) (at : get_elem? s.views seat ≡ some (one ∷ two ∷ [])) where
  -- no chunk is claimed by both
  never_both : (c : ℕ) → claims (names_of one) (state_after k.history) c ≡ true → claims (names_of two) (state_after k.history) c ≡ true → ⊥
  never_both c ours theirs = both_ways _ (claims_apart (state_after k.history) (names_of one) (names_of two) c (apart fixed s k seat one two at) theirs) ours

  apart_claims : (c : ℕ) → seat_claims one c ≡ true → seat_claims two c ≡ false
  apart_claims c ours = false_from_ne_true _ (λ theirs.
      never_both c (claims_now fixed s k seat 0 one (part_one fixed s k seat one two at) c ∙ ours) (claims_now fixed s k seat 1 two (part_two fixed s k seat one two at) c ∙ theirs))

  -- so that what either stored counts as stored by both
  stored_first : (number value : ℕ) → stored one.written number ≡ Some value → stored (one.written ++ two.written) number ≡ Some value
  stored_first number value is = elim (stored-append one.written two.written number) [
    | inl none ↦ absurd (none-some value (sym none.0 ∙ is))
    | inr there ↦ there.2 ∙ sym there.1 ∙ is
  ]

  stored_second : (number value : ℕ) → stored two.written number ≡ Some value → stored (one.written ++ two.written) number ≡ Some value
  stored_second number value is = elim (stored-append one.written two.written number) [
    | inl none ↦ none.1 ∙ is
    | inr there ↦
        absurd (never_both (number / 129) ((k.views seat 0 one (part_one fixed s k seat one two at)).written number there.0 there.1).0
        ((k.views seat 1 two (part_two fixed s k seat one two at)).written number value is).0)
  ]

pub leave_renames : LeaveRenames
leave_renames fixed s m seat one two k stands at reads =
    let new : ℕ = length s.views in
    let views : List (List SeatView) = set s.views seat (one ∷ []) ++ (two ∷ []) ∷ [] in
    let r : Regroups s.views views (leave_to seat new) =
    subst (λ (n : ℕ). Regroups s.views views (leave_to seat n)) (length-set s.views seat (one ∷ [])) (left_regroups s.views seat one two at) in
    let f : ℕ → Option ℕ = λ c. left_claim seat new (seat_claims two c) (m.claim c) in
    let served = renamed_served fixed m f (leaving m seat two) stands.served (λ c. left_some seat new (seat_claims two c) (m.claim c))
    (λ n c w is. ((leaving_wrote m seat two n c w is).1, leaving_piece m seat two n))
    (λ n c w is by.
    let kept : left_claim seat new (seat_claims two c) (Some n) ≡ Some n = rw (leaving_wrote m seat two n c w is).0 refl in
    ap (λ (o : Option ℕ). left_claim seat new (seat_claims two c) o) by ∙ kept)
    (λ n piece is. sym (leaving_piece m seat two n) ∙ is) (λ n x is. sym (leaving_read m seat two n) ∙ is) in
    renamed_stands fixed s (record { words = s.words; homes = s.homes; views = views }) m (λ p. (leave_to seat new p).0) refl k stands
    (λ i j v h. same_stands fixed views (leave_to seat new (i, j)).0 (leave_to seat new (i, j)).1 v (r.goes i j v h))
    (λ i j v h c is.
    let old = r.moved i j v h in
    record { old_seat = old.old_seat; old_part = old.old_part; view = v; has = old.has; claimed = is; is = ap (λ (p : ℕ × ℕ). p.0) old.is })
    f (leaving m seat two) (λ c. left_some seat new (seat_claims two c) (m.claim c))
    (λ i j v h c is by.
    let now : left_claim seat new (seat_claims two c) (Some i) ≡ Some (leave_to seat new (i, j)).0 =
    elim (cases_eq i seat) [
      | inl here ↦
          let hit : (i == seat) ≡ true = eq-eqb i seat here in
          elim (two_parts one two v j (had s.views seat (one ∷ two ∷ []) i j v at here h)) [
            | inl first ↦
                let zero_is : (j == 0) ≡ true = eq-eqb j 0 first.0 in
                let none : seat_claims two c ≡ false = apart_claims fixed s k seat one two at c (subst (λ (u : SeatView). seat_claims u c ≡ true) first.1 is) in
                rw (hit, zero_is, none) refl
            | inr second ↦
                let other : (j == 0) ≡ false = ne_eqb j 0 (λ e. omega (arith, e, second.0)) in
                let theirs : seat_claims two c ≡ true = subst (λ (u : SeatView). seat_claims u c ≡ true) second.1 is in
                rw (hit, other, theirs) refl
          ]
      | inr away ↦ let miss : (i == seat) ≡ false = ne_eqb i seat away in rw miss refl
    ] in
    ap (λ (o : Option ℕ). left_claim seat new (seat_claims two c) o) by ∙ now)
    served (λ n c w is. (leaving_wrote m seat two n c w is).1)
    (λ n x is.
    let reading : (m.seat n).reading ≡ Some x = sym (leaving_read m seat two n) ∙ is in
    elim (cases_eq n seat) [
      | inl here ↦
          let first : HasView s.views n 0 one = record { parts = one ∷ two ∷ []; is_seat = ap (λ (p : ℕ). get_elem? s.views p) here ∙ at; is_part = refl } in
          let place : leave_to seat new (n, 0) ≡ (n, 0) = same_place n seat (n, 0) (n, 0) here in
          let there : HasView views n 0 one = subst (λ (p : ℕ × ℕ). HasView views p.0 p.1 one) place (r.goes n 0 one first) in
          record { part = 0; view = one; has = there; under_way = reads x (ap (λ (p : ℕ). (m.seat p).reading) (sym here) ∙ reading) }
      | inr away ↦
          let was : HasRead fixed s.views n x = stands.reads n x reading in
          let place : leave_to seat new (n, was.part) ≡ (n, was.part) = other_place n seat (if was.part == 0 then (n, was.part) else (new, 0)) (n, was.part) away in
          let there : HasView views n was.part was.view = subst (λ (p : ℕ × ℕ). HasView views p.0 p.1 was.view) place (r.goes n was.part was.view was.has) in
          record { part = was.part; view = was.view; has = there; under_way = was.under_way }
    ])

module _ (fixed : Fixed) (s : Table Unit (List SeatView)) (m : Machine) (seat place : ℕ) (one two : SeatView) (k : RuleHolds fixed s)
    (stands : StandsForMachine fixed s m) (at : get_elem? s.views seat ≡ some (one ∷ two ∷ [])) where
  -- a table in which the seat has other views
  abbrev with_views : List SeatView → Table Unit (List SeatView)
  with_views parts = stepped s place (slice_index s.words place) seat [] parts keeps

  same_words : set s.words place (slice_index s.words place) ≡ s.words
  same_words = set-get_or s.words place 0

  changed_stands : (parts : List SeatView) → Stands fixed (set s.views seat parts) seat one → Stands fixed (set s.views seat parts) seat two
      → ((j : ℕ) (v : SeatView) → get_elem? parts j ≡ some v → (c : ℕ) → seat_claims v c ≡ true → (seat_claims one c ≡ true) ⊎ (seat_claims two c ≡ true))
      → StandsForMachine fixed (with_views parts) m
  changed_stands parts a b claimed = stays_stands fixed s (with_views parts) m same_words k stands
      (λ i j v h. elim (cases_eq i seat) [
        | inl here ↦ elim (two_parts one two v j (had s.views seat (one ∷ two ∷ []) i j v at here h)) [
          | inl p ↦ placed (λ n part u. Stands fixed (set s.views seat parts) n u) i j seat 0 v one here p.0 p.1 a
          | inr p ↦ placed (λ n part u. Stands fixed (set s.views seat parts) n u) i j seat 1 v two here p.0 p.1 b
        ]
        | inr away ↦ same_stands fixed (set s.views seat parts) i j v (stays s.views seat parts i j v away h)
      ])
      (λ i j v h c is. elim (at_other s.views seat parts i j v h) [
        | inl here ↦ elim (claimed j v here.1 c is) [
          | inl ours ↦ record { old_seat = seat; old_part = 0; view = one; has = part_one fixed s k seat one two at; claimed = ours; is = sym here.0 }
          | inr theirs ↦ record { old_seat = seat; old_part = 1; view = two; has = part_two fixed s k seat one two at; claimed = theirs; is = sym here.0 }
        ]
        | inr away ↦ record { old_seat = i; old_part = j; view = v; has = away.1; claimed = is; is = refl }
      ])

pub merge_stays : MergeStays
merge_stays fixed s m seat place one two merged k stands at told =
    let j = told.joined in
    let all : (c : ℕ) → seat_claims merged c ≡ (seat_claims one c || seat_claims two c) = λ c. (join_keeps one two merged j).3 told.legal c in
    let there : HasView (set s.views seat (merged ∷ [])) seat 0 merged = gets s.views seat (one ∷ two ∷ []) (merged ∷ []) 0 merged at refl in
    let wrote : merged.written ≡ one.written ++ two.written = j.written_are in
    changed_stands fixed s m seat place one two k stands at (merged ∷ [])
    (record {
      part = 0;
      new = merged;
      has = there;
      claimed = λ c is. all c ∙ or_left _ _ is;
      wrote = λ number value is. ap (λ (words : List StoredWord). stored words number) wrote ∙ stored_first fixed s k seat one two at number value is;
      reading = λ r is. under_way_later fixed merged.fixed one merged j.after_first.between r j.after_first.is told.legal is;
    })
    (record {
      part = 0;
      new = merged;
      has = there;
      claimed = λ c is. all c ∙ or_right _ _ is;
      wrote = λ number value is. ap (λ (words : List StoredWord). stored words number) wrote ∙ stored_second fixed s k seat one two at number value is;
      reading = λ r is. under_way_later fixed merged.fixed two merged j.after_second.between r j.after_second.is told.legal is;
    })
    (λ n v is c claimed.
    let only = one_part merged v n is in
    or_cases (seat_claims one c) (seat_claims two c) (sym (all c) ∙ subst (λ (u : SeatView). seat_claims u c ≡ true) only.1 claimed))

-- a view that has seen a longer history stands where it does
met_stands : (fixed of : Fixed) (later : List (List SeatView)) (seat part : ℕ) (view new : SeatView) (history : List Event) → new ≡ record view { seen = history }
    → Continues view history → IsLegal of history → HasView later seat part new → Stands fixed later seat view
met_stands fixed of later seat part view new history is on legal has = record {
  part = part;
  new = new;
  has = has;
  claimed = λ c claims. ap (λ (v : SeatView). seat_claims v c) is ∙ claims_continued of view history on legal c ∙ claims;
  wrote = λ number value wrote. ap (λ (v : SeatView). stored v.written number) is ∙ wrote;
  reading = λ r old. under_way_later fixed of view new on.between r (ap (λ (v : SeatView). v.seen) is ∙ on.is) (subst (λ (v : SeatView). IsLegal of v.seen) (sym is) legal) old;
}

pub meet_stays : MeetStays
meet_stays fixed s m seat place one two new_one new_two k stands at met =
    let parts : List SeatView = new_one ∷ new_two ∷ [] in
    let its : (c : ℕ) → seat_claims new_one c ≡ seat_claims one c =
    λ c. ap (λ (v : SeatView). seat_claims v c) met.first_is ∙ claims_continued one.fixed one met.history met.after_first met.legal c in
    let theirs : (c : ℕ) → seat_claims new_two c ≡ seat_claims two c =
    λ c. ap (λ (v : SeatView). seat_claims v c) met.second_is ∙ claims_continued one.fixed two met.history met.after_second met.legal c in
    let later : List (List SeatView) = set s.views seat parts in
    changed_stands fixed s m seat place one two k stands at parts
    (met_stands fixed one.fixed later seat 0 one new_one met.history met.first_is met.after_first met.legal (gets s.views seat (one ∷ two ∷ []) parts 0 new_one at refl))
    (met_stands fixed one.fixed later seat 1 two new_two met.history met.second_is met.after_second met.legal (gets s.views seat (one ∷ two ∷ []) parts 1 new_two at refl))
    (λ n v is c claimed. elim (two_parts new_one new_two v n is) [
      | inl p ↦ inl (sym (its c) ∙ subst (λ (u : SeatView). seat_claims u c ≡ true) p.1 claimed)
      | inr p ↦ inr (sym (theirs c) ∙ subst (λ (u : SeatView). seat_claims u c ≡ true) p.1 claimed)
    ])

-- Where views that are storing parents stand after a step.
use Rattle.std.proofs.Common.{◌≡◌, ◌≢◌, ◌⊎◌, ℕ, zero, suc, ◌<◌, true, List, [], ◌∷◌, ◌++◌, length, Option, None, Some, set, refl, sym, ap, subst, ◌∙◌, arith, inl, inr}
use Rattle.std.specs.Option.{option_map}
use Rattle.std.proofs.lemmas.Bool.{cases_eq}
use mathlib.Core.Option.{some, some-injective, some-ne-none}
use lib.ListN.{get_elem?}
use Rattle.atomic_table.proofs.Lists.{at_longer, at_set, set_else, set_here}
use Rattle.store_core.specs.declared.view.SeatView.{SeatView}
use Rattle.store_core.specs.Views.{is_storing}
use Rattle.store_steps.specs.Rule.{HasView, StoresAt}
use Rattle.store_steps.proofs.Lists.{one_part}
use Rattle.std.proofs.lemmas.Option.{same_Some}

-- a seat that is there has a number below the count of seats
pub seat_below : (views : List (List SeatView)) (id : ℕ) (parts : List SeatView) → get_elem? views id ≡ some parts → id < length views
seat_below [] id parts e = absurd (some-ne-none parts (sym e))
seat_below (v ∷ views) zero parts e = omega arith
seat_below (v ∷ views) (suc id) parts e = omega (arith, seat_below views id parts e)

-- where a storer that moved was
pub moved_from : (storer : Option (ℕ × ℕ)) (to : ℕ × ℕ → ℕ × ℕ) (place : ℕ × ℕ) → option_map to storer ≡ Some place
    → (old : ℕ × ℕ) × (storer ≡ Some old) × (to old ≡ place)
moved_from None to place e = cc
moved_from (Some old) to place e = (old, refl, same_Some {A = ℕ × ℕ} (to old) place e)

module _ (views : List (List SeatView)) (id : ℕ) where
  -- the views of other seats stay where one seat gets others
  pub stays : (parts : List SeatView) (i j : ℕ) (v : SeatView) → i ≢ id → HasView views i j v → HasView (set views id parts) i j v
  stays parts i j v other h = record { parts = h.parts; is_seat = set_else views id i parts other ∙ h.is_seat; is_part = h.is_part }

  -- the views that it gets
  pub gets : (old parts : List SeatView) (j : ℕ) (v : SeatView) → get_elem? views id ≡ some old → get_elem? parts j ≡ some v → HasView (set views id parts) id j v
  gets old parts j v seat at = record { parts = parts; is_seat = set_here views id parts (seat_below views id old seat); is_part = at }

  -- the views that it had
  pub had : (parts : List SeatView) (i j : ℕ) (v : SeatView) → get_elem? views id ≡ some parts → i ≡ id → HasView views i j v → get_elem? parts j ≡ some v
  had parts i j v seat here h =
      let same : parts ≡ h.parts = some-injective parts h.parts (sym seat ∙ ap (λ (p : ℕ). get_elem? views p) (sym here) ∙ h.is_seat) in
      subst (λ (ps : List SeatView). get_elem? ps j ≡ some v) (sym same) h.is_part

  -- the views of a table where one seat has others
  pub at_other : (parts : List SeatView) (i j : ℕ) (v : SeatView) → HasView (set views id parts) i j v
      → ((i ≡ id) × (get_elem? parts j ≡ some v)) ⊎ ((i ≢ id) × HasView views i j v)
  at_other parts i j v h = elim (at_set views id i parts h.parts h.is_seat) [
    | inl here ↦ inl (here.0, subst (λ (ps : List SeatView). get_elem? ps j ≡ some v) (sym here.1) h.is_part)
    | inr other ↦ inr (other.0, record { parts = h.parts; is_seat = other.1; is_part = h.is_part })
  ]

  module _ (view new : SeatView) (seat : get_elem? views id ≡ some (view ∷ [])) where
    -- a seat's new view is storing a parent
    pub stores_new : (m i j : ℕ) → ◌≡◌ {A = Option (ℕ × ℕ)} (Some (id, 0)) (Some (i, j)) → is_storing new m ≡ true → StoresAt (set views id (new ∷ [])) i j m
    stores_new m i j place storing =
        subst (λ (p : ℕ × ℕ). StoresAt (set views id (new ∷ [])) p.0 p.1 m) (same_Some {A = ℕ × ℕ} (id, 0) (i, j) place)
        (record { view = new; has = gets (view ∷ []) (new ∷ []) 0 new seat refl; storing = storing })

    -- who was storing a parent goes on, where the seat's view does
    pub stores_on : (m : ℕ) → (is_storing view m ≡ true → is_storing new m ≡ true) → (i j : ℕ) → StoresAt views i j m → StoresAt (set views id (new ∷ [])) i j m
    stores_on m on i j s = elim (cases_eq i id) [
      | inl here ↦
          let one = one_part view s.view j (had (view ∷ []) i j s.view seat here s.has) in
          let place : (id, 0) ≡ (i, j) = λ x. (sym here x, sym one.0 x) in
          stores_new m i j (ap (λ (p : ℕ × ℕ). Some p) place) (on (ap (λ (v : SeatView). is_storing v m) (sym one.1) ∙ s.storing))
      | inr other ↦ record { view = s.view; has = stays (new ∷ []) i j s.view other s.has; storing = s.storing }
    ]

-- more seats come in
pub longer : (views more : List (List SeatView)) (i j : ℕ) (v : SeatView) → HasView views i j v → HasView (views ++ more) i j v
longer views more i j v h = record { parts = h.parts; is_seat = at_longer views more i h.parts h.is_seat; is_part = h.is_part }

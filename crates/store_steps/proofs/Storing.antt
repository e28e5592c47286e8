-- A store: of a word of the cell of a chunk that the seat claims, or of a parent that it is storing.
use Rattle.std.proofs.Common.{◌+◌, ◌≡◌, ◌≢◌, ℕ, ◌*◌, ◌/◌, ◌<◌, true, List, [], ◌∷◌, set, refl, sym, subst, ◌∙◌, arith, ◌||◌, Option, None, Some, is_some, ap}
use Rattle.std.proofs.lemmas.Bool.{both_ways}
use mathlib.Core.Option.{some}
use lib.ListN.{get_elem?}
use Rattle.atomic_table.specs.Table.{State as Table}
use Rattle.holders.specs.declared.fixed.Fixed.{Fixed}
use Rattle.store_core.specs.declared.view.SeatView.{SeatView}
use Rattle.store_core.specs.Histories.{IsLegal, state_after}
use Rattle.store_core.specs.States.{State, claims}
use Rattle.store_core.specs.Views.{names_of, seat_claims, is_storing}
use Rattle.store_core.proofs.Tells.{claims-claimed}
use Rattle.store_steps.specs.Tells.{Stores}
use Rattle.store_steps.specs.Layout.{cell_at, cell_place, parent_at, parent_claim_place, parent_held_place, parent_word_place}
use Rattle.store_steps.specs.Rule.{RuleHolds, FitsParents, StandForParents}
use Rattle.store_steps.proofs.Giving.{not_held}
use Rattle.store_steps.proofs.ParentsStanding.{leaves_low, same_seat}
use Rattle.store_steps.proofs.WrittenWords.{cells_stand, left, stored_more, bits_left}
use Rattle.store_steps.proofs.StepViews.{Steps, claimed_low, fitting, silent_step, claims_now, sound}
use Rattle.store_core.specs.declared.view.StoredWord.{StoredWord}
use Rattle.store_steps.specs.Kinds.{Kind, Owns, chunk_kind, parent_kind, width, word_place}
use Rattle.store_steps.proofs.Keeping.{its, parents_then}
use Rattle.store_steps.proofs.ParentsAside.{aside_step}
use Rattle.store_steps.proofs.Storers.{stores_on}

module _ (fixed : Fixed) (s : Table Unit (List SeatView)) (k : RuleHolds fixed s) (id : ℕ) (view : SeatView) (seat : get_elem? s.views id ≡ some (view ∷ []))
    (chunk w value : ℕ) (cell : w < 129) (claims_it : seat_claims view chunk ≡ true) where
  abbrev number : ℕ
  number = 129 * chunk + w

  ours : seat_claims view (number / 129) ≡ true
  ours = let same : chunk ≡ number / 129 = omega (arith, cell) in subst (λ (k : ℕ). seat_claims view k ≡ true) same claims_it

  abbrev state : State
  state = state_after k.history

  claimed : claims (names_of view) state (number / 129) ≡ true
  claimed = claims_now fixed s k id view seat (number / 129) ∙ ours

  low : number < 129 * fixed.capacity
  low = let below = (sound fixed s k id view seat).claimed_below (number / 129) (claims-claimed (names_of view) state (number / 129) claimed) in omega (arith, below)

  abbrev later : List ℕ
  later = set s.words (cell_place fixed number) value

  stays : (other : ℕ) → other ≢ number → cell_at fixed later other ≡ cell_at fixed s.words other
  stays other differs = left s.words (cell_place fixed number) value (cell_place fixed other) (λ e. differs (omega (arith, e)))

  chunk_steps : Steps fixed s id (cell_place fixed number) value (λ new. Stores chunk_kind chunk w value view new)
  chunk_steps = record {
    new = record view { written = record { number = number; value = value } ∷ view.written };
    kept = silent_step fixed s k id view seat (record { number = number; value = value } ∷ view.written) (cell_place fixed number) value
        (leaves_low fixed s.words (cell_place fixed number) value (omega (arith, low)))
        (cells_stand fixed s.words state k.words number value low (not_held fixed s k id view seat (number / 129) claimed))
        (stored_more (cell_place fixed) (λ g h e. omega (arith, e)) (λ n. claims (names_of view) state (n / 129)) s.words view.written number value (omega (arith, low, k.words.count))
        claimed (fitting fixed s k id view seat).written)
        (λ other c theirs. stays other (λ e. both_ways _ theirs (subst (λ (n : ℕ). claims (names_of view) state (n / 129) ≡ true) (sym e) claimed)));
    told = refl;
  }

module _ (fixed : Fixed) (s : Table Unit (List SeatView)) (k : RuleHolds fixed s) (id : ℕ) (view : SeatView) (seat : get_elem? s.views id ≡ some (view ∷ []))
    (m w value : ℕ) (cell : w < 8) (ours : is_storing view m ≡ true) where
  abbrev place_number : ℕ
  place_number = 8 * m + w

  abbrev place : ℕ
  place = parent_word_place fixed place_number

  abbrev words_after : List ℕ
  words_after = set s.words place value

  abbrev parents : ℕ → Option (List ℕ)
  parents = (state_after k.history).parents

  abbrev words_then : List StoredWord
  words_then = record { number = place_number; value = value } ∷ view.parent_words

  abbrev new : SeatView
  new = record view { storing = view.storing; parent_words = words_then }

  its_old : FitsParents fixed s.words k.parents.storer id 0 view
  its_old = k.parents.fit id 0 view (its fixed s k id view new seat refl)

  owner : k.parents.storer m ≡ Some (id, 0)
  owner = its_old.owned m ours

  none_held : parents m ≡ None
  none_held = k.parents.stand.apart m (ap (λ (o : Option (ℕ × ℕ)). is_some o) owner)

  of_boundary : (other : ℕ) → other ≡ place_number → other / 8 ≡ m
  of_boundary other e = omega (arith, e, cell)

  cells_left : (other : ℕ) → other ≢ place_number → parent_at fixed words_after other ≡ parent_at fixed s.words other
  cells_left other differs = left s.words place value (parent_word_place fixed other) (λ e. differs (omega (arith, e)))

  parents_stand : StandForParents fixed words_after parents k.parents.storer
  parents_stand = record {
    held = bits_left fixed (parent_held_place fixed) s.words (λ n. is_some (parents n)) place value (λ g below e. omega (arith, e, below)) k.parents.stand.held;
    claimed = bits_left fixed (parent_claim_place fixed) s.words (λ n. is_some (parents n) || is_some (k.parents.storer n)) place value
        (λ g below e. omega (arith, e, below)) k.parents.stand.claimed;
    cells = λ n v bytes held below.
        cells_left (8 * n + v) (λ e.
        let same : n ≡ m = omega (arith, e, cell, below) in
        let none : None ≡ Some bytes = sym none_held ∙ ap (λ (x : ℕ). parents x) (sym same) ∙ held in cc)
        ∙ k.parents.stand.cells n v bytes held below;
    apart = k.parents.stand.apart;
  }

  its_fit : FitsParents fixed words_after k.parents.storer id 0 new
  its_fit = record {
    low = its_old.low;
    owned = its_old.owned;
    written = stored_more (parent_word_place fixed) (λ g h e. omega (arith, e)) (λ n. is_storing view (n / 8)) s.words view.parent_words place_number value
        (omega (arith, its_old.low m ours, cell, k.words.count)) (subst (λ (b : ℕ). is_storing view b ≡ true) (sym (of_boundary place_number refl)) ours) its_old.written;
  }

  parent_steps : Steps fixed s id place value (λ new. Stores parent_kind m w value view new)
  parent_steps = record {
    new = new;
    kept = aside_step fixed s k id view seat place value (omega arith) view.storing words_then
        (parents_then fixed s k id view new seat refl words_after parents k.parents.storer parents_stand its_fit (λ b i j other is. is)
        (λ n i j other is. cells_left n (λ e. other (same_seat i j id 0 (sym is ∙ ap (λ (b : ℕ). k.parents.storer b) (of_boundary n e) ∙ owner))))
        (λ b i j is. stores_on s.views id view new seat b (λ h. h) i j (k.parents.by b i j is)));
    told = refl;
  }

pub store_steps : (fixed : Fixed) (s : Table Unit (List SeatView)) → RuleHolds fixed s → (id : ℕ) (view : SeatView) → get_elem? s.views id ≡ some (view ∷ [])
    → (kind : Kind) (item w value : ℕ) → w < width kind → Owns kind view item
    → Steps fixed s id (word_place kind fixed (width kind * item + w)) value (λ new. Stores kind item w value view new)
store_steps fixed s k id view seat chunk_kind item w value below own = chunk_steps fixed s k id view seat item w value below own
store_steps fixed s k id view seat parent_kind item w value below own = parent_steps fixed s k id view seat item w value below own.0

-- what a view may store lies below the capacity
pub owned_low : (kind : Kind) (view : SeatView) → IsLegal view.fixed view.seen → (item : ℕ) → Owns kind view item → item < view.fixed.capacity
owned_low chunk_kind view legal item own = claimed_low view legal item own
owned_low parent_kind view legal item own = own.1

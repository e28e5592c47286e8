-- The rule over the words of a store and all seats' views, which each step preserves.
use Rattle.std.specs.Prelude.{◌≡◌, ℕ, ◌+◌, ◌*◌, ◌/◌, ◌%◌, ◌<◌, Bool, true, ◌||◌, List, [], ◌∷◌, ◌++◌, length, Option, None, Some, is_some, slice_index, Contains}
use mathlib.Core.Option.{some}
use lib.ListN.{get_elem?}
use Rattle.atomic_table.specs.Table.{State as Table}
use Rattle.holders.specs.declared.fixed.Fixed.{Fixed}
use Rattle.store_core.specs.declared.history.Event.{Event}
use Rattle.store_core.specs.declared.view.Named.{Named}
use Rattle.store_core.specs.declared.view.SeatView.{SeatView}
use Rattle.store_core.specs.declared.view.StoredWord.{StoredWord}
use Rattle.store_core.specs.Cells.{cell_word}
use Rattle.store_core.specs.Histories.{AreOfOthers, IsLegal, state_after}
use Rattle.holders.specs.Room.{groups}
use Rattle.store_core.specs.Masks.{has_bit}
use Rattle.store_core.specs.Names.{Name, has_name}
use Rattle.store_core.specs.Orders.{AreInOrder}
use Rattle.store_core.specs.States.{State, claims, is_claimed, is_held}
use Rattle.store_core.specs.Views.{Continues, is_storing, names_of, stored}
use Rattle.store_steps.specs.Kinds.{Kind, chunk_kind, parent_kind, width, word_place}
use Rattle.store_steps.specs.Layout.{cell_at, claim_word, held_word, length_code, length_word, parent_at, parent_claim_word, parent_held_word, parent_word, word_count}

-- The words represent a state. A held word has the bits of the held chunks, and a claim word those of the
-- claimed or held chunks. The cell of a held chunk has its size and bytes.
pub record StandFor (fixed : Fixed) (words : List ℕ) (s : State) : Type 0 where
  pub count : length words ≡ word_count fixed
  pub held : (c : ℕ) → c / 64 < groups fixed → has_bit (held_word words (c / 64)) (c % 64) ≡ is_held s c
  pub claimed : (c : ℕ) → c / 64 < groups fixed → has_bit (claim_word fixed words (c / 64)) (c % 64) ≡ (is_held s c || is_claimed s c)
  pub cells : (c w : ℕ) (bytes : List ℕ) → s.held c ≡ Some bytes → w < 129 → cell_at fixed words (129 * c + w) ≡ cell_word bytes w
  pub recorded : length_word fixed words ≡ length_code s.recorded

-- The words represent the parents that are held or being stored; `storer` says by which view. A held word has
-- the bits of the boundaries whose parents are held, and a claim word those of the boundaries whose parents are
-- held or being stored. No parent is both. The cell of a held parent has its bytes.
pub record StandForParents (fixed : Fixed) (words : List ℕ) (parents : ℕ → Option (List ℕ)) (storer : ℕ → Option (ℕ × ℕ)) : Type 0 where
  pub held : (m : ℕ) → m / 64 < groups fixed → has_bit (parent_held_word fixed words (m / 64)) (m % 64) ≡ is_some (parents m)
  pub claimed : (m : ℕ) → m / 64 < groups fixed → has_bit (parent_claim_word fixed words (m / 64)) (m % 64) ≡ (is_some (parents m) || is_some (storer m))
  pub cells : (m w : ℕ) (bytes : List ℕ) → parents m ≡ Some bytes → w < 8 → parent_at fixed words (8 * m + w) ≡ parent_word bytes w
  pub apart : (m : ℕ) → is_some (storer m) ≡ true → parents m ≡ None

-- Seat `seat` has this view as its part `part`. A seat that was joined to another has no view, and two that are
-- meeting are briefly one seat with two.
pub record HasView (views : List (List SeatView)) (seat part : ℕ) (view : SeatView) : Type 0 where
  pub parts : List SeatView
  pub is_seat : get_elem? views seat ≡ some parts
  pub is_part : get_elem? parts part ≡ some view

-- the words that count as stored are of the view's own items, and are at their places
abbrev pub AreStored : Kind → Fixed → (ℕ → Bool) → List StoredWord → List ℕ → Type 0
AreStored kind fixed own written words = (number value : ℕ) → stored written number ≡ Some value
    → (own (number / width kind) ≡ true) × (slice_index words (word_place kind fixed number) ≡ value)

-- A view fits the history: it is of this store, the history begins with what it has seen, and only calls of
-- others follow. So its calls in the history are those that it has seen, and its claims in the state after the
-- history are those that it knows of. The words that it stored are in the cells of chunks that it claims.
pub record ViewFits (fixed : Fixed) (history : List Event) (words : List ℕ) (view : SeatView) : Type 0 where
  pub fixed_is : view.fixed ≡ fixed
  pub continues : Continues view history
  pub written : AreStored chunk_kind fixed (λ c. claims (names_of view) (state_after history) c) view.written words

-- A view's storing fits: nobody else is storing the same parents, and the words that it stored are in their
-- cells.
pub record FitsParents (fixed : Fixed) (words : List ℕ) (storer : ℕ → Option (ℕ × ℕ)) (seat part : ℕ) (view : SeatView) : Type 0 where
  pub low : (m : ℕ) → is_storing view m ≡ true → m < fixed.capacity
  pub owned : (m : ℕ) → is_storing view m ≡ true → storer m ≡ Some (seat, part)
  pub written : AreStored parent_kind fixed (λ m. is_storing view m) view.parent_words words

-- the view at a place is storing the parent of a boundary
pub record StoresAt (views : List (List SeatView)) (seat part m : ℕ) : Type 0 where
  pub view : SeatView
  pub has : HasView views seat part view
  pub storing : is_storing view m ≡ true

-- The words represent the held parents and those that views are storing. A boundary has a storer exactly if
-- some view is storing its parent, and the storer is that view's place.
pub record AreParentsKept (fixed : Fixed) (words : List ℕ) (views : List (List SeatView)) (parents : ℕ → Option (List ℕ)) : Type 0 where
  pub storer : ℕ → Option (ℕ × ℕ)
  pub stand : StandForParents fixed words parents storer
  pub fit : (seat part : ℕ) (view : SeatView) → HasView views seat part view → FitsParents fixed words storer seat part view
  pub by : (m seat part : ℕ) → storer m ≡ Some (seat, part) → StoresAt views seat part m

-- some view has the name, with this count of splits
pub record IsNamed (views : List (List SeatView)) (named : Named) : Type 0 where
  pub seat : ℕ
  pub part : ℕ
  pub view : SeatView
  pub has : HasView views seat part view
  pub among : Contains view.names named

-- a name that a later split gives, or one derived from it
pub record IsLater (named : Named) (name : Name) : Type 0 where
  pub number : ℕ
  pub rest : Name
  pub is : name ≡ named.name ++ (named.splits + number) ∷ rest

-- each event's caller has a name
abbrev pub HaveCallers : List Event → Type 0
HaveCallers [] = Unit {0}
HaveCallers (e ∷ events) = (0 < length e.who) × HaveCallers events

-- Each view has a name, and its names are in dictionary order, without duplicates. Each name belongs to one
-- view, whose place is its owner. No name that a later split gives is in use or has called. Each call's caller
-- has a name.
pub record AreApart (views : List (List SeatView)) (history : List Event) : Type 0 where
  pub owner : Name → ℕ × ℕ
  pub owned : (seat part : ℕ) (view : SeatView) → HasView views seat part view → (name : Name) → has_name (names_of view) name ≡ true
      → owner name ≡ (seat, part)
  pub named : (seat part : ℕ) (view : SeatView) → HasView views seat part view → 0 < length view.names
  pub ordered : (seat part : ℕ) (view : SeatView) → HasView views seat part view → AreInOrder (names_of view)
  pub new_to_views : (one other : Named) → IsNamed views one → IsNamed views other → IsLater one other.name → ⊥
  pub new_to_calls : (named : Named) → IsNamed views named → (name : Name) → IsLater named name → AreOfOthers (name ∷ []) history
  pub callers : HaveCallers history

-- There is one legal history: the words represent the state after it, each view fits it, and no two views have
-- a common name.
pub record RuleHolds (fixed : Fixed) (table : Table Unit (List SeatView)) : Type 0 where
  pub history : List Event
  pub legal : IsLegal fixed history
  pub words : StandFor fixed table.words (state_after history)
  pub views : (seat part : ℕ) (view : SeatView) → HasView table.views seat part view → ViewFits fixed history table.words view
  pub names : AreApart table.views history
  pub parents : AreParentsKept fixed table.words table.views (state_after history).parents

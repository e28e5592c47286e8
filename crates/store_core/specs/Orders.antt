-- A seat's names are in dictionary order without duplicates, so its least name comes first.
use Rattle.std.specs.Prelude.{◌≡◌, ◌↔◌, true, false, List, [], ◌∷◌, Some}
use Rattle.store_core.specs.declared.view.SeatView.{SeatView}
use Rattle.store_core.specs.Names.{Name, has_name, least_name, name_le, same_name, share_name}
use Rattle.store_core.specs.Views.{IsJoined, names_of, split_first, split_second}

-- a name comes before all of these
abbrev pub ComesBefore : Name → List Name → Type 0
ComesBefore name [] = Unit {0}
ComesBefore name (other ∷ others) = (name_le name other ≡ true) × (same_name name other ≡ false) × ComesBefore name others

abbrev pub AreInOrder : List Name → Type 0
AreInOrder [] = Unit {0}
AreInOrder (name ∷ names) = ComesBefore name names × AreInOrder names

-- The names stay in order after a split, and after a join of two seats without a common name.
abbrev pub SplitKeepsOrder : Type 0
SplitKeepsOrder = (view : SeatView) → AreInOrder (names_of view) → AreInOrder (names_of (split_first view)) × AreInOrder (names_of (split_second view))

abbrev pub JoinKeepsOrder : Type 0
JoinKeepsOrder = (first second joined : SeatView) → IsJoined first second joined → share_name (names_of first) (names_of second) ≡ false
    → AreInOrder (names_of first) → AreInOrder (names_of second) → AreInOrder (names_of joined)

-- a name is the least of a set: it is in it, and comes before or equals each name of it
pub record IsLeast (names : List Name) (name : Name) : Type 0 where
  pub among : has_name names name ≡ true
  pub least : (other : Name) → has_name names other ≡ true → name_le name other ≡ true

-- Among names in order the first is the least, and no other is.
abbrev pub LeastIsOne : Type 0
LeastIsOne = (names : List Name) (name : Name) → AreInOrder names → (least_name names ≡ Some name) ↔ IsLeast names name

-- A set of names has one list in order.
abbrev pub OrderIsOne : Type 0
OrderIsOne = (names others : List Name) → AreInOrder names → AreInOrder others
    → ((name : Name) → has_name names name ≡ has_name others name) → names ≡ others

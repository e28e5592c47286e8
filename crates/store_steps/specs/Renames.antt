-- Seats that join, merge, meet and leave each other. A joined seat counts as one, so claims are renamed.
use Rattle.std.specs.Prelude.{◌≡◌, ◌≢◌, ℕ, ◌==◌, Bool, not, ◌&&◌, if◌then◌else◌, List, [], ◌∷◌, ◌++◌, length, Option, Some, slice_index, slice_set}
use mathlib.Core.Option.{some}
use lib.ListN.{get_elem?}
use Rattle.atomic_table.specs.Table.{State as Table, keeps, stepped}
use Rattle.holders.specs.declared.fixed.Fixed.{Fixed}
use Rattle.store_core.specs.declared.view.SeatView.{SeatView}
use Rattle.store_core.specs.Machine.{Machine, ReadUnderWay, is_number, no_seat}
use Rattle.store_core.specs.Views.{seat_claims}
use Rattle.store_steps.specs.Machines.{IsUnderWay, StandsForMachine}
use Rattle.store_core.specs.Knowledge.{AreMet, IsMerged}
use Rattle.store_steps.specs.Rule.{RuleHolds}
use Rattle.store_steps.specs.Simulates.{after_load}

-- A new seat without a view doesn't change the machine.
abbrev pub EnterStays : Type 0
EnterStays = (fixed : Fixed) (table : Table Unit (List SeatView)) (m : Machine) → RuleHolds fixed table → StandsForMachine fixed table m
    → StandsForMachine fixed (record { words = table.words; homes = table.homes; views = table.views ++ [] ∷ [] }) m

-- The machine in which seat `other` counts as seat `seat`: its claims are that seat's, it has done nothing, and
-- what it wrote no longer counts.
abbrev pub joined_claim : ℕ → ℕ → Option ℕ → Option ℕ
joined_claim seat other o = if is_number other o then Some seat else o

abbrev pub joined_machine : Machine → ℕ → ℕ → Machine
joined_machine m seat other = record m {
  claim = λ c. joined_claim seat other (m.claim c);
  seat = λ n. if n == other then no_seat else m.seat n;
}

-- If a seat takes over another's view, the table represents that machine.
abbrev pub JoinRenames : Type 0
JoinRenames = (fixed : Fixed) (table : Table Unit (List SeatView)) (m : Machine) (seat other : ℕ) (one two : SeatView) → RuleHolds fixed table
    → StandsForMachine fixed table m → get_elem? table.views seat ≡ some (one ∷ []) → get_elem? table.views other ≡ some (two ∷ []) → other ≢ seat
    → StandsForMachine fixed (record {
      words = table.words;
      homes = table.homes;
      views = slice_set (slice_set table.views seat (one ∷ two ∷ [])) other [];
    }) (joined_machine m seat other)

-- A load that merges a seat's two views into one doesn't change the machine, in which the joined seat is
-- already one.
abbrev pub MergeStays : Type 0
MergeStays = (fixed : Fixed) (table : Table Unit (List SeatView)) (m : Machine) (seat place : ℕ) (one two merged : SeatView) → RuleHolds fixed table
    → StandsForMachine fixed table m → get_elem? table.views seat ≡ some (one ∷ two ∷ []) → IsMerged one two merged
    → StandsForMachine fixed (after_load table place seat merged) m

-- A load that gives both views one history doesn't change the machine.
abbrev pub MeetStays : Type 0
MeetStays = (fixed : Fixed) (table : Table Unit (List SeatView)) (m : Machine) (seat place : ℕ) (one two new_one new_two : SeatView) → RuleHolds fixed table
    → StandsForMachine fixed table m → get_elem? table.views seat ≡ some (one ∷ two ∷ []) → AreMet one two new_one new_two
    → StandsForMachine fixed (stepped table place (slice_index table.words place) seat [] (new_one ∷ new_two ∷ []) keeps) m

-- The machine in which a seat leaves what one of its views claims to a new seat. What it wrote of those chunks
-- no longer counts.
abbrev pub left_claim : ℕ → ℕ → Bool → Option ℕ → Option ℕ
left_claim seat new theirs o = if is_number seat o && theirs then Some new else o

abbrev pub left_machine : Machine → ℕ → ℕ → SeatView → Machine
left_machine m seat new view = record m {
  claim = λ c. left_claim seat new (seat_claims view c) (m.claim c);
  seat = λ n. if n == seat then record (m.seat n) { written = λ c w. not (seat_claims view c) && (m.seat n).written c w } else m.seat n;
}

-- If a seat with two views leaves the second to a new seat, and a read in progress is the first one's, the
-- table represents that machine.
abbrev pub LeaveRenames : Type 0
LeaveRenames = (fixed : Fixed) (table : Table Unit (List SeatView)) (m : Machine) (seat : ℕ) (one two : SeatView) → RuleHolds fixed table
    → StandsForMachine fixed table m → get_elem? table.views seat ≡ some (one ∷ two ∷ [])
    → ((r : ReadUnderWay) → (m.seat seat).reading ≡ Some r → IsUnderWay fixed one r)
    → StandsForMachine fixed (record {
      words = table.words;
      homes = table.homes;
      views = slice_set table.views seat (one ∷ []) ++ (two ∷ []) ∷ [];
    }) (left_machine m seat (length table.views) two)

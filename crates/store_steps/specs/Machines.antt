-- Which state of the schedules' machine a table represents, and when a step on its words is one of the
-- machine's.
use Rattle.std.specs.Prelude.{◌≡◌, ℕ, ◌+◌, ◌*◌, ◌/◌, ◌%◌, ◌<◌, ◌≤◌, ◌↔◌, true, ◌||◌, List, [], ◌∷◌, Option, Some, is_some, IfSome, length}
use mathlib.Core.Option.{some}
use lib.ListN.{get_elem?}
use Rattle.atomic_table.specs.Table.{State as Table, keeps, stepped}
use Rattle.bao_check.specs.declared.checked.Checked.{Checked}
use Rattle.holders.specs.declared.fixed.Fixed.{Fixed}
use Rattle.store_core.specs.declared.micro.MicroStep.{MicroStep}
use Rattle.store_core.specs.declared.micro.MicroStep.TheVariants.{Load}
use Rattle.store_core.specs.declared.micro.Reply.{Reply}
use Rattle.store_core.specs.declared.view.SeatView.{SeatView}
use Rattle.store_core.specs.Histories.{state_after}
use Rattle.store_core.specs.Machine.{Machine, ReadUnderWay, is_shown, position}
use Rattle.holders.specs.Room.{groups}
use Rattle.store_core.specs.Masks.{has_bit}
use Rattle.store_core.specs.Schedules.{AreTexts, IsLegalStep, IsReply, after_step}
use Rattle.store_core.specs.MachineInvariant.{IsReadSoFar, IsSoundMachine}
use Rattle.store_core.specs.Views.{seat_claims, stored}
use Rattle.store_steps.specs.Layout.{cell_at, claim_word, held_word, length_code, length_word}
use Rattle.store_steps.specs.Rule.{HasView, RuleHolds}

-- a view of the seat claims the chunk
pub record HasClaim (views : List (List SeatView)) (seat c : ℕ) : Type 0 where
  pub part : ℕ
  pub view : SeatView
  pub has : HasView views seat part view
  pub claims : seat_claims view c ≡ true

-- a view of the seat has stored this value under this number
pub record HasStored (views : List (List SeatView)) (seat number value : ℕ) : Type 0 where
  pub part : ℕ
  pub view : SeatView
  pub has : HasView views seat part view
  pub is : stored view.written number ≡ Some value

-- A read in progress: its bytes were held in what the view has seen, and it continues at an offset that could
-- be held.
pub record IsUnderWay (fixed : Fixed) (view : SeatView) (r : ReadUnderWay) : Type 0 where
  pub part : IsReadSoFar (state_after view.seen) r
  pub more : length r.bytes < r.len
  pub below : position r < 1024 * fixed.capacity

-- the read is in progress for a view of the seat
pub record HasRead (fixed : Fixed) (views : List (List SeatView)) (seat : ℕ) (r : ReadUnderWay) : Type 0 where
  pub part : ℕ
  pub view : SeatView
  pub has : HasView views seat part view
  pub under_way : IsUnderWay fixed view r

-- The words are the machine's, and a claim word has the bits of the chunks that are held or claimed. The
-- machine's seat n is the table's seat n and claims what its views claim, so two joined views count as one
-- seat. Of a chunk that it claims, each word that the machine has as written was stored. Its read in progress
-- is a view's.
pub record StandsForMachine (fixed : Fixed) (table : Table Unit (List SeatView)) (m : Machine) : Type 0 where
  pub served : IsSoundMachine fixed m
  pub cells : (c w : ℕ) → c < fixed.capacity → w < 129 → cell_at fixed table.words (129 * c + w) ≡ m.cell c w
  pub held : (group : ℕ) → group < groups fixed → held_word table.words group ≡ m.held_word group
  pub claimed : (c : ℕ) → c / 64 < groups fixed → has_bit (claim_word fixed table.words (c / 64)) (c % 64) ≡ (is_shown m c || is_some (m.claim c))
  pub recorded : length_word fixed table.words ≡ length_code m.recorded
  pub claims : (seat c : ℕ) → (m.claim c ≡ Some seat) ↔ HasClaim table.views seat c
  pub written : (seat c w : ℕ) → (m.seat seat).written c w ≡ true → m.claim c ≡ Some seat → w < 129 → HasStored table.views seat (129 * c + w) (m.cell c w)
  pub reads : (seat : ℕ) (r : ReadUnderWay) → (m.seat seat).reading ≡ Some r → HasRead fixed table.views seat r

-- Seat `seat`, which has one view, makes a step: word `place` becomes `word`, and `new` is its view. This is
-- the machine's step: it is legal, has this reply, and the table afterwards represents the machine's next
-- state.
pub record IsMachineStep (fixed : Fixed) (pieces : List Checked) (table : Table Unit (List SeatView)) (place word seat : ℕ) (new : SeatView)
    (m : Machine) (step : MicroStep) (reply : Option Reply) : Type 0 where
  pub legal : IsLegalStep fixed pieces m step
  pub right : IsReply fixed m step reply
  pub stands : StandsForMachine fixed (stepped table place word seat [] (new ∷ []) keeps) (after_step fixed pieces m step reply)

-- the seat has no read in progress, or this one
abbrev pub IsReading : Machine → ℕ → ℕ → ℕ → Type 0
IsReading m seat at len = IfSome (m.seat seat).reading (λ r. (r.at ≡ at) × (r.len ≡ len))

-- A load for a read of any length is the machine's Load, with this reply. It is legal up to 65,536 bytes, which
-- is the most that a schedule's read may ask for.
pub record IsMachineLoad (fixed : Fixed) (pieces : List Checked) (table : Table Unit (List SeatView)) (place word seat : ℕ) (new : SeatView)
    (m : Machine) (at len : ℕ) (reply : Option Reply) : Type 0 where
  pub legal : len ≤ 65536 → IsLegalStep fixed pieces m (Load seat at len)
  pub right : IsReply fixed m (Load seat at len) reply
  pub stands : StandsForMachine fixed (stepped table place word seat [] (new ∷ []) keeps) (after_step fixed pieces m (Load seat at len) reply)

-- a seat with one view, in a table that obeys the rule and represents a machine
pub record IsAtMachine (fixed : Fixed) (pieces : List Checked) (table : Table Unit (List SeatView)) (m : Machine) (seat : ℕ) (view : SeatView) : Type 0 where
  pub texts : AreTexts pieces
  pub kept : RuleHolds fixed table
  pub stands : StandsForMachine fixed table m
  pub is_seat : get_elem? table.views seat ≡ some (view ∷ [])

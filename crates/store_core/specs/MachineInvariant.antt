-- The invariant of the schedules' machine.
use Rattle.std.specs.Prelude.{◌≡◌, ℕ, ◌+◌, ◌<◌, ◌≤◌, true, false, length, slice_index, Some}
use Rattle.holders.specs.declared.fixed.Fixed.{Fixed}
use Rattle.holders.specs.declared.piece.Piece.{Piece}
use Rattle.store_core.specs.Cells.{cell_word}
use Rattle.store_core.specs.Laws.{IsSound}
use Rattle.store_core.specs.Machine.{Machine, ReadUnderWay, current_bytes, is_shown, seat_has, store_of}
use Rattle.holders.specs.Pieces.{IsAcceptedPiece}
use Rattle.store_core.specs.States.{State, byte_at}

-- the bytes copied for a read are those at its offsets
pub record IsReadSoFar (s : State) (r : ReadUnderWay) : Type 0 where
  pub within : length r.bytes ≤ r.len
  pub held : (i : ℕ) → i < length r.bytes → byte_at s (r.at + i) ≡ Some (slice_index r.bytes i)

-- A word that counts as written has the value of the seat's current slice while the seat claims the chunk,
-- which it does until the chunk is held. Current slices are accepted.
pub record IsKept (fixed : Fixed) (m : Machine) : Type 0 where
  pub known : (n c w : ℕ) → (m.seat n).written c w ≡ true → is_shown m c ≡ false → seat_has m n c ≡ true
  pub cells : (n c w : ℕ) → (m.seat n).written c w ≡ true → seat_has m n c ≡ true → m.cell c w ≡ cell_word (current_bytes (m.seat n).piece c) w
  pub accepted : (n : ℕ) (piece : Piece) → (m.seat n).piece ≡ Some piece → IsAcceptedPiece fixed piece

pub record IsSoundMachine (fixed : Fixed) (m : Machine) : Type 0 where
  pub sound : IsSound fixed (store_of m)
  pub kept : IsKept fixed m
  pub reads : (n : ℕ) (r : ReadUnderWay) → (m.seat n).reading ≡ Some r → IsReadSoFar (store_of m) r

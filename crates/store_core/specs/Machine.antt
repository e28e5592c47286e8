-- The machine that schedules run on: words in place of chunks, and calls in steps.
use Rattle.std.specs.Prelude.{ℕ, ◌+◌, ◌-◌, ◌*◌, ◌/◌, ◌%◌, zero, suc, nat_le, nat_lt, ◌==◌, Bool, false, ◌&&◌, ◌||◌, if◌then◌else◌, List, [], ◌∷◌, ◌++◌, length, Option, None, Some, is_none, option_map}
use Rattle.holders.specs.declared.fixed.Fixed.{Fixed}
use Rattle.holders.specs.declared.piece.Piece.{Piece}
use Rattle.store_core.specs.Cells.{cell_byte, cell_bytes}
use Rattle.store_core.specs.Masks.{has_bit}
use Rattle.holders.specs.Pieces.{chunk_bytes, holds_chunk}
use Rattle.store_core.specs.States.{State, byte_and}

-- a read in progress: its first offset, its length, and the bytes copied so far
pub record ReadUnderWay : Type 0 where
  pub at : ℕ
  pub len : ℕ
  pub bytes : List ℕ

-- a seat: its current slice, which words of which chunks it wrote from it, and a read in progress
pub record MachineSeat : Type 0 where
  pub piece : Option Piece
  pub written : ℕ → ℕ → Bool
  pub reading : Option ReadUnderWay

-- The words (word w of chunk c's cell, and each group's held word, in which bit j stands for chunk 64 * group +
-- j), the seat that claims each chunk, the recorded length, and the seats.
pub record Machine : Type 0 where
  pub cell : ℕ → ℕ → ℕ
  pub held_word : ℕ → ℕ
  pub claim : ℕ → Option ℕ
  pub recorded : Option ℕ
  pub seat : ℕ → MachineSeat

-- nothing is written, and no seat has done anything
abbrev pub no_seat : MachineSeat
no_seat = record { piece = None; written = λ c w. false; reading = None }

abbrev pub start : Machine
start = record { cell = λ c w. 0; held_word = λ g. 0; claim = λ c. None; recorded = None; seat = λ n. no_seat }

-- whether a chunk's held bit is set
abbrev pub is_shown : Machine → ℕ → Bool
is_shown m c = has_bit (m.held_word (c / 64)) (c % 64)

-- the store that the words represent: the chunks whose held bit is set, with the bytes of their cells; a seat's
-- name is its number
abbrev pub store_of : Machine → State
store_of m = record {
  held = λ c. if is_shown m c then Some (cell_bytes (m.cell c)) else None;
  claim = λ c. option_map (λ n. n ∷ []) (m.claim c);
  recorded = m.recorded;
  parents = λ p. None;
}

-- the machine with the seat of this number replaced
abbrev pub with_seat : Machine → ℕ → MachineSeat → Machine
with_seat m n seat = record m { seat = λ k. if k == n then seat else m.seat k }

-- whether the chunk is claimed by the seat
abbrev pub is_number : ℕ → Option ℕ → Bool
is_number n None = false
is_number n (Some k) = k == n

abbrev pub seat_has : Machine → ℕ → ℕ → Bool
seat_has m n c = is_number n (m.claim c)

-- whether the current slice has the chunk, and its bytes
abbrev pub current_holds : Option Piece → ℕ → Bool
current_holds None c = false
current_holds (Some piece) c = holds_chunk piece c

abbrev pub bytes_or_none : Option (List ℕ) → List ℕ
bytes_or_none None = []
bytes_or_none (Some bytes) = bytes

abbrev pub current_bytes : Option Piece → ℕ → List ℕ
current_bytes None c = []
current_bytes (Some piece) c = bytes_or_none (chunk_bytes piece c)

-- The offset at which a read continues, and the group whose held word the next load reads: the offset's, or
-- group 0 if the offset is at or above 1024 times the capacity or nothing is asked for.
abbrev pub position : ReadUnderWay → ℕ
position r = r.at + length r.bytes

abbrev pub loaded_group : Fixed → ReadUnderWay → ℕ
loaded_group fixed r = if nat_lt (position r) (1024 * fixed.capacity) && nat_lt 0 r.len then position r / 65536 else 0

-- the byte at an offset according to the words
abbrev pub shown_byte : Machine → ℕ → Option ℕ
shown_byte m q =
    if is_shown m (q / 1024) && nat_lt (q % 1024) (m.cell (q / 1024) 0) then Some (cell_byte (m.cell (q / 1024)) (q % 1024)) else None

-- the bytes from offset p on, at most n, as far as they are in the group and held
abbrev pub copied : Machine → ℕ → ℕ → ℕ → List ℕ
copied m group p zero = []
copied m group p (suc n) = if p / 65536 == group then byte_and (shown_byte m p) (copied m group (p + 1) n) else []

-- the read after a load
abbrev pub loaded : Fixed → Machine → ReadUnderWay → ReadUnderWay
loaded fixed m r = record r { bytes = r.bytes ++ copied m (loaded_group fixed r) (position r) (r.len - length r.bytes) }

-- A read ends with all its bytes, at an offset of the loaded group that isn't held, or at one at or above 1024
-- times the capacity.
abbrev pub is_whole : ReadUnderWay → Bool
is_whole r = length r.bytes == r.len

abbrev pub is_over : Fixed → Machine → ℕ → ReadUnderWay → Bool
is_over fixed m group r =
    is_whole r || (((position r / 65536 == group) && is_none (shown_byte m (position r))) || nat_le (1024 * fixed.capacity) (position r))

-- the read that a load continues: the seat's, or a new one
abbrev pub read_of : Option ReadUnderWay → ℕ → ℕ → ReadUnderWay
read_of None at len = record { at = at; len = len; bytes = [] }
read_of (Some r) at len = r

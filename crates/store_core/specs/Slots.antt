-- The slots of chunks, and the state that a list of slots represents. A chunk past the end of the list is free.
use Rattle.std.specs.Prelude.{◌≡◌, ◌+◌, ◌*◌, ◌<◌, length, ℕ, ◌==◌, Bool, true, false, ◌&&◌, List, [], ◌∷◌, Option, None, Some, slice_index_or, ◌/◌, ◌%◌, option_and_then, slice_get}
use Rattle.bao_check.specs.declared.checked.Checked.{Checked}
use Rattle.store_core.specs.declared.slot.Pick.{Pick}
use Rattle.store_core.specs.declared.slot.Pick.TheVariants as kinds
use Rattle.store_core.specs.declared.slot.Slot.{Slot}
use Rattle.store_core.specs.declared.slot.Slot.TheVariants.{Free, Claimed, Held}
use Rattle.store_core.specs.Masks.{has_bit}
use Rattle.store_core.specs.Names.{Name}
use Rattle.holders.specs.Pieces.{chunk_bytes, holds_chunk, piece_of}
use Rattle.store_core.specs.States.{State}

-- the names of the caller with a seat's number
abbrev pub caller : ℕ → List Name
caller seat = (seat ∷ []) ∷ []

abbrev pub held_in : Slot → Option (List ℕ)
held_in Free = None
held_in (Claimed seat) = None
held_in (Held bytes) = Some bytes.items

abbrev pub claim_in : Slot → Option Name
claim_in Free = None
claim_in (Claimed seat) = Some (seat ∷ [])
claim_in (Held bytes) = None

abbrev pub slot_at : List Slot → ℕ → Slot
slot_at slots c = slice_index_or slots c Free

abbrev pub state_in : List Slot → Option ℕ → State
state_in slots recorded = record { held = λ c. held_in (slot_at slots c); claim = λ c. claim_in (slot_at slots c); recorded = recorded; parents = λ m. None }

-- the parent at a boundary
abbrev pub parent_among : List (Option (List ℕ)) → ℕ → Option (List ℕ)
parent_among parents m = slice_index_or parents m None

-- the state with these parents
abbrev pub with_parents : State → List (Option (List ℕ)) → State
with_parents s parents = record s { parents = parent_among parents }

-- the byte at offset q
abbrev pub slot_byte : List Slot → ℕ → Option ℕ
slot_byte slots q = option_and_then (λ bytes. slice_get bytes (q % 1024)) (held_in (slot_at slots (q / 1024)))

-- whether the seat claims the chunk
abbrev pub is_of : ℕ → Slot → Bool
is_of seat Free = false
is_of seat (Claimed n) = n == seat
is_of seat (Held bytes) = false

abbrev pub is_free_slot : Slot → Bool
is_free_slot Free = true
is_free_slot (Claimed n) = false
is_free_slot (Held bytes) = false

-- whether a chunk is one of those that a call is about
abbrev pub picks : Pick → ℕ → Slot → Bool
picks kinds.Free c slot = is_free_slot slot
picks (kinds.Claimed seat) c slot = is_of seat slot
picks (kinds.InPiece seat base piece) c slot = is_of seat slot && holds_chunk (piece_of base piece) c

-- the slot of a chunk that the seat claims, or a free one
abbrev pub claimed_slot : Option ℕ → Slot
claimed_slot None = Free
claimed_slot (Some seat) = Claimed seat

-- The slot is that of chunk c of a store with this base: held with the slice's bytes if the slice has the
-- chunk, and free otherwise.
pub record IsSlotCopy (base : ℕ) (piece : Checked) (c : ℕ) (slot : Slot) : Type 0 where
  pub bytes : held_in slot ≡ chunk_bytes (piece_of base piece) c
  pub unclaimed : claim_in slot ≡ None

-- there are n slots, and those in the mask have the slice's chunks of the group
pub record AreCopies (base : ℕ) (piece : Checked) (group mask n : ℕ) (ready : List Slot) : Type 0 where
  pub count : length ready ≡ n
  pub each : (j : ℕ) → j < n → has_bit mask j ≡ true → IsSlotCopy base piece (64 * group + j) (slot_at ready j)

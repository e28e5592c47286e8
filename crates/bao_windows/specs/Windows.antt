-- Parts of a blob that are gathered, and what is known of their bytes.
use Rattle.std.specs.Prelude.{◌≡◌, ◌⊎◌, ℕ, ◌+◌, ◌-◌, ◌*◌, ◌/◌, ◌<◌, ◌≤◌, min, Bool, true, false, List, ◌++◌, length, take, drop, IfSome, None, Option, Some, slice_get, slice_index, slice_index_or}
use Rattle.std.specs.List.{flat_map}
use Rattle.b3tree.specs.declared.mode.Mode.{Mode}
use Rattle.b3tree.specs.declared.values.Cv.{Cv}
use Rattle.b3tree.specs.Hashing.{hash}
use Rattle.b3tree.specs.Tree.{subtree_cv}
use Rattle.b3tree.specs.Valid.{AreBytes}
use Rattle.bao_check.specs.declared.checked.Checked.{Checked}
use Rattle.bao_check.specs.Checked.{piece_mode, piece_places, piece_root, piece_text}
use Rattle.bao_check.specs.Inputs.{NamesCollision}
use Rattle.bao_check.specs.Pieces.{chunk_in}
use Rattle.bao_text.specs.Nodes.{TreeNode}
use Rattle.bao_windows.specs.declared.fault.GatherFault.{GatherFault}
use Rattle.holders.specs.Blobs.{HasCollision, fixed_as}
use Rattle.holders.specs.Lists.{IsFromSource}
use Rattle.holders.specs.declared.fixed.Fixed.{Fixed}
use Rattle.holders.specs.declared.piece.Piece.{Piece}
use Rattle.holders.specs.Blobs.{IsBlob}
use Rattle.holders.specs.Pieces.{IsAcceptedPiece, piece_of, places_in}
use Rattle.bao_windows.specs.declared.wanted.Wanted.{Wanted}
use Rattle.bao_windows.specs.declared.window.Slot.{Slot}

-- the root and the mode of the blob, from its first chunk on
abbrev pub fixed_for : Wanted → Fixed
fixed_for wanted = fixed_as wanted.root wanted.mode 0

-- the piece is a slice that is cut out of one of the sources, or made of a part of one of them beside the outboard encoding
abbrev pub IsFrom : {S : Type 0} → Wanted → (S → Option (List ℕ)) → (S → Type 0) → List S → Piece → Type 0
IsFrom wanted contents faultless sources = IsFromSource wanted.form contents faultless sources

-- it holds of each of these bytes and its offset, which is `at` for the first
abbrev pub AllAt : (ℕ → ℕ → Type 0) → ℕ → List ℕ → Type 0
AllAt Holds at bytes = (i : ℕ) → i < length bytes → Holds (at + i) (slice_index bytes i)

-- the blob has this byte at this offset, or else P holds
abbrev pub IsAt : List ℕ → Type 0 → ℕ → ℕ → Type 0
IsAt blob P offset byte = (slice_get blob offset ≡ Some byte) ⊎ P

-- a chunk of this encoding has this byte, where the blob's byte at this offset stands
pub record HasByte (text : List ℕ) (places : List (ℕ × TreeNode)) (offset byte : ℕ) : Type 0 where
  pub number : ℕ
  pub index : ℕ
  pub chunk : List ℕ
  pub place : offset ≡ 1024 * number + index
  pub there : chunk_in text places number ≡ Some chunk
  pub is : slice_get chunk index ≡ Some byte

-- A slice that was handed over is accepted under the root, whether or not a blob has that root, and has this byte at this offset of the blob.
pub record IsOfAccepted (handed : Piece → Type 0) (fixed : Fixed) (offset byte : ℕ) : Type 0 where
  pub piece : Piece
  pub from : handed piece
  pub accepted : IsAcceptedPiece fixed piece
  pub has : HasByte piece.text (places_in piece) offset byte

-- Each of these bytes is from a slice that was handed over and is accepted under the root. For each blob with the root it is that blob's byte at its
-- offset, or a collision is exhibited from such a slice.
pub record AreBytesAt (handed : Piece → Type 0) (fixed : Fixed) (at : ℕ) (bytes : List ℕ) : Type 0 where
  pub slices : AllAt (IsOfAccepted handed fixed) at bytes
  pub each : (blob : List ℕ) → IsBlob fixed blob → AllAt (IsAt blob (HasCollision handed fixed blob)) at bytes

-- it is the length of each blob with the root, or a collision is exhibited
abbrev pub IsLengthOfEach : (Piece → Type 0) → Fixed → ℕ → Type 0
IsLengthOfEach handed fixed l = (blob : List ℕ) → IsBlob fixed blob → (l ≡ length blob) ⊎ HasCollision handed fixed blob

-- so many bytes follow, of each blob with the root, from this place on
pub record Adds (handed : Piece → Type 0) (fixed : Fixed) (at len : ℕ) (old new : List ℕ) : Type 0 where
  pub bytes : List ℕ
  pub is : new ≡ old ++ bytes
  pub size : length bytes ≡ len
  pub each : AreBytesAt handed fixed at bytes

-- they do where they were taken, and else nothing does
abbrev pub Takes : Bool → (Piece → Type 0) → Fixed → ℕ → ℕ → List ℕ → List ℕ → Type 0
Takes true handed fixed at len old new = Adds handed fixed at len old new
Takes false handed fixed at len old new = new ≡ old

-- Each of these bytes is a checked piece's. For each blob with its root it is that blob's byte at its offset, or a collision is exhibited from the piece.
pub record AreOfPiece (piece : Checked) (at : ℕ) (bytes : List ℕ) : Type 0 where
  pub chunks : AllAt (HasByte (piece_text piece) (piece_places piece)) at bytes
  pub each : (blob : List ℕ) → AreBytes blob → hash (piece_mode piece) blob ≡ piece_root piece
      → AllAt (IsAt blob (NamesCollision (piece_mode piece) blob (piece_text piece) (piece_places piece))) at bytes

-- an encoding has these bytes as its chunks from this one on
abbrev pub HasChunks : List ℕ → List (ℕ × TreeNode) → ℕ → List ℕ → Type 0
HasChunks text places first bytes = (k : ℕ) → 1024 * k < length bytes → chunk_in text places (first + k) ≡ Some (take 1024 (drop (1024 * k) bytes))

-- so many of a checked piece's bytes follow
pub record AddsOf (piece : Checked) (at len : ℕ) (old new : List ℕ) : Type 0 where
  pub bytes : List ℕ
  pub is : new ≡ old ++ bytes
  pub size : length bytes ≡ len
  pub chunks : HasChunks (piece_text piece) (piece_places piece) (at / 1024) bytes
  pub each : AreOfPiece piece at bytes

-- the chaining value of so many of a checked piece's bytes, those of its chunks from an offset on
abbrev pub IsValueIn : Checked → ℕ → ℕ → Cv → Type 0
IsValueIn piece at len value =
    (bytes : List ℕ) → length bytes ≡ len → HasChunks (piece_text piece) (piece_places piece) (at / 1024) bytes → value.0 ≡ subtree_cv (piece_mode piece) (at / 1024) bytes

-- the chaining value of the bytes that follow, which begin at an offset
abbrev pub IsAddedValue : Mode → ℕ → List ℕ → List ℕ → Cv → Type 0
IsAddedValue mode at old new value = (bytes : List ℕ) → new ≡ old ++ bytes → value.0 ≡ subtree_cv mode (at / 1024) bytes

-- A piece lacks a chunk of those that `len` bytes from a place on begin in: it doesn't hold the chunk, or not with as many bytes as it has of
-- these.
pub record LacksChunk (piece : Piece) (at len : ℕ) : Type 0 where
  pub number : ℕ
  pub from : at ≤ 1024 * number
  pub below : 1024 * number < at + len
  pub lacks : (bytes : List ℕ) → chunk_in piece.text (places_in piece) number ≡ Some bytes → length bytes ≡ min 1024 (at + len - 1024 * number) → ⊥

-- so many bytes of the piece follow, or nothing does, since it lacks a chunk of them
abbrev pub TakesOf : Bool → Checked → ℕ → ℕ → List ℕ → List ℕ → Type 0
TakesOf true piece at len old new = AddsOf piece at len old new
TakesOf false piece at len old new = (new ≡ old) × LacksChunk (piece_of 0 piece) at len

-- the bytes of a window: those of its slots, one after another
abbrev pub window_bytes : List Slot → List ℕ
window_bytes window = flat_map (λ slot. slot.bytes.items) window

-- the chaining value of the group of these bytes, which begins at an offset, unless the blob, of `total` bytes, ends with it
pub record IsValue (mode : Mode) (at total : ℕ) (bytes : List ℕ) (value : Option Cv) : Type 0 where
  pub some : IfSome value (λ value. (at + 65536 < total) × (value.0 ≡ subtree_cv mode (at / 1024) bytes))
  pub none : value ≡ None → total ≤ at + 65536

-- the slot has as many bytes as a blob of `total` bytes has in the group that begins at an offset, and their value
pub record IsValued (slot : Slot) (mode : Mode) (at total : ℕ) : Type 0 where
  pub size : length slot.bytes.items ≡ min 65536 (total - at)
  pub value : IsValue mode at total slot.bytes.items slot.value

-- each slot of a window that begins at an offset has
abbrev pub AreValued : List Slot → Mode → ℕ → ℕ → Type 0
AreValued window mode start total = (i : ℕ) (d : Slot) → i < length window → IsValued (slice_index_or window i d) mode (start + 65536 * i) total

-- the slot with this number has the bytes of its group
pub record IsOfSlot (handed : Piece → Type 0) (fixed : Fixed) (start total number : ℕ) (slot : Slot) : Type 0 where
  pub valued : IsValued slot fixed.mode (start + 65536 * number) total
  pub each : AreBytesAt handed fixed (start + 65536 * number) slot.bytes.items

-- the bytes of a window that begins at a place are those of a blob of `total` bytes there, as far as it has slots and the blob goes
pub record AreOfWindow (handed : Piece → Type 0) (fixed : Fixed) (start total : ℕ) (window : List Slot) : Type 0 where
  pub valued : AreValued window fixed.mode start total
  pub size : length (window_bytes window) ≡ min (65536 * length window) (total - start)
  pub each : AreBytesAt handed fixed start (window_bytes window)

-- the source that has its turn, where so many are asked in a round that begins with the first
pub record IsInTurn (first count turn place : ℕ) : Type 0 where
  pub up : first + turn < count → place ≡ first + turn
  pub over : count ≤ first + turn → place + count ≡ first + turn

-- one of the window's slots has this fault
pub record HasFault (window : List Slot) (fault : GatherFault) : Type 0 where
  pub number : ℕ
  pub slot : Slot
  pub below : number < length window
  pub there : slice_index_or window number slot ≡ slot
  pub is : slot.fault ≡ Some fault

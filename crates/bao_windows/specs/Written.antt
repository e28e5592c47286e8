-- What is written of a blob of any length, window by window.
use Rattle.std.specs.Prelude.{◌≡◌, ◌⊎◌, ℕ, ◌%◌, ◌^◌, ◌<◌, ◌≤◌, List, [], ◌++◌, length, min, take, IfErr, MatchResult, OnOk, Option, Result}
use Rattle.std.specs.Io.KnownBytes.{Appends}
use Rattle.b3tree.specs.declared.hasher.Hasher.{Hasher}
use Rattle.b3tree.specs.declared.mode.Mode.{Mode}
use Rattle.b3tree.specs.Hashing.{hash}
use Rattle.b3tree.specs.Taken.{Holds, Splits}
use Rattle.b3tree.specs.Valid.{AreBytes}
use Rattle.bao_text.specs.Choice.{chunk_count}
use Rattle.bao_windows.specs.declared.fault.GatherFault.TheVariants.{Memory, NotTheRoot, Starved, TooLarge, Unfinished}
use Rattle.bao_windows.specs.Faults.{IsExcused}
use Rattle.holders.specs.Blobs.{AreTheBlob, HasCollision}
use Rattle.holders.specs.declared.fixed.Fixed.{Fixed}
use Rattle.holders.specs.declared.piece.Piece.{Piece}
use Rattle.holders.specs.Blobs.{IsBlob}
use Rattle.bao_windows.specs.declared.fault.WindowsFault.{WindowsFault}
use Rattle.bao_windows.specs.declared.fault.WindowsFault.TheVariants.{Gather, Write}
use Rattle.bao_windows.specs.declared.wanted.Wanted.{Wanted}
use Rattle.bao_windows.specs.declared.window.Slot.{Slot}
use Rattle.bao_windows.specs.Windows.{AreBytesAt, AreValued, fixed_for, window_bytes}

-- A hasher has taken in these bytes, with which a blob of `total` bytes begins: whole subtrees until all came, since the last bytes stay in its buffer.
pub record HasTaken (mode : Mode) (total : ℕ) (hasher : Hasher) (bytes : List ℕ) : Type 0 where
  pub part : length bytes < total → Splits hasher mode bytes []
  pub all : total ≤ length bytes → Holds hasher mode bytes

-- it took these in, after what the blob has before an offset
abbrev pub TookIn : Mode → ℕ → ℕ → Hasher → Hasher → List ℕ → Type 0
TookIn mode total at old new bytes = (s : List ℕ) → length s ≡ min at total → HasTaken mode total old s → HasTaken mode total new (s ++ bytes)

-- it took these in, the bytes of slots of which this is so at their offset in a blob of some length
abbrev pub Took : (Mode → ℕ → ℕ → Type 0) → Hasher → Hasher → List ℕ → Type 0
Took Are old new bytes = (mode : Mode) (at total : ℕ) → Are mode at total → TookIn mode total at old new bytes

-- the hasher has taken in what the blob has before an offset
abbrev pub HasTakenTo : Mode → ℕ → ℕ → Hasher → Type 0
HasTakenTo mode total at hasher = (s : List ℕ) × (length s ≡ min at total) × HasTaken mode total hasher s

-- it has, and of slots that come next this is so
pub record AreNext (Are : Mode → ℕ → ℕ → Type 0) (hasher : Hasher) : Type 0 where
  pub mode : Mode
  pub at : ℕ
  pub total : ℕ
  pub are : Are mode at total
  pub taken : HasTakenTo mode total at hasher
  pub aligned : at % 65536 ≡ 0
  pub fits : total < 2 ^ 64

-- These bytes, numbers below 256, from an offset on, are from slices that are accepted under the root, and those of each blob with it; they were written,
-- and taken into the hash.
pub record IsWritten (handed : Piece → Type 0) (fixed : Fixed) (total at : ℕ) (bytes : List ℕ) (old new : Option (List ℕ)) (before after : Hasher) : Type 0 where
  pub are : AreBytes bytes
  pub each : AreBytesAt handed fixed at bytes
  pub wrote : Appends old new bytes
  pub took : TookIn fixed.mode total at before after bytes

-- so many bytes were
abbrev pub WroteOf : (Piece → Type 0) → Fixed → ℕ → ℕ → ℕ → Option (List ℕ) → Option (List ℕ) → Hasher → Hasher → Type 0
WroteOf handed fixed total at len old new before after = (bytes : List ℕ) × (length bytes ≡ len) × IsWritten handed fixed total at bytes old new before after

-- What was written is from slices that are accepted under the root, each byte; and they are bytes of each blob with the root, from this offset on, or a
-- collision is exhibited.
abbrev pub IsBegun : (Piece → Type 0) → Fixed → ℕ → Option (List ℕ) → Option (List ℕ) → Type 0
IsBegun handed fixed at old new = (bytes : List ℕ) × AreBytesAt handed fixed at bytes × Appends old new bytes

-- a beginning of these bytes was written
abbrev pub WroteBeginning : Option (List ℕ) → Option (List ℕ) → List ℕ → Type 0
WroteBeginning old new bytes = (count : ℕ) × (count ≤ length bytes) × Appends old new (take count bytes)

-- The bytes of a window were to be taken into the hash and written: they were, or a beginning was written, since writing failed.
pub record IsPut (window : List Slot) (old new : Option (List ℕ)) (before after : Hasher) (result : Result Unit WindowsFault) : Type 0 where
  pub are : AreBytes (window_bytes window)
  pub took : Took (AreValued window) before after (window_bytes window)
  pub text : OnOk result (Appends old new (window_bytes window))
  pub begun : WroteBeginning old new (window_bytes window)
  pub fault : IfErr result (λ fault. fault ≡ Write)

-- a blob of `count` bytes with the root, and of no more chunks than these, was written; it is each blob with the root, or a collision is exhibited
abbrev pub WroteBlob : (Piece → Type 0) → Wanted → ℕ → Option (List ℕ) → Option (List ℕ) → ℕ → Type 0
WroteBlob handed wanted capacity old new count =
    (blob : List ℕ) × (hash wanted.mode blob ≡ wanted.root.0) × (chunk_count (length blob) ≤ capacity) × (count ≡ length blob)
    × AreTheBlob handed (fixed_for wanted) blob × Appends old new blob × AreBytes blob

-- so many bytes of each blob with the root, from the first on, were, and their hash is the root
abbrev pub WroteAll : (Piece → Type 0) → Wanted → ℕ → Option (List ℕ) → Option (List ℕ) → Type 0
WroteAll handed wanted total old new =
    (bytes : List ℕ) × (hash wanted.mode bytes ≡ wanted.root.0) × (length bytes ≡ total) × AreBytesAt handed (fixed_for wanted) 0 bytes × Appends old new bytes
    × AreBytes bytes

-- no source has some part of a window, or there is no memory, or writing failed
abbrev pub IsOfWindow : WindowsFault → Type 0
IsOfWindow fault = (fault ≡ Gather Unfinished) ⊎ (fault ≡ Gather Starved) ⊎ (fault ≡ Write)

-- or what was written hasn't the root
abbrev pub IsOfWriting : WindowsFault → Type 0
IsOfWriting fault = IsOfWindow fault ⊎ (fault ≡ Gather NotTheRoot)

-- or the blob is too long, or there is no memory for a window: why no blob was written
abbrev pub IsOfWindows : WindowsFault → Type 0
IsOfWindows fault = IsOfWriting fault ⊎ (fault ≡ Gather TooLarge) ⊎ (fault ≡ Gather Memory)

-- the fault isn't one of what was gathered from
abbrev pub IsExcusedWrite : WindowsFault → Type 0
IsExcusedWrite (Gather fault) = IsExcused fault
IsExcusedWrite Write = Unit {0}

-- this blob was written, or the fault isn't one of what was gathered from
abbrev pub IsWrittenOut : List ℕ → Option (List ℕ) → Option (List ℕ) → Result ℕ WindowsFault → Type 0
IsWrittenOut blob old new result = MatchResult result (λ count. (count ≡ length blob) × Appends old new blob) IsExcusedWrite

-- each blob with the root has more chunks than these, or a collision is exhibited
abbrev pub AreTooLong : (Piece → Type 0) → Fixed → ℕ → Type 0
AreTooLong handed fixed capacity = (blob : List ℕ) → IsBlob fixed blob → (capacity < chunk_count (length blob)) ⊎ HasCollision handed fixed blob

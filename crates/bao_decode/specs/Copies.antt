-- a plain copy beside an outboard encoding
use Rattle.std.specs.Borrow.{Bor}
use Rattle.std.specs.Prelude.{◌≡◌, ◌⊎◌, ℕ, List, length, Option, Result, Ok, Err}
use Rattle.std.specs.Io.KnownBytes.{Appends, Keeps}
use Rattle.b3tree.specs.declared.mode.Mode.{Mode}
use Rattle.bao_text.specs.Choice.{chunk_count}
use Rattle.bao_text.specs.Cut.{claimed}
use Rattle.bao_check.specs.Accepted.{IsAccepted, outboard_nodes}
use Rattle.bao_check.specs.Bare.{AreBare, IsBareFault}
use Rattle.bao_check.specs.Faults.{IsFirstFault}
use Rattle.bao_check.specs.declared.outline.Outline.{Outline}
use Rattle.bao_check.specs.declared.fault.CheckFault.{CheckFault}
use Rattle.bao_files.specs.Disks.{FileState, Unknown, Absent, Stored}
use Rattle.bao_files.specs.Printed.{AppendsBeginning}
use Rattle.bao_files.specs.declared.fault.FileFault.TheVariants.{Memory, Read, Write}
use Rattle.bao_decode.specs.declared.decode_fault.DecodeFault.{DecodeFault}
use Rattle.bao_decode.specs.declared.decode_fault.DecodeFault.TheVariants.{Check, File}
use Rattle.bao_decode.specs.CopyPass.{IsCopyFault, IsGoodCopy, IsVerifiedCopy}

-- the one encoding is accepted as an outboard encoding under the root, and the bytes are, beside it, all chunks of the length that it claims
abbrev pub IsCopyBeside : Mode → List ℕ → List ℕ → List ℕ → Type 0
IsCopyBeside mode root outline bytes = IsAccepted mode root outline (outboard_nodes outline) × AreBare mode root outline 0 (chunk_count (claimed outline)) bytes

-- the copy's first fault, and nothing was written; or no memory, and nothing was; or a read answered a fault, which one that never
-- fails doesn't; or the copy is accepted, and writing to the other path failed
abbrev pub LeavesCopy : Outline → Type 0 → List ℕ → Bor (List ℕ) → Bor (List ℕ) → Option (List ℕ) → Option (List ℕ) → DecodeFault → Type 0
LeavesCopy outline faultless copy file path old new (File fault) =
    ((fault ≡ Memory) × Keeps old new)
    ⊎ ((fault ≡ Read file) × (¬ faultless) × AppendsBeginning old new copy)
    ⊎ ((fault ≡ Write path) × IsGoodCopy outline copy × AppendsBeginning old new copy)
LeavesCopy outline faultless copy file path old new (Check fault) = IsCopyFault outline copy fault × Keeps old new

-- a copy of these bytes was accepted and written, or not
abbrev pub CopiesKnown : Outline → Type 0 → List ℕ → Bor (List ℕ) → Bor (List ℕ) → Option (List ℕ) → Option (List ℕ) → Result ℕ DecodeFault → Type 0
CopiesKnown outline faultless copy file path old new (Ok count) = IsVerifiedCopy outline copy × (count ≡ length copy) × Appends old new copy
CopiesKnown outline faultless copy file path old new (Err fault) = LeavesCopy outline faultless copy file path old new fault

-- what is known of a fault where the copy's bytes aren't: nothing was written of one that was refused, nor out of memory
abbrev pub LeavesUnknown : Bor (List ℕ) → Bor (List ℕ) → Option (List ℕ) → Option (List ℕ) → DecodeFault → Type 0
LeavesUnknown file path old new (File fault) = ((fault ≡ Memory) × Keeps old new) ⊎ (fault ≡ Read file) ⊎ (fault ≡ Write path)
LeavesUnknown file path old new (Check fault) = Keeps old new

-- what a fault says of a copy of these bytes: there was no memory; or a read of it answered a fault, which one that never fails doesn't; or the copy
-- is accepted, and writing to the other path failed; or this is the copy's first fault
abbrev pub CopyStops : Outline → Type 0 → List ℕ → Bor (List ℕ) → Bor (List ℕ) → DecodeFault → Type 0
CopyStops outline faultless copy file path (File fault) = (fault ≡ Memory) ⊎ ((fault ≡ Read file) × ¬ faultless) ⊎ ((fault ≡ Write path) × IsGoodCopy outline copy)
CopyStops outline faultless copy file path (Check fault) = IsCopyFault outline copy fault

-- what it says of an outboard encoding and of a copy in files, on a disk of which no read fails that is without faults: writing failed, and both are
-- accepted; or this is the first fault of the encoding; or that is accepted, and this is the first fault of the copy beside it
abbrev pub BesideStops : Mode → List ℕ → Type 0 → List ℕ → List ℕ → Bor (List ℕ) → Bor (List ℕ) → Bor (List ℕ) → DecodeFault → Type 0
BesideStops mode root faultless outline copy outboard file path (File fault) =
    (fault ≡ Memory) ⊎ ((fault ≡ Read outboard) × ¬ faultless) ⊎ ((fault ≡ Read file) × ¬ faultless) ⊎ ((fault ≡ Write path) × IsCopyBeside mode root outline copy)
BesideStops mode root faultless outline copy outboard file path (Check fault) =
    IsFirstFault mode root outline (outboard_nodes outline) fault
    ⊎ (IsAccepted mode root outline (outboard_nodes outline) × IsBareFault mode root outline 0 (chunk_count (claimed outline)) copy fault)

-- it says that the outboard encoding can't be read, or it is the first fault of its bytes, as far as these are known
abbrev pub IsOfOutboard : FileState → Mode → List ℕ → Bor (List ℕ) → DecodeFault → Type 0
IsOfOutboard state mode root outboard (File fault) = fault ≡ Read outboard
IsOfOutboard state mode root outboard (Check fault) = (outline : List ℕ) → state ≡ Stored outline → IsFirstFault mode root outline (outboard_nodes outline) fault

-- What was read of an outboard encoding is enough to tell whether it is accepted, and its first fault.
pub record IsEnough (mode : Mode) (root all text : List ℕ) : Type 0 where
  pub whole : IsAccepted mode root text (outboard_nodes text) → text ≡ all
  pub fault : (fault : CheckFault) → IsFirstFault mode root text (outboard_nodes text) fault → IsFirstFault mode root all (outboard_nodes all) fault

-- the same, where it is known what is there
abbrev pub IsEnoughOf : Mode → List ℕ → FileState → List ℕ → Type 0
IsEnoughOf mode root Unknown text = Unit {0}
IsEnoughOf mode root Absent text = ⊥
IsEnoughOf mode root (Stored all) text = IsEnough mode root all text

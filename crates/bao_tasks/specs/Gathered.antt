-- What is written of a gathered blob.
use Rattle.std.specs.Borrow.{Bor}
use Rattle.std.specs.Prelude.{if◌then◌else◌, ◌≡◌, ◌⊎◌, ℕ, ◌*◌, ◌≤◌, Bool, true, false, List, MatchResult, Option, Result, length}
use Rattle.std.specs.Io.KnownBytes.{Appends, Keeps}
use Rattle.b3tree.specs.declared.mode.Mode.{Mode}
use Rattle.b3tree.specs.Hashing.{hash}
use Rattle.b3tree.specs.Valid.{AreBytes}
use Rattle.bao_text.specs.Texts.{combined_text}
use Rattle.bao_check.specs.Accepted.{IsAccepted, outboard_nodes}
use Rattle.bao_windows.specs.Faults.{IsExcused}
use Rattle.holders.specs.Blobs.{HasCollision}
use Rattle.holders.specs.declared.fixed.Fixed.{Fixed}
use Rattle.holders.specs.declared.piece.Piece.{Piece}
use Rattle.bao_files.specs.declared.fault.FileFault.{FileFault}
use Rattle.bao_files.specs.declared.fault.FileFault.TheVariants.{Encoding, Write}
use Rattle.bao_tasks.specs.declared.gathered_fault.GatheredFault.{GatheredFault}
use Rattle.bao_tasks.specs.declared.gathered_fault.GatheredFault.TheVariants.{File, Gather, Outboard}
use Rattle.bao_tasks.specs.declared.gathering.Gathering.{Gathering}
use Rattle.bao_check.specs.Faults.{IsFirstFault}
use Rattle.bao_files.specs.Disks.{AreOf, FileState, Stored}
use Rattle.bao_files.specs.Printed.{AppendsBeginning}

-- what is written of a blob: its combined encoding, or its bytes
abbrev pub gathered_text : Bool → Mode → List ℕ → List ℕ
gathered_text encode mode blob = if encode then combined_text mode blob else blob

-- a blob of n bytes may have any length, or has at most as many bytes as the capacity has in chunks
abbrev pub Fits : Bool → ℕ → ℕ → Type 0
Fits true capacity n = Unit {0}
Fits false capacity n = n ≤ 1024 * capacity

-- the blob has this root, fits, and is made of bytes: numbers below 256
abbrev pub HasRootAndFits : Gathering → Mode → List ℕ → List ℕ → Type 0
HasRootAndFits how mode root blob = (hash mode blob ≡ root) × Fits how.long how.capacity (length blob) × AreBytes blob

-- memory for the encoding was refused and nothing was written, or writing to this path failed after a beginning of the text
abbrev pub IsUnwritten : Bor (List ℕ) → List ℕ → Option (List ℕ) → Option (List ℕ) → FileFault → Type 0
IsUnwritten path text old new fault = ((fault ≡ Encoding) × Keeps old new) ⊎ ((fault ≡ Write path) × AppendsBeginning old new text)

-- the fault isn't the sources'
abbrev pub IsExcusedWrite : GatheredFault → Type 0
IsExcusedWrite (File fault) = Unit {0}
IsExcusedWrite (Outboard fault) = ⊥
IsExcusedWrite (Gather fault) = IsExcused fault

-- this blob, or its encoding, was written, or the fault isn't the sources', or a collision is exhibited from the blob and a slice that was supplied
abbrev pub IsWrittenOut : (Piece → Type 0) → Fixed → Bool → List ℕ → Option (List ℕ) → Option (List ℕ) → Result ℕ GatheredFault → Type 0
IsWrittenOut handed fixed encode blob old new result =
    MatchResult result (λ count. (count ≡ length blob) × Appends old new (gathered_text encode fixed.mode blob)) IsExcusedWrite ⊎ HasCollision handed fixed blob

-- the bytes of the file, if they are known, are accepted as the outboard encoding of a blob with this root
abbrev pub HasOutlineIn : FileState → Mode → List ℕ → Type 0
HasOutlineIn state mode root = (text : List ℕ) × AreOf state text × IsAccepted mode root text (outboard_nodes text)

-- a fault of the outboard encoding is the first fault of the file's bytes, if they are known
abbrev pub IsFaultOfOutline : FileState → Mode → List ℕ → GatheredFault → Type 0
IsFaultOfOutline state mode root (File fault) = Unit {0}
IsFaultOfOutline state mode root (Outboard fault) = (text : List ℕ) → state ≡ Stored text → IsFirstFault mode root text (outboard_nodes text) fault
IsFaultOfOutline state mode root (Gather fault) = Unit {0}

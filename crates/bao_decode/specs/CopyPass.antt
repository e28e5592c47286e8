-- What a pass over a plain copy has verified and written, beside an outline.
use Rattle.std.specs.Borrow.{Bor}
use Rattle.std.specs.Prelude.{◌≡◌, ℕ, ◌+◌, ◌-◌, ◌*◌, ◌^◌, ◌<◌, ◌≤◌, min, List, length, Option, IfSome}
use Rattle.b3tree.specs.Valid.{AreBytes}
use Rattle.bao_check.specs.Bare.{AreBare, AreGoodBare, IsBareFault}
use Rattle.bao_check.specs.declared.fault.CheckFault.{CheckFault}
use Rattle.bao_check.specs.declared.fault.CheckFault.TheVariants as check
use Rattle.bao_check.specs.declared.outline.Outline.{Outline}
use Rattle.bao_check.specs.Outline.{outline_claimed, outline_mode, outline_root, outline_text}
use Rattle.bao_files.specs.Printed.{AppendsBeginning}
use Rattle.bao_files.specs.declared.fault.FileFault.TheVariants.{Memory, Read, Write}
use Rattle.b3par.specs.Given.{GivenAt}
use Rattle.bao_text.specs.Choice.{chunk_count}
use Rattle.bao_decode.specs.declared.decode_fault.DecodeFault.{DecodeFault}
use Rattle.bao_decode.specs.declared.decode_fault.DecodeFault.TheVariants as decode
use Rattle.bao_decode.specs.declared.copy_pass.PassFault.{PassFault}
use Rattle.bao_decode.specs.declared.copy_pass.PassFault.TheVariants.{Check, Input, Output}

-- the fault of a piece that begins at the place `start`, as a fault of the copy
abbrev pub fault_from : ℕ → CheckFault → CheckFault
fault_from start (check.Short at) = check.Short (min (start + at) (2 ^ 64 - 1))
fault_from start (check.Mismatch at) = check.Mismatch (min (start + at) (2 ^ 64 - 1))
fault_from start (check.Trailing at) = check.Trailing (min (start + at) (2 ^ 64 - 1))
fault_from start check.Memory = check.Memory
fault_from start check.Reader = check.Reader

-- the bytes are, beside the outline, all chunks of the length that it claims
abbrev pub IsGoodCopy : Outline → List ℕ → Type 0
IsGoodCopy outline bytes = AreBare (outline_mode outline) (outline_root outline) (outline_text outline) 0 (chunk_count (outline_claimed outline)) bytes

-- they are, and each is a number below 256
abbrev pub IsVerifiedCopy : Outline → List ℕ → Type 0
IsVerifiedCopy outline bytes = IsGoodCopy outline bytes × AreBytes bytes

-- this is the first fault of bytes that aren't good
abbrev pub IsCopyFault : Outline → List ℕ → CheckFault → Type 0
IsCopyFault outline bytes fault = IsBareFault (outline_mode outline) (outline_root outline) (outline_text outline) 0 (chunk_count (outline_claimed outline)) bytes fault

-- the chunks before chunk `next` are good
abbrev pub IsGoodBefore : Outline → List ℕ → ℕ → Type 0
IsGoodBefore outline bytes next = AreGoodBare (outline_mode outline) (outline_root outline) (outline_text outline) 0 bytes next

-- so many chunks from chunk `first` on were read and verified; after the last of all chunks nothing follows
pub record IsPieceOf (contents : Option (List ℕ)) (outline : Outline) (first count : ℕ) (piece : List ℕ) : Type 0 where
  pub are : AreBare (outline_mode outline) (outline_root outline) (outline_text outline) first count piece
  pub each : AreBytes piece
  pub given : GivenAt contents (1024 * first) piece
  pub ends : first + count ≡ chunk_count (outline_claimed outline) → IfSome contents (λ s. length s ≤ outline_claimed outline)

-- a piece that begins with chunk `first` was refused: where all chunks before are good, by the copy's first fault
abbrev pub PieceStops : Option (List ℕ) → Type 0 → Outline → ℕ → PassFault → Type 0
PieceStops contents faultless outline first (Check fault) = IfSome contents (λ s. IsGoodBefore outline s first → IsCopyFault outline s fault)
PieceStops contents faultless outline first Input = ¬ faultless
PieceStops contents faultless outline first Output = ⊥

-- all of a copy was verified, and it is the contents, where these are known
pub record IsWholeCopy (contents : Option (List ℕ)) (outline : Outline) (bytes : List ℕ) : Type 0 where
  pub are : IsGoodCopy outline bytes
  pub each : AreBytes bytes
  pub known : IfSome contents (λ s. bytes ≡ s)

-- what a pass over a copy of these bytes leaves, where it ends early
abbrev pub PassStops : Outline → Type 0 → List ℕ → Option (List ℕ) → Option (List ℕ) → PassFault → Type 0
PassStops outline faultless s old new (Check fault) = IsCopyFault outline s fault × AppendsBeginning old new s
PassStops outline faultless s old new Input = (¬ faultless) × AppendsBeginning old new s
PassStops outline faultless s old new Output = AppendsBeginning old new s

-- the program's fault, where the first pass over the copy at this path ends so
abbrev pub first_fault_of : Bor (List ℕ) → PassFault → DecodeFault
first_fault_of file (Check fault) = decode.Check fault
first_fault_of file Input = decode.File (Read file)
first_fault_of file Output = decode.File Memory

-- and the second, which writes to the other path
abbrev pub second_fault_of : Bor (List ℕ) → Bor (List ℕ) → PassFault → DecodeFault
second_fault_of file path (Check fault) = decode.File (Read file)
second_fault_of file path Input = decode.File (Read file)
second_fault_of file path Output = decode.File (Write path)

-- why the length at an encoding's start wasn't read: it isn't wholly there, or a read answered a fault, as none of a faultless source does
abbrev pub StopsShort : Option (List ℕ) → Type 0 → PassFault → Type 0
StopsShort contents faultless (Check fault) = (fault ≡ check.Short 0) × IfSome contents (λ s. length s < 8)
StopsShort contents faultless Input = ¬ faultless
StopsShort contents faultless Output = ⊥

-- What a pass over an encoding has verified, and written of a part of the blob.
use Rattle.std.specs.Borrow.{Bor}
use Rattle.std.specs.Prelude.{◌≡◌, ◌⊎◌, ℕ, ◌+◌, ◌^◌, ◌<◌, ◌≤◌, List, ◌++◌, length, take, Option, None, IfErr, IfOk, IfSome, Result, Ok, Err}
use Rattle.std.specs.Io.KnownBytes.{Appends, Keeps}
use Rattle.b3tree.specs.declared.mode.Mode.{Mode}
use Rattle.b3tree.specs.Valid.{AreBytes}
use Rattle.b3par.specs.Given.{GivenAt}
use Rattle.bao_check.specs.Checking.{HasDecodedAs, HasTakenAs}
use Rattle.bao_check.specs.Decoded.{decoded}
use Rattle.bao_check.specs.declared.checking.Checking.{Checking}
use Rattle.bao_check.specs.declared.checking.Decoded.{Decoded}
use Rattle.bao_check.specs.declared.fault.CheckFault.{CheckFault}
use Rattle.bao_check.specs.declared.fault.CheckFault.TheVariants as check
use Rattle.bao_check.specs.Waiting.{CheckTask, IsAcceptedAs, IsFaultAs}
use Rattle.bao_files.specs.Printed.{AppendsBeginning}
use Rattle.bao_files.specs.declared.fault.FileFault.TheVariants.{Memory, Read, Write}
use Rattle.bao_text.specs.declared.kinds.Part.{Part}
use Rattle.bao_decode.specs.declared.copy_pass.PassFault.{PassFault}
use Rattle.bao_decode.specs.declared.copy_pass.PassFault.TheVariants.{Check, Input, Output}
use Rattle.bao_decode.specs.declared.decode_fault.DecodeFault.{DecodeFault}
use Rattle.bao_decode.specs.declared.text_pass.Blocks.{Blocks}
use Rattle.bao_decode.specs.declared.decode_fault.DecodeFault.TheVariants as decode
use Rattle.bao_decode.specs.Ranges.{IsPartText, IsVerifiedText, part_bytes, part_len, part_start, written_count}

-- what an encoding of the part is checked as
abbrev pub task_of_part : Mode → List ℕ → Part → CheckTask
task_of_part mode root part = record { mode = mode; root = root; start = part_start part; len = part_len part }

-- this is the first fault of an encoding, or it is longer than any file
abbrev pub IsTextFault : CheckTask → List ℕ → CheckFault → Type 0
IsTextFault task text fault = IsFaultAs task text fault ⊎ ((fault ≡ check.Memory) × (2 ^ 63 < length text))

-- why a pass over these bytes ended before it wrote: by their first fault, or by a read, as none of a faultless source does
abbrev pub StopsAs : CheckTask → Type 0 → List ℕ → PassFault → Type 0
StopsAs task faultless text (Check fault) = IsTextFault task text fault
StopsAs task faultless text Input = ¬ faultless
StopsAs task faultless text Output = ⊥

-- all of an encoding was verified, it is made of bytes, no longer than any file, and it is the contents, where these are known
pub record IsWholeText (contents : Option (List ℕ)) (mode : Mode) (root : List ℕ) (part : Part) (text : List ℕ) : Type 0 where
  pub accepted : IsPartText mode root part text
  pub each : AreBytes text
  pub fits : length text ≤ 2 ^ 63
  pub known : IfSome contents (λ s. text ≡ s)

-- an encoding that a pass has accepted: it is no longer than any file
abbrev pub HasPassed : Mode → List ℕ → Part → List ℕ → Type 0
HasPassed mode root part text = IsPartText mode root part text × (length text ≤ 2 ^ 63)

-- what a pass over these bytes leaves that writes so much of them, where it ends early
abbrev pub WriteStops : (List ℕ → List ℕ) → CheckTask → Type 0 → List ℕ → Option (List ℕ) → Option (List ℕ) → PassFault → Type 0
WriteStops what task faultless text old new (Check fault) = IsTextFault task text fault × AppendsBeginning old new (what text)
WriteStops what task faultless text old new Input = (¬ faultless) × AppendsBeginning old new (what text)
WriteStops what task faultless text old new Output = AppendsBeginning old new (what text)

-- the same of a pass that writes what they have of the part
abbrev pub TextStops : CheckTask → Type 0 → Part → List ℕ → Option (List ℕ) → Option (List ℕ) → PassFault → Type 0
TextStops task faultless part text old new fault = WriteStops (part_bytes part) task faultless text old new fault

-- and of one that writes the encoding itself
abbrev pub EncodingStops : CheckTask → Type 0 → List ℕ → Option (List ℕ) → Option (List ℕ) → PassFault → Type 0
EncodingStops task faultless text old new fault = WriteStops (λ all. all) task faultless text old new fault

-- the first fault of an encoding, and nothing was written; or no memory, and nothing was; or a read answered a fault, which one that
-- never fails doesn't; or the encoding is accepted, and writing to the other path failed
abbrev pub LeavesWritten : (List ℕ → List ℕ) → Mode → List ℕ → Part → Type 0 → List ℕ → Bor (List ℕ) → Bor (List ℕ) → Option (List ℕ) → Option (List ℕ) → DecodeFault → Type 0
LeavesWritten what mode root part faultless text file path old new (decode.File fault) =
    ((fault ≡ Memory) × Keeps old new)
    ⊎ ((fault ≡ Read file) × (¬ faultless) × AppendsBeginning old new (what text))
    ⊎ ((fault ≡ Write path) × IsPartText mode root part text × AppendsBeginning old new (what text))
LeavesWritten what mode root part faultless text file path old new (decode.Check fault) = IsTextFault (task_of_part mode root part) text fault × Keeps old new

-- what one pass leaves, each block of which is written once it was verified: the first fault of an encoding; or no memory, and nothing was
-- written; or a read answered a fault, which one that never fails doesn't; or the encoding is accepted, and writing to the other path failed
abbrev pub LeavesDraft : Mode → List ℕ → Part → Type 0 → List ℕ → Bor (List ℕ) → Bor (List ℕ) → Option (List ℕ) → Option (List ℕ) → DecodeFault → Type 0
LeavesDraft mode root part faultless text file path old new (decode.File fault) =
    ((fault ≡ Memory) × Keeps old new)
    ⊎ ((fault ≡ Read file) × (¬ faultless) × AppendsBeginning old new (part_bytes part text))
    ⊎ ((fault ≡ Write path) × IsPartText mode root part text × AppendsBeginning old new (part_bytes part text))
LeavesDraft mode root part faultless text file path old new (decode.Check fault) =
    IsTextFault (task_of_part mode root part) text fault × AppendsBeginning old new (part_bytes part text)

-- what is known of a fault where the encoding's bytes aren't
abbrev pub NamesDraftPaths : Bor (List ℕ) → Bor (List ℕ) → DecodeFault → Type 0
NamesDraftPaths file path (decode.File fault) = (fault ≡ Memory) ⊎ (fault ≡ Read file) ⊎ (fault ≡ Write path)
NamesDraftPaths file path (decode.Check fault) = Unit {0}

-- an encoding of these bytes was accepted, and so much of it written, or not
abbrev pub WritesKnown : (List ℕ → List ℕ) → Mode → List ℕ → Part → Type 0 → List ℕ → Bor (List ℕ) → Bor (List ℕ) → Option (List ℕ) → Option (List ℕ) → Result ℕ DecodeFault → Type 0
WritesKnown what mode root part faultless text file path old new (Ok count) =
    IsVerifiedText mode root part text × (count ≡ written_count part text) × Appends old new (what text)
WritesKnown what mode root part faultless text file path old new (Err fault) = LeavesWritten what mode root part faultless text file path old new fault

-- what it has of the part
abbrev pub DecodesKnown : Mode → List ℕ → Part → Type 0 → List ℕ → Bor (List ℕ) → Bor (List ℕ) → Option (List ℕ) → Option (List ℕ) → Result ℕ DecodeFault → Type 0
DecodesKnown mode root part faultless text file path old new result = WritesKnown (part_bytes part) mode root part faultless text file path old new result

-- the encoding itself
abbrev pub EncodesKnown : Mode → List ℕ → Part → Type 0 → List ℕ → Bor (List ℕ) → Bor (List ℕ) → Option (List ℕ) → Option (List ℕ) → Result ℕ DecodeFault → Type 0
EncodesKnown mode root part faultless text file path old new result = WritesKnown (λ all. all) mode root part faultless text file path old new result

-- the same of one pass
abbrev pub DraftsKnown : Mode → List ℕ → Part → Type 0 → List ℕ → Bor (List ℕ) → Bor (List ℕ) → Option (List ℕ) → Option (List ℕ) → Result ℕ DecodeFault → Type 0
DraftsKnown mode root part faultless text file path old new (Ok count) =
    IsVerifiedText mode root part text × (count ≡ written_count part text) × Appends old new (part_bytes part text)
DraftsKnown mode root part faultless text file path old new (Err fault) = LeavesDraft mode root part faultless text file path old new fault

-- what a fault says of a file that holds these bytes: there was no memory; or a read of it answered a fault, which on a disk without faults none
-- does; or the encoding is accepted, and writing to the other path failed; or this is the encoding's first fault
abbrev pub DecodeStops : Mode → List ℕ → Part → Type 0 → List ℕ → Bor (List ℕ) → Bor (List ℕ) → DecodeFault → Type 0
DecodeStops mode root part faultless text file path (decode.File fault) = (fault ≡ Memory) ⊎ ((fault ≡ Read file) × ¬ faultless) ⊎ ((fault ≡ Write path) × IsPartText mode root part text)
DecodeStops mode root part faultless text file path (decode.Check fault) = IsTextFault (task_of_part mode root part) text fault

-- an encoding of these bytes was accepted, and what it has of the part, so many bytes, written
abbrev pub IsDecoded : Mode → List ℕ → Part → List ℕ → ℕ → Option (List ℕ) → Option (List ℕ) → Type 0
IsDecoded mode root part text count old new = IsVerifiedText mode root part text × (count ≡ written_count part text) × Appends old new (part_bytes part text)

-- each of the buffers has this length
abbrev pub HaveLen : ℕ → Blocks → Type 0
HaveLen n it = (length it.block.items ≡ n) × (length it.room.items ≡ n) × (length it.before.items ≡ n)

-- what the next block of an encoding comes to, from an offset on: how much of it is taken, and how many of the blob's bytes are in `room`; or nothing, at
-- its end; or why there is none
pub record IsNext (contents : Option (List ℕ)) (faultless : Type 0) (old new : Checking) (at : ℕ) (block room : List ℕ) (result : Result (Option Decoded) PassFault) : Type 0 where
  pub some : IfOk result (λ next. IfSome next (λ step. (1 ≤ step.taken) × (step.filled ≤ step.taken) × (step.filled ≤ length room) × (at + step.taken ≤ 2 ^ 63 + 2 ^ 32)))
  pub step : (task : CheckTask) (taken blob : List ℕ) → HasDecodedAs old task taken blob → at ≡ length taken → GivenAt contents 0 taken
      → IfOk result (λ next. IfSome next (λ step. (more : List ℕ) × (length more ≡ step.taken) × (more ≡ take step.taken block) × GivenAt contents at more
      × HasDecodedAs new task (taken ++ more) (blob ++ take step.filled room)))
  pub last : (task : CheckTask) (taken blob : List ℕ) → HasDecodedAs old task taken blob → at ≡ length taken
      → IfOk result (λ next. next ≡ None → IsAcceptedAs task taken × (decoded taken task.start task.len ≡ blob) × IfSome contents (λ s. length s ≤ at) × (at ≤ 2 ^ 63))
  pub fault : (task : CheckTask) (taken : List ℕ) → HasTakenAs old task taken → at ≡ length taken → GivenAt contents 0 taken
      → IfErr result (λ fault. IfSome contents (λ s. StopsAs task faultless s fault))

-- what each task does, of right bytes, and what a fault leaves
use Rattle.std.specs.Prelude.{◌⊎◌, ℕ, List, Option, Some}
use Rattle.std.specs.Borrow.{Bor}
use Rattle.b3tree.specs.declared.mode.Mode.{Mode}
use Rattle.bao_files.specs.Disks.{AreOf, FileState, KeepsFiles, Puts}
use Rattle.bao_files.specs.Encoded.{encoding_text}
use Rattle.bao_text.specs.declared.kinds.Encoding.{Encoding}
use Rattle.bao_text.specs.declared.kinds.Part.{Part}
use Rattle.bao_text.specs.declared.kinds.Part.TheVariants.{Slice}
use Rattle.bao_decode.specs.Ranges.{part_bytes}
use Rattle.bao_command.specs.declared.fault.Fault.{Fault}
use Rattle.bao_command.specs.Tasks.{IsCutFrom, IsOfFile, IsRightCopy, IsRightPart}

-- a fault came before anything was done to the files, or it is one of printing, and this was done before, of some bytes
abbrev pub Leaves : (List ℕ → FileState) → (List ℕ → FileState) → (List ℕ → Type 0) → Fault → Type 0
Leaves at after Did fault = KeepsFiles at after ⊎ (IsOfFile fault × ((bytes : List ℕ) × Did bytes))

-- these are the file's bytes, and their encoding was put at OUT
abbrev pub EncodesRight : (List ℕ → FileState) → (List ℕ → FileState) → Mode → Encoding → List ℕ → List ℕ → List ℕ → Type 0
EncodesRight at after mode encoding file out bytes = AreOf (at file) bytes × Puts at after out (Some (encoding_text mode encoding bytes))

-- this is the slice that is cut out of the file and accepted, and it was put at OUT
abbrev pub CutsRight : (List ℕ → FileState) → (List ℕ → FileState) → Mode → List ℕ → ℕ → ℕ → Option (Bor (List ℕ)) → List ℕ → List ℕ → List ℕ → Type 0
CutsRight at after mode digits start len outboard file out text =
    (IsRightPart mode digits (Slice start len) text × IsCutFrom at start len outboard file text) × Puts at after out (Some text)

-- this is the encoding in the file, it is accepted, and what it has of the part was put at OUT
abbrev pub DecodesRight : (List ℕ → FileState) → (List ℕ → FileState) → Mode → List ℕ → Part → List ℕ → List ℕ → List ℕ → Type 0
DecodesRight at after mode digits part file out text = (IsRightPart mode digits part text × AreOf (at file) text) × Puts at after out (Some (part_bytes part text))

-- this is the copy in the file, it is accepted beside the outboard encoding, and it was put at OUT
abbrev pub CopiesRight : (List ℕ → FileState) → (List ℕ → FileState) → Mode → List ℕ → List ℕ → List ℕ → List ℕ → List ℕ → Type 0
CopiesRight at after mode digits outboard copy out bytes = IsRightCopy at mode digits outboard copy bytes × Puts at after out (Some bytes)

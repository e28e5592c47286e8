-- What a fault of gathering says, and its number.
use Rattle.std.specs.Borrow.{Bor}
use Rattle.std.specs.Prelude.{◌≡◌, ◌⊎◌, ℕ, List, [], Option, Result, Some, IsErrOf, slice_get}
use Rattle.bao_check.specs.Faults.{number_of as check_number_of}
use Rattle.bao_files.specs.Faults.{number_of as file_number_of}
use Rattle.bao_files.specs.Disks.{Absent, FileState}
use Rattle.bao_files.specs.Printed as file
use Rattle.bao_files.specs.declared.fault.FileFault.TheVariants.{Memory, Read}
use Rattle.bao_windows.specs.Faults.{number_of_gather}
use Rattle.bao_windows.specs.declared.fault.GatherFault.TheVariants.{Unfinished}
use Rattle.bao_tasks.specs.declared.missing.Lack.{Lack}
use Rattle.bao_tasks.specs.declared.missing.Lack.TheVariants.{Unasked}
use Rattle.bao_tasks.specs.declared.gathered_fault.GatheredFault.{GatheredFault}
use Rattle.bao_tasks.specs.declared.gathered_fault.GatheredFault.TheVariants.{File, Outboard, Gather}

-- it isn't a fault of standard output
abbrev pub IsQuietGathered : GatheredFault → Type 0
IsQuietGathered (File fault) = file.IsQuiet fault
IsQuietGathered (Outboard fault) = Unit {0}
IsQuietGathered (Gather fault) = Unit {0}

-- it isn't a fault of an outboard encoding
abbrev pub IsOfFiles : GatheredFault → Type 0
IsOfFiles (File fault) = Unit {0}
IsOfFiles (Outboard fault) = ⊥
IsOfFiles (Gather fault) = Unit {0}

-- a fault of reading names the first path, and a fault of writing the second
abbrev pub NamesGatheredPaths : Bor (List ℕ) → Bor (List ℕ) → GatheredFault → Type 0
NamesGatheredPaths input output (File fault) = file.NamesPaths input output fault
NamesGatheredPaths input output (Outboard fault) = Unit {0}
NamesGatheredPaths input output (Gather fault) = Unit {0}

-- the same, with the first of the inputs
abbrev pub NamesFirst : List (Bor (List ℕ)) → Bor (List ℕ) → GatheredFault → Type 0
NamesFirst inputs output fault = (first : Bor (List ℕ)) → slice_get inputs 0 ≡ Some first → NamesGatheredPaths first output fault

-- the same, or a fault of reading names the outboard encoding
abbrev pub NamesBeside : Bor (List ℕ) → List (Bor (List ℕ)) → Bor (List ℕ) → GatheredFault → Type 0
NamesBeside outboard inputs output fault = NamesGatheredPaths outboard output fault ⊎ NamesFirst inputs output fault

-- no file is at any of these paths
abbrev pub AreAbsent : (List ℕ → FileState) → List (Bor (List ℕ)) → Type 0
AreAbsent at paths = (i : ℕ) (path : Bor (List ℕ)) → slice_get paths i ≡ Some path → at path.now ≡ Absent

-- there was no memory, or the first of the files can't be read; without files the blob stays unfinished
abbrev pub IsFirstUnread : List (Bor (List ℕ)) → GatheredFault → Type 0
IsFirstUnread files fault =
    (fault ≡ File Memory) ⊎ ((first : Bor (List ℕ)) × (slice_get files 0 ≡ Some first) × (fault ≡ File (Read first))) ⊎ ((files ≡ []) × (fault ≡ Gather Unfinished))

-- the outboard encoding at this path can't be read, or isn't accepted
abbrev pub StopsBeside : Bor (List ℕ) → GatheredFault → Type 0
StopsBeside outboard (File fault) = fault ≡ Read outboard
StopsBeside outboard (Outboard fault) = Unit {0}
StopsBeside outboard (Gather fault) = ⊥

-- what is missing is noted only if the blob stayed unfinished; otherwise the note is unchanged, or says that it wasn't looked for
abbrev pub LooksUnfinished : {T : Type 0} → Result T GatheredFault → Lack → Lack → Type 0
LooksUnfinished result old new = IsErrOf result (Gather Unfinished) ⊎ (new ≡ old) ⊎ (new ≡ Unasked)

-- the number of the fault, if its message has one
abbrev pub gathered_number_of : GatheredFault → Option ℕ
gathered_number_of (File fault) = file_number_of fault
gathered_number_of (Outboard fault) = Some (check_number_of fault)
gathered_number_of (Gather fault) = Some (number_of_gather fault)

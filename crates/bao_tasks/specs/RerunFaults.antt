-- What a fault of a schedule's run says, and its number.
use Rattle.std.specs.Borrow.{Bor}
use Rattle.std.specs.Prelude.{◌≡◌, ◌⊎◌, ℕ, List, Option, None, Some, slice_get}
use Rattle.bao_files.specs.Faults.{number_of as file_number_of}
use Rattle.bao_files.specs.declared.fault.FileFault.TheVariants.{Memory, Read}
use Rattle.bao_script.specs.Faults.{script_number_of}
use Rattle.bao_tasks.specs.declared.rerun_fault.RerunFault.{RerunFault}
use Rattle.bao_tasks.specs.declared.rerun_fault.RerunFault.TheVariants.{File, Script, Replay}

-- if it is a fault of a file, memory was refused
abbrev pub IsOfNoFile : RerunFault → Type 0
IsOfNoFile (File fault) = fault ≡ Memory
IsOfNoFile (Script line) = Unit {0}
IsOfNoFile (Replay fault) = Unit {0}

-- if it is a fault of a file, memory was refused, or the script or one of the files can't be read
abbrev pub NamesRead : Bor (List ℕ) → List (Bor (List ℕ)) → RerunFault → Type 0
NamesRead script files (File fault) =
    (fault ≡ Memory) ⊎ (fault ≡ Read script) ⊎ ((i : ℕ) × (path : Bor (List ℕ)) × (slice_get files i ≡ Some path) × (fault ≡ Read path))
NamesRead script files (Script line) = Unit {0}
NamesRead script files (Replay fault) = Unit {0}

-- the number of the fault, if its message has one
abbrev pub rerun_number_of : RerunFault → Option ℕ
rerun_number_of (File fault) = file_number_of fault
rerun_number_of (Script line) = None
rerun_number_of (Replay fault) = script_number_of fault

-- What is printed of a schedule's run.
use Rattle.std.specs.Borrow.{Bor}
use Rattle.std.specs.Prelude.{◌≡◌, ℕ, List, [], Some, get_or, length, slice_get}
use Rattle.b3tree.specs.declared.mode.Mode.{Mode}
use Rattle.b3tree.specs.declared.values.Hash.{Hash}
use Rattle.bao_check.specs.declared.fault.CheckFault.{CheckFault}
use Rattle.bao_files.specs.Disks.{AreOf, FileState}
use Rattle.bao_script.specs.declared.numbered.NumberedLine.{NumberedLine}
use Rattle.bao_script.specs.Printouts.{IsPrinted, IsStopped}
use Rattle.bao_script.specs.Scripts.{IsScript}
use Rattle.bao_script.specs.Slices.{AreAccepted, IsRefusedSlice, slices_of}

-- the text is what a run of the script with slices of the files prints
abbrev pub IsRun : Mode → Hash → ℕ → List ℕ → List (List ℕ) → List ℕ → Type 0
IsRun mode root capacity script files text =
    (lines : List NumberedLine) × IsScript (length files) script lines
    × IsPrinted (record { root = root; mode = mode; capacity = capacity; base = 0 }) files lines text

-- the line with this number is the first that isn't legal
abbrev pub IsStoppedRun : Mode → Hash → ℕ → List ℕ → List (List ℕ) → ℕ → Type 0
IsStoppedRun mode root capacity script files number =
    (lines : List NumberedLine) × IsScript (length files) script lines
    × IsStopped (record { root = root; mode = mode; capacity = capacity; base = 0 }) files lines number

-- the slices that its lines name are all accepted
abbrev pub IsAcceptedRun : Mode → Hash → List ℕ → List (List ℕ) → Type 0
IsAcceptedRun mode root script files =
    (lines : List NumberedLine) × IsScript (length files) script lines × AreAccepted mode root.0 (slices_of files lines)

-- the slice of the line with this number is the first that isn't accepted, with this fault
abbrev pub IsRefusedRun : Mode → Hash → List ℕ → List (List ℕ) → ℕ → CheckFault → Type 0
IsRefusedRun mode root script files number fault =
    (lines : List NumberedLine) × IsScript (length files) script lines × IsRefusedSlice mode root.0 (slices_of files lines) number fault

-- these are the bytes of the files at the paths, in their order, as far as they are known
pub record AreOfAll (at : List ℕ → FileState) (paths : List (Bor (List ℕ))) (files : List (List ℕ)) : Type 0 where
  pub count : length files ≡ length paths
  pub each : (i : ℕ) (path : Bor (List ℕ)) → slice_get paths i ≡ Some path → AreOf (at path.now) (get_or files i [])

-- it holds for the bytes of the first file and those of the others
abbrev pub OfFiles : (List ℕ → FileState) → List ℕ → List (Bor (List ℕ)) → (List ℕ → List (List ℕ) → Type 0) → Type 0
OfFiles at path paths Holds = (text : List ℕ) × (files : List (List ℕ)) × AreOf (at path) text × AreOfAll at paths files × Holds text files

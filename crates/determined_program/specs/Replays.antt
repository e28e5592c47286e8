-- The faults of a schedule that may come at any time.
use Rattle.std.specs.Borrow.{Bor}
use Rattle.std.specs.Prelude.{◌≡◌, ℕ, List, [], Some, get_or, length, slice_get}
use Rattle.bao_files.specs.Disks.{FileState, Stored}
use Rattle.bao_files.specs.declared.fault.FileFault.TheVariants as file
use Rattle.bao_script.specs.declared.fault.ReplayScriptFault.{ReplayScriptFault}
use Rattle.bao_script.specs.declared.fault.ReplayScriptFault.TheVariants.{Refused, Illegal, Capacity, Cutting, Replaying, Memory}
use Rattle.bao_tasks.specs.declared.rerun_fault.RerunFault.{RerunFault}
use Rattle.bao_tasks.specs.declared.rerun_fault.RerunFault.TheVariants.{File, Script, Replay}

-- a growth was refused
abbrev pub IsWantOfRun : ReplayScriptFault → Type 0
IsWantOfRun (Refused line fault) = ⊥
IsWantOfRun (Illegal line) = ⊥
IsWantOfRun Capacity = ⊥
IsWantOfRun Cutting = Unit {0}
IsWantOfRun Replaying = Unit {0}
IsWantOfRun Memory = Unit {0}

abbrev pub IsWant : RerunFault → Type 0
IsWant (File fault) = fault ≡ file.Memory
IsWant (Script line) = ⊥
IsWant (Replay fault) = IsWantOfRun fault

-- or a file couldn't be read
abbrev pub MayComeOfRun : RerunFault → Type 0
MayComeOfRun (File fault) = Unit {0}
MayComeOfRun (Script line) = ⊥
MayComeOfRun (Replay fault) = IsWantOfRun fault

-- these files are at the paths, each at its place
pub record AreStored (at : List ℕ → FileState) (paths : List (Bor (List ℕ))) (files : List (List ℕ)) : Type 0 where
  pub count : length files ≡ length paths
  pub each : (i : ℕ) (path : Bor (List ℕ)) → slice_get paths i ≡ Some path → at path.now ≡ Stored (get_or files i [])

-- which ranges the list has after a fault of gathering
use Rattle.std.specs.Prelude.{◌≡◌, ◌≢◌, ◌⊎◌, ◌-◌, ◌^◌, ℕ, Bool, List, Option, None, Some, if◌then◌else◌}
use Rattle.std.specs.Borrow.{Bor}
use Rattle.b3tree.specs.declared.mode.Mode.{Mode}
use Rattle.b3tree.specs.declared.values.Hash.{Hash as Root32}
use Rattle.bao_files.specs.Disks.{FileState, KeepsFiles}
use Rattle.bao_files.specs.declared.fault.FileFault.{FileFault}
use Rattle.bao_windows.specs.declared.fault.GatherFault.TheVariants.{Unfinished}
use Rattle.holders.specs.declared.form.Form.TheVariants.{Slices}
use Rattle.holders.specs.declared.grain.Grain.{Grain}
use Rattle.holders.specs.declared.grain.Grain.TheVariants.{Group as ByGroup, Chunk as ByChunk}
use Rattle.bao_tasks.specs.Listed.{lines_of_parts}
use Rattle.bao_tasks.specs.MissingInFiles.{IsLackBeside, IsLackIn, wanted_for}
use Rattle.bao_tasks.specs.declared.gathered_fault.GatheredFault.{GatheredFault}
use Rattle.bao_tasks.specs.declared.gathered_fault.GatheredFault.TheVariants.{Gather as OfGather}
use Rattle.bao_tasks.specs.declared.missing.Lack.{Lack}
use Rattle.bao_tasks.specs.declared.missing.Lack.TheVariants.{Unasked}
use Rattle.bao_request.specs.declared.tasks.GatherTask.{GatherTask}
use Rattle.bao_request.specs.declared.tasks.Request.{Request}
use Rattle.bao_request.specs.declared.tasks.Task.{Task}
use Rattle.bao_request.specs.declared.tasks.Task.TheVariants.{Gather}
use Rattle.bao_command.specs.declared.fault.Fault.{Fault}
use Rattle.bao_command.specs.declared.fault.Fault.TheVariants.{Gather as Ungathered}
use Rattle.bao_command.specs.Effects.{Lists, parts_in}
use Rattle.bao_command.specs.ModeWords.{HasMode}
use Rattle.bao_command.specs.Refused.{OfRoot}
use Rattle.bao_command.specs.Tasks.{IsOfFile}

-- what was found that the files lack: combined encodings, or copies beside the outboard encoding that is named
abbrev pub IsLack : Root32 → Mode → Grain → Bool → ℕ → ℕ → (List ℕ → FileState) → Option (Bor (List ℕ)) → List (Bor (List ℕ)) → Lack → Type 0
IsLack root mode grain long capacity most at None files lack = IsLackIn (wanted_for root mode Slices grain) long capacity most at files lack
IsLack root mode grain long capacity most at (Some outboard) files lack = IsLackBeside root mode grain long capacity most at outboard.now files lack

-- The list has the ranges that were found missing. On a disk without faults these are right if the blob stayed unfinished. After another fault there are none.
pub record HasGaps (sure : Type 0) (at after : List ℕ → FileState) (mode : Mode) (task : GatherTask) (fault : Fault) (root : Root32) : Type 0 where
  pub cause : GatheredFault
  pub unlisted : Option FileFault
  pub is : fault ≡ Ungathered cause unlisted
  pub lack : Lack
  pub lists : Lists at after task.missing (lines_of_parts (parts_in lack))
  pub unasked : cause ≢ OfGather Unfinished → lack ≡ Unasked
  pub right : cause ≡ OfGather Unfinished → sure → IsLack root mode (if task.salvage then ByChunk else ByGroup) task.long task.capacity (2 ^ 64 - 1) at task.outboard task.files.items lack

-- after a fault that isn't one of a file, no file has changed, or the task's list has these ranges; only `gather` has a list
abbrev pub LeavesListOf : Type 0 → (List ℕ → FileState) → (List ℕ → FileState) → Mode → Task → Fault → Type 0
LeavesListOf sure at after mode (Gather task) fault = KeepsFiles at after ⊎ IsOfFile fault ⊎ OfRoot task.root.now (HasGaps sure at after mode task fault)
LeavesListOf sure at after mode task fault = KeepsFiles at after ⊎ IsOfFile fault

-- and of that of the request, in its mode
abbrev pub LeavesListFor : Type 0 → (List ℕ → FileState) → (List ℕ → FileState) → Request → Fault → Type 0
LeavesListFor sure at after request fault = KeepsFiles at after ⊎ ((mode : Mode) × HasMode at request mode × LeavesListOf sure at after mode request.task fault)

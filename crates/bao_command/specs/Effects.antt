-- what a task does to the files
use Rattle.std.specs.Prelude.{◌≡◌, ◌≢◌, ◌⊎◌, ℕ, List, [], Option, None, Some}
use Rattle.std.specs.Borrow.{Bor}
use Rattle.b3tree.specs.declared.mode.Mode.{Mode}
use Rattle.bao_files.specs.Disks.{FileState, KeepsFiles, Puts}
use Rattle.bao_files.specs.Encoded.{encoding_text}
use Rattle.bao_decode.specs.Ranges.{part_bytes}
use Rattle.bao_tasks.specs.Gathered.{gathered_text}
use Rattle.bao_tasks.specs.Listed.{lines_of_parts}
use Rattle.bao_tasks.specs.declared.gathered_fault.GatheredFault.{GatheredFault}
use Rattle.bao_tasks.specs.declared.missing.Lack.{Lack}
use Rattle.bao_tasks.specs.declared.missing.Lack.TheVariants.{Missing}
use Rattle.bao_tasks.specs.declared.missing.Span.{Span}
use Rattle.bao_request.specs.declared.tasks.Task.{Task}
use Rattle.bao_request.specs.declared.tasks.Task.TheVariants.{Hash, Encode, CutSlice, Decode, DecodeCopy, Gather, Replay}
use Rattle.bao_command.specs.declared.fault.Fault.{Fault}
use Rattle.bao_command.specs.declared.fault.Fault.TheVariants.{Gather as Ungathered}
use Rattle.bao_command.specs.Status.{gathered_status_of}

-- the path of the task's list, where it has one
abbrev pub list_of : Task → Option (Bor (List ℕ))
list_of (Gather task) = task.missing
list_of task = None

-- a list of these lines is at its path, where one is named, and nothing else has changed that was known
abbrev pub Lists : (List ℕ → FileState) → (List ℕ → FileState) → Option (Bor (List ℕ)) → List ℕ → Type 0
Lists old new None lines = KeepsFiles old new
Lists old new (Some list) lines = Puts old new list.now (Some lines)

-- the ranges that are known to be missing
abbrev pub parts_in : Lack → List Span
parts_in (Missing parts) = parts.shown.items
parts_in lack = []

-- a list of some ranges is at its path, where one is named, and nothing else has changed that was known
abbrev pub ListsSome : (List ℕ → FileState) → (List ℕ → FileState) → Option (Bor (List ℕ)) → Type 0
ListsSome old new list = (parts : List Span) × Lists old new list (lines_of_parts parts)

-- After a fault of gathering that isn't one of the arguments the list has been made anew, unless the fault says that it couldn't be written.
abbrev pub IsRelisted : (List ℕ → FileState) → (List ℕ → FileState) → Option (Bor (List ℕ)) → Fault → Type 0
IsRelisted old new list fault = (cause : GatheredFault) → fault ≡ Ungathered cause None → gathered_status_of cause ≢ 2 → ListsSome old new list

-- all files are as they were, but that the list may be one of some ranges now
abbrev pub KeepsButList : (List ℕ → FileState) → (List ℕ → FileState) → Option (Bor (List ℕ)) → Type 0
KeepsButList old new list = KeepsFiles old new ⊎ ListsSome old new list

-- the text was put at OUT, and then an empty list at its path, where one is named
abbrev pub PutsBoth : (List ℕ → FileState) → (List ℕ → FileState) → List ℕ → List ℕ → Option (Bor (List ℕ)) → Type 0
PutsBoth old new out text list = (between : List ℕ → FileState) × Puts old between out (Some text) × Lists between new list []

-- what the task did to the files, of these bytes, and to such a list
abbrev pub Writes : (List ℕ → FileState) → (List ℕ → FileState) → Mode → Task → Option (Bor (List ℕ)) → List ℕ → Type 0
Writes old new mode (Hash at length file) list bytes = KeepsFiles old new
Writes old new mode (Encode encoding file out) list bytes = Puts old new out.now (Some (encoding_text mode encoding bytes))
Writes old new mode (CutSlice root start len outboard file out) list bytes = Puts old new out.now (Some bytes)
Writes old new mode (Decode root part file out) list bytes = Puts old new out.now (Some (part_bytes part bytes))
Writes old new mode (DecodeCopy root outboard copy out) list bytes = Puts old new out.now (Some bytes)
Writes old new mode (Gather task) list bytes =
    PutsBoth old new task.out.now (gathered_text task.encode mode bytes) list
Writes old new mode (Replay root capacity script files) list bytes = KeepsFiles old new

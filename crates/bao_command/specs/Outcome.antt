-- what standard output holds when the program ends, by the arguments
use Rattle.std.specs.Prelude.{◌≡◌, ◌≢◌, ◌⊎◌, ℕ, List, [], Option, Result, Ok, Err}
use Rattle.std.specs.IoError.{error_kind}
use Rattle.std.specs.declared.io.Error.{Error}
use Rattle.std.specs.declared.io.ErrorKind.TheVariants.{BrokenPipe}
use Rattle.std.specs.Io.KnownBytes.{Keeps}
use Rattle.clap.specs.Words.{Text, fault_of}
use Rattle.bao_files.specs.Disks.{FileState, KeepsFiles, Unknown}
use Rattle.bao_request.specs.declared.tasks.Request.{Request}
use Rattle.bao_request.specs.CommandLine.{AsksFor, AsksForHelp, program_app}
use Rattle.bao_command.specs.declared.fault.Fault.{Fault}
use Rattle.bao_command.specs.Gaps.{LeavesListFor}
use Rattle.bao_command.specs.Status.{status_of}
use Rattle.bao_command.specs.Surveys.{AreOfMany, AreOfOne, Surveyed}
use Rattle.bao_command.specs.Refused.{IsBlobFor, IsRefusedFor}
use Rattle.bao_command.specs.Tasks.{Decodes, Gathers, IsDue, IsPassed, LeavesFilesOf, PrintsBeginning, PrintsLine, Replays}

-- clap finds a fault with the arguments, and it isn't that they ask for help or the version
abbrev pub AreRefused : List Text → Type 0
AreRefused words = (fault_of program_app words ≢ []) × ¬ AsksForHelp words

-- at status 0: the line of what the arguments ask for, or they ask for help or the version
abbrev pub Done : List Text → (List ℕ → FileState) → (List ℕ → FileState) → Option (List ℕ) → Option (List ℕ) → Type 0
Done words at after old new = (AsksForHelp words × KeepsFiles at after) ⊎ ((request : Request) × AsksFor words request × PrintsLine request at after old new)

-- At status 0 of what gathers: each blob with the root was put at OUT, and its length printed, as far as the files are known; or they ask for help.
abbrev pub IsEachFor : List Text → Type 0 → (List ℕ → FileState) → (List ℕ → FileState) → Option (List ℕ) → Option (List ℕ) → Type 0
IsEachFor words sure at after old new = AsksForHelp words ⊎ ((request : Request) × AsksFor words request × IsBlobFor sure at after request old new)

-- help was printed, or its reader had closed the pipe before its end
abbrev pub IsShown : Result Unit Error → Type 0
IsShown (Ok done) = Unit {0}
IsShown (Err error) = error_kind error ≡ BrokenPipe

-- at status 3: nothing, or a beginning of it
abbrev pub Begun : List Text → (List ℕ → FileState) → (List ℕ → FileState) → Option (List ℕ) → Option (List ℕ) → Type 0
Begun words at after old new = Keeps old new ⊎ AsksForHelp words ⊎ ((request : Request) × AsksFor words request × PrintsBeginning request at after old new)

-- What the files are after another status than 0: as they were, or as a fault with this status leaves them.
abbrev pub LeavesAt : List Text → (List ℕ → FileState) → (List ℕ → FileState) → ℕ → Type 0
LeavesAt words at after status =
    KeepsFiles at after
    ⊎ ((request : Request) × AsksFor words request × ((fault : Fault) × (status_of fault ≡ status) × LeavesFilesOf at after request fault))

-- What the list is then: as it was, or as a fault with this status leaves it.
abbrev pub LeavesListAt : List Text → Type 0 → (List ℕ → FileState) → (List ℕ → FileState) → ℕ → Type 0
LeavesListAt words sure at after status =
    KeepsFiles at after
    ⊎ ((request : Request) × AsksFor words request × ((fault : Fault) × (status_of fault ≡ status) × LeavesListFor sure at after request fault))

-- there is a fault with this status, and a reason for it in the request, as far as the files are known
abbrev pub HasReason : (List ℕ → FileState) → Request → ℕ → Type 0
HasReason at request status = (fault : Fault) × (status_of fault ≡ status) × IsDue at request fault

-- At status 2: clap finds a fault with the arguments, or they make no request, or there is a reason to refuse the one that they make.
abbrev pub IsUsage : List Text → (List ℕ → FileState) → Type 0
IsUsage words at =
    (fault_of program_app words ≢ []) ⊎ ((request : Request) → ¬ AsksFor words request) ⊎ ((request : Request) × AsksFor words request × HasReason at request 2)

-- At status 0 and 1: they ask for help, or for a request with good arguments.
abbrev pub ArePassed : List Text → (List ℕ → FileState) → Type 0
ArePassed words at = AsksForHelp words ⊎ ((request : Request) × AsksFor words request × IsPassed at request)

-- At status 1: they ask for a task that has a text or a blob to refuse, in the mode of the request, as far as the files are known.
abbrev pub IsRefusable : List Text → Type 0 → (List ℕ → FileState) → Type 0
IsRefusable words sure at = (request : Request) × AsksFor words request × IsRefusedFor sure at request

-- they ask for a task that may refuse a text or a blob, which hashing and encoding don't
abbrev pub MayRefuse : List Text → Type 0
MayRefuse words = (request : Request) × AsksFor words request × (Decodes request.task ⊎ Gathers request.task ⊎ Replays request.task)

-- What standard output holds by the exit status: after a fault other than a file's, what it held before; and arguments that are
-- refused are wrong, or memory ran out; and wrong arguments and refusals have their reasons. A survey ends as it says, or memory ran out before it began.
pub record Ends (words : List Text) (old new : Option (List ℕ)) (status : ℕ) : Type 0 where
  pub done : AreOfOne words → status ≡ 0 → Done words (λ _. Unknown) (λ _. Unknown) old new
  pub file_fault : AreOfOne words → status ≡ 3 → Begun words (λ _. Unknown) (λ _. Unknown) old new
  pub fault : AreOfOne words → status ≢ 0 → status ≢ 3 → Keeps old new
  pub refused : AreRefused words → (status ≡ 2) ⊎ (status ≡ 4)
  pub usage : AreOfOne words → status ≡ 2 → IsUsage words (λ _. Unknown)
  pub refusal : AreOfOne words → status ≡ 1 → MayRefuse words
  pub surveyed : AreOfMany words → ((status ≡ 4) × Keeps old new) ⊎ Surveyed words ⊥ (λ _. Unknown) old new status

-- What the files make of a command, where all of them are known: of hashing, and of decoding.
use Rattle.std.specs.Prelude.{◌≡◌, ◌⊎◌, ℕ, List, Option, Some}
use Rattle.std.specs.Io.KnownBytes.{Appends}
use Rattle.b3tree.specs.declared.mode.Mode.{Mode}
use Rattle.b3tree.specs.Hashing.{stream}
use Rattle.clap.specs.Words.{Text}
use Rattle.bao_decode.specs.Ranges.{IsPartText, part_bytes}
use Rattle.bao_files.specs.Disks.{FileState, Absent, KeepsFiles, Puts, Stored, Unknown}
use Rattle.bao_files.specs.Printed.{digits_line}
use Rattle.bao_request.specs.CommandLine.{AsksFor}
use Rattle.bao_request.specs.declared.tasks.Request.{Request}
use Rattle.bao_request.specs.declared.tasks.Task.{Task}
use Rattle.bao_request.specs.declared.tasks.Task.TheVariants.{Hash, Decode}
use Rattle.bao_command.specs.ModeWords.{HasMode}
use Rattle.bao_command.specs.Refused.{OfDigits}
use Rattle.bao_command.specs.Tasks.{part_line}

-- a line; a line, and a text at a path; a text that is refused; a path at which there is no file
pub data Outcome : Type 0 where
  Line : List ℕ → Outcome
  Put : List ℕ → List ℕ → List ℕ → Outcome
  Refused : Outcome
  Unread : List ℕ → Outcome

-- it is that of a file that is known
abbrev pub OfState : FileState → List ℕ → Outcome → (List ℕ → Type 0) → Type 0
OfState Unknown path outcome Holds = ⊥
OfState Absent path outcome Holds = outcome ≡ Unread path
OfState (Stored bytes) path outcome Holds = Holds bytes

-- what is good is done, and the rest is refused
abbrev pub Judged : Type 0 → Outcome → Outcome → Type 0
Judged good done outcome = (good × (outcome ≡ done)) ⊎ ((¬ good) × (outcome ≡ Refused))

-- hashing prints the output; decoding prints how many bytes it put at OUT, where the text is accepted
abbrev pub OutcomeOf : (List ℕ → FileState) → Mode → Task → Outcome → Type 0
OutcomeOf at mode (Hash from count file) outcome = OfState (at file.now) file.now outcome (λ bytes. outcome ≡ Line (digits_line (stream mode bytes from count)))
OutcomeOf at mode (Decode root part file out) outcome =
    OfDigits root.now (λ key. OfState (at file.now) file.now outcome (λ text. Judged (IsPartText mode key part text) (Put (part_line part text) out.now (part_bytes part text)) outcome))
OutcomeOf at mode task outcome = ⊥

-- the task hashes, or decodes
abbrev pub IsOfOne : Task → Type 0
IsOfOne (Hash from count file) = Unit {0}
IsOfOne (Decode root part file out) = Unit {0}
IsOfOne task = ⊥

-- it was printed, and put at its path, and nothing else has changed
abbrev pub Shows : Outcome → (List ℕ → FileState) → (List ℕ → FileState) → Option (List ℕ) → Option (List ℕ) → Type 0
Shows (Line line) at after old new = KeepsFiles at after × Appends old new line
Shows (Put line path text) at after old new = Puts at after path (Some text) × Appends old new line
Shows Refused at after old new = ⊥
Shows (Unread path) at after old new = ⊥

-- What a command did that was done, or refused something.
pub record Ran (words : List Text) (at after : List ℕ → FileState) (old new : Option (List ℕ)) (status : ℕ) : Type 0 where
  pub request : Request
  pub mode : Mode
  pub outcome : Outcome
  pub asks : AsksFor words request
  pub in_mode : HasMode at request mode
  pub is : OutcomeOf at mode request.task outcome
  pub done : status ≡ 0 → Shows outcome at after old new
  pub refused : status ≡ 1 → outcome ≡ Refused

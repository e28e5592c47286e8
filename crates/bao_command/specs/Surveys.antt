-- what a survey of many files prints, and its exit status
use Rattle.std.specs.Prelude.{◌≡◌, ◌≢◌, ◌⊎◌, ℕ, Bool, false, not, if◌then◌else◌, List, [], Option, Result, Ok, Err, is_some}
use Rattle.std.specs.List.{list_all}
use Rattle.std.specs.Option.{option_copied}
use Rattle.std.specs.Io.KnownBytes.{Keeps}
use Rattle.clap.specs.Words.{Text, fault_of}
use Rattle.b3tree.specs.declared.mode.Mode.{Mode}
use Rattle.bao_files.specs.Disks.{FileState}
use Rattle.bao_files.specs.declared.fault.FileFault.{FileFault}
use Rattle.bao_sums.specs.Checked.{Checks}
use Rattle.bao_sums.specs.Each.{LeavesFirst, PrintsEach}
use Rattle.bao_sums.specs.Hashed.{IsReadingAt, hash_line, is_given, paths_of}
use Rattle.bao_sums.specs.Kinds.{IsLookAt, kind_line}
use Rattle.bao_sums.specs.declared.fault.SumsFault.{SumsFault}
use Rattle.bao_sums.specs.declared.fault.SumsFault.TheVariants.{File, TooLong, NoLine}
use Rattle.bao_sums.specs.declared.verdict.Tally.{Tally}
use Rattle.bao_request.specs.CommandLine.{AsksForSurvey, program_app}
use Rattle.bao_request.specs.declared.tasks.Survey.{Survey}
use Rattle.bao_request.specs.declared.tasks.SurveyTask.{SurveyTask}
use Rattle.bao_request.specs.declared.tasks.SurveyTask.TheVariants.{Hashes, Check, Info}
use Rattle.bao_command.specs.declared.survey_fault.SurveyFault.{SurveyFault}
use Rattle.bao_command.specs.declared.survey_fault.SurveyFault.TheVariants.{Mode as OfMode, Output, Sums}
use Rattle.bao_command.specs.ModeWords.{AsksForMode, IsModeDue}
use Rattle.bao_command.specs.Status.{file_status_of, status_of}

-- the arguments name one file or blob, and not many files
abbrev pub AreOfOne : List Text → Type 0
AreOfOne words = (survey : Survey) → ¬ AsksForSurvey words survey

-- what came of the files where none has to have a hash: whether one of them can't be read
abbrev pub tally_unless : Bool → Tally
tally_unless whole = record { failed = false; unread = not whole }

abbrev pub tallied : Result Bool FileFault → Result Tally SumsFault
tallied (Ok whole) = Ok (tally_unless whole)
tallied (Err fault) = Err (File fault)

-- The line of each file was printed, in order; or a fault left this.
abbrev pub Lists : {Y : Type 0} → (List ℕ → Y → Type 0) → (List ℕ → Y → List ℕ) → (Y → Bool) → List (List ℕ) → Option (List ℕ) → Option (List ℕ) → Result Tally SumsFault → Type 0
Lists IsOutcome line is_good paths old new (Ok tally) = PrintsEach IsOutcome line paths old new (λ outcomes. tally ≡ tally_unless (list_all is_good outcomes))
Lists IsOutcome line is_good paths old new (Err (File fault)) = LeavesFirst IsOutcome line paths old new fault
Lists IsOutcome line is_good paths old new (Err TooLong) = ⊥
Lists IsOutcome line is_good paths old new (Err NoLine) = ⊥

-- what a survey in this mode prints, and what came of its files
abbrev pub Surveys : Type 0 → (List ℕ → FileState) → Mode → SurveyTask → Option (List ℕ) → Option (List ℕ) → Result Tally SumsFault → Type 0
Surveys sure at mode (Hashes from len bare files) old new answer = Lists (IsReadingAt sure at) (hash_line mode (not bare)) is_given (paths_of files.items) old new answer
Surveys sure at mode (Check quiet ranges sums) old new answer = Checks sure at mode sums quiet ranges old new answer
Surveys sure at mode (Info files) old new answer = Lists (IsLookAt sure at) kind_line is_some (paths_of files.items) old new answer

-- other bytes of output are asked for than the hash of each file
abbrev pub AsksForOutput : SurveyTask → Type 0
AsksForOutput (Hashes from len bare files) = (from ≢ 0) ⊎ (len ≢ 32)
AsksForOutput task = ⊥

-- the answer to a survey, in the mode that its key, the file with its key, or its context give
abbrev pub SurveyAnswers : Type 0 → (List ℕ → FileState) → Survey → Option (List ℕ) → Option (List ℕ) → Result Tally SurveyFault → Type 0
SurveyAnswers sure at survey old new (Err (OfMode fault)) = Keeps old new × IsModeDue at survey.key survey.key_file survey.context fault
SurveyAnswers sure at survey old new (Err Output) = Keeps old new × AsksForOutput survey.task
SurveyAnswers sure at survey old new (Err (Sums fault)) =
    (mode : Mode) × AsksForMode at (option_copied survey.key) (option_copied survey.key_file) (option_copied survey.context) mode × Surveys sure at mode survey.task old new (Err fault)
SurveyAnswers sure at survey old new (Ok tally) =
    (mode : Mode) × AsksForMode at (option_copied survey.key) (option_copied survey.key_file) (option_copied survey.context) mode
    × (¬ AsksForOutput survey.task) × Surveys sure at mode survey.task old new (Ok tally)

-- the exit status of what came of the files: 1 if one has another hash, else 3 if one can't be read
abbrev pub tally_status : Tally → ℕ
tally_status tally = if tally.failed then 1 else if tally.unread then 3 else 0

abbrev pub sums_status_of : SumsFault → ℕ
sums_status_of (File fault) = file_status_of fault
sums_status_of TooLong = 2
sums_status_of NoLine = 2

abbrev pub fault_status_of : SurveyFault → ℕ
fault_status_of (OfMode fault) = status_of fault
fault_status_of Output = 2
fault_status_of (Sums fault) = sums_status_of fault

abbrev pub answer_status : Result Tally SurveyFault → ℕ
answer_status (Ok tally) = tally_status tally
answer_status (Err fault) = fault_status_of fault

-- a survey's answer was printed, and the status is that of the answer
abbrev pub SurveyEnds : Type 0 → (List ℕ → FileState) → Survey → Option (List ℕ) → Option (List ℕ) → ℕ → Type 0
SurveyEnds sure at survey old new status = (answer : Result Tally SurveyFault) × (answer_status answer ≡ status) × SurveyAnswers sure at survey old new answer

-- The arguments ask for a survey, and it ended so.
abbrev pub Surveyed : List Text → Type 0 → (List ℕ → FileState) → Option (List ℕ) → Option (List ℕ) → ℕ → Type 0
Surveyed words sure at old new status = (survey : Survey) × AsksForSurvey words survey × SurveyEnds sure at survey old new status

-- clap finds no fault with the arguments, and they ask for a survey
abbrev pub AreOfMany : List Text → Type 0
AreOfMany words = (fault_of program_app words ≡ []) × ((survey : Survey) × AsksForSurvey words survey)

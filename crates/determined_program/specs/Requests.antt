-- Two requests that are the same: the same task with the same texts, numbers and options.
use Rattle.std.specs.Prelude.{◌≡◌, ◌⊎◌, [], ◌∷◌, Result, map}
use Rattle.std.specs.Option.{option_copied}
use Rattle.clap.specs.Words.{IsAmong, Kinds, kind_of}
use Rattle.clap.specs.declared.error.Error.{Error}
use Rattle.clap.specs.declared.error.kind.ErrorKind.{ErrorKind}
use Rattle.clap.specs.declared.error.kind.ErrorKind.TheVariants.{DisplayHelp, InvalidSubcommand, OutOfMemory, UnknownArgument}
use Rattle.bao_request.specs.declared.tasks.Asked.{Asked}
use Rattle.bao_request.specs.declared.tasks.Asked.TheVariants.{One, Many}
use Rattle.bao_request.specs.declared.tasks.Request.{Request}
use Rattle.bao_request.specs.declared.tasks.Survey.{Survey}
use Rattle.bao_request.specs.declared.tasks.SurveyTask.{SurveyTask}
use Rattle.bao_request.specs.declared.tasks.SurveyTask.TheVariants.{Hashes, Check, Info}
use Rattle.bao_request.specs.declared.tasks.Task.{Task}
use Rattle.determined_texts.specs.Agreeing.{AgreeBy}
use Rattle.bao_request.specs.declared.tasks.Task.TheVariants.{Hash, Encode, CutSlice, Decode, DecodeCopy, Gather, Replay}

abbrev pub SameTask : Task → Task → Type 0
SameTask (Hash at length file) (Hash at' length' file') = (at ≡ at') × (length ≡ length') × (file.now ≡ file'.now)
SameTask (Encode encoding file out) (Encode encoding' file' out') = (encoding ≡ encoding') × (file.now ≡ file'.now) × (out.now ≡ out'.now)
SameTask (CutSlice root start len outboard file out) (CutSlice root' start' len' outboard' file' out') =
    (root.now ≡ root'.now) × (start ≡ start') × (len ≡ len') × (option_copied outboard ≡ option_copied outboard') × (file.now ≡ file'.now) × (out.now ≡ out'.now)
SameTask (Decode root part file out) (Decode root' part' file' out') =
    (root.now ≡ root'.now) × (part ≡ part') × (file.now ≡ file'.now) × (out.now ≡ out'.now)
SameTask (DecodeCopy root outboard copy out) (DecodeCopy root' outboard' copy' out') =
    (root.now ≡ root'.now) × (outboard.now ≡ outboard'.now) × (copy.now ≡ copy'.now) × (out.now ≡ out'.now)
SameTask (Gather task) (Gather task') =
    (task.root.now ≡ task'.root.now) × (task.workers ≡ task'.workers) × (task.capacity ≡ task'.capacity) × (task.long ≡ task'.long) × (option_copied task.outboard ≡ option_copied task'.outboard)
    × (task.salvage ≡ task'.salvage) × (task.encode ≡ task'.encode) × (option_copied task.missing ≡ option_copied task'.missing)
    × (map (λ text. text.now) task.files.items ≡ map (λ text. text.now) task'.files.items) × (task.out.now ≡ task'.out.now)
SameTask (Replay root capacity script files) (Replay root' capacity' script' files') =
    (root.now ≡ root'.now) × (capacity ≡ capacity') × (script.now ≡ script'.now) × (map (λ text. text.now) files.items ≡ map (λ text. text.now) files'.items)
SameTask one other = ⊥

abbrev pub SameRequest : Request → Request → Type 0
SameRequest a b =
    SameTask a.task b.task × (option_copied a.key ≡ option_copied b.key) × (option_copied a.key_file ≡ option_copied b.key_file)
    × (option_copied a.context ≡ option_copied b.context) × (a.verbose ≡ b.verbose)

abbrev pub SameSurveyTask : SurveyTask → SurveyTask → Type 0
SameSurveyTask (Hashes at length bare files) (Hashes at' length' bare' files') =
    (at ≡ at') × (length ≡ length') × (bare ≡ bare') × (map (λ text. text.now) files.items ≡ map (λ text. text.now) files'.items)
SameSurveyTask (Check quiet ranges sums) (Check quiet' ranges' sums') = (quiet ≡ quiet') × (ranges ≡ ranges') × (sums.now ≡ sums'.now)
SameSurveyTask (Info files) (Info files') = map (λ text. text.now) files.items ≡ map (λ text. text.now) files'.items
SameSurveyTask one other = ⊥

abbrev pub SameSurvey : Survey → Survey → Type 0
SameSurvey a b =
    SameSurveyTask a.task b.task × (option_copied a.key ≡ option_copied b.key) × (option_copied a.key_file ≡ option_copied b.key_file)
    × (option_copied a.context ≡ option_copied b.context) × (a.verbose ≡ b.verbose)

abbrev pub SameAsked : Asked → Asked → Type 0
SameAsked (One a) (One b) = SameRequest a b
SameAsked (Many a) (Many b) = SameSurvey a b
SameAsked one other = ⊥

-- two kinds of fault that are one, or that both are among the two that clap's contract leaves open: for `help`, and for a word that no place takes
abbrev pub AreBoth : Kinds → ErrorKind → ErrorKind → Type 0
AreBoth kinds a b = IsAmong a kinds × IsAmong b kinds

abbrev pub SameKind : ErrorKind → ErrorKind → Type 0
SameKind a b = (a ≡ b) ⊎ (AreBoth (DisplayHelp ∷ InvalidSubcommand ∷ []) a b ⊎ AreBoth (UnknownArgument ∷ InvalidSubcommand ∷ []) a b)

-- the same request or survey, or the same kind of fault; or memory ran out
abbrev pub SameAnswer : Result Asked Error → Result Asked Error → Type 0
SameAnswer r s =
    AgreeBy SameAsked (λ e f. SameKind (kind_of e) (kind_of f) ⊎ (kind_of e ≡ OutOfMemory) ⊎ (kind_of f ≡ OutOfMemory)) (λ e. kind_of e ≡ OutOfMemory) (λ f. kind_of f ≡ OutOfMemory) r s

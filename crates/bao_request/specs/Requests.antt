-- what the arguments ask for: a request, from the rows that clap has of a subcommand's arguments (the name
-- of an option or argument, with its text)
use Rattle.std.specs.Prelude.{◌≡◌, ◌↔◌, ◌<◌, ◌^◌, ℕ, Bool, true, List, [], ◌∷◌, length, Option, Some, None, codes, map}
use Rattle.std.specs.Option.{option_copied}
use Rattle.std.specs.Str.Parse.{IsNumeral, digits_value, without_leading_plus}
use Rattle.std.specs.Borrow.{Bor}
use Rattle.clap.specs.Words.{Row, Text, all_of, first_of, one_of}
use Rattle.bao_text.specs.declared.kinds.Encoding.{Encoding}
use Rattle.bao_text.specs.declared.kinds.Encoding.TheVariants.{Combined, Outboard, Slice}
use Rattle.bao_text.specs.declared.kinds.Part.{Part}
use Rattle.bao_text.specs.declared.kinds.Part.TheVariants as part
use Rattle.bao_request.specs.declared.tasks.Asked.{Asked}
use Rattle.bao_request.specs.declared.tasks.Asked.TheVariants.{One, Many}
use Rattle.bao_request.specs.declared.tasks.Request.{Request}
use Rattle.bao_request.specs.declared.tasks.Survey.{Survey}
use Rattle.bao_request.specs.declared.tasks.SurveyTask.{SurveyTask}
use Rattle.bao_request.specs.declared.tasks.SurveyTask.TheVariants.{Hashes, Check, Info}
use Rattle.bao_request.specs.declared.tasks.Task.{Task}
use Rattle.bao_request.specs.declared.tasks.Task.TheVariants.{Hash, Encode, CutSlice, Decode, DecodeCopy, Gather, Replay}

-- what is found is such a thing, and where nothing is found there is none
abbrev pub Finds : {X : Type 0} → (X → Type 0) → Option X → Type 0
Finds {X} gives (Some x) = gives x
Finds {X} gives None = (x : X) → ¬ gives x

-- the row of this name has this text
abbrev pub GivesText : List Row → Text → Text → Type 0
GivesText rows id text = first_of id rows ≡ Some text

-- the row of this name has these texts
abbrev pub GivesTexts : List Row → Text → List (Bor Text) → Type 0
GivesTexts rows id texts = all_of id rows ≡ Some (map (λ text. text.now) texts)

-- the row of this name has decimal digits, of this value, which fits the bits
abbrev pub GivesNumber : ℕ → List Row → Text → ℕ → Type 0
GivesNumber bits rows id n =
    (text : Text) × (one_of id rows ≡ Some text) × (n ≡ digits_value 10 (without_leading_plus text)) × IsNumeral 10 (without_leading_plus text) × (n < 2 ^ bits)

-- the row of this name has the text `true`, or it hasn't
abbrev pub GivesFlag : List Row → Text → Bool → Type 0
GivesFlag rows id flag = (flag ≡ true) ↔ (first_of id rows ≡ Some (codes "true"))

-- the rows START and LEN have these numbers
abbrev pub GivesRange : List Row → ℕ → ℕ → Type 0
GivesRange rows start len = GivesNumber 64 rows (codes "START") start × GivesNumber 64 rows (codes "LEN") len

-- the subcommand of this name asks for this encoding
abbrev pub GivesEncoding : Text → List Row → Encoding → Type 0
GivesEncoding name rows Combined = name ≡ codes "encode"
GivesEncoding name rows Outboard = name ≡ codes "outboard"
GivesEncoding name rows (Slice start len) = (name ≡ codes "slice") × GivesRange rows start len

-- the subcommand of this name asks for the check of this part, in the file of this name
abbrev pub GivesPart : Text → List Row → Part → Text → Type 0
GivesPart name rows part.Whole file = (name ≡ codes "decode") × (first_of (codes "outboard") rows ≡ None) × GivesText rows (codes "ENC") file
GivesPart name rows (part.Slice start len) file =
    (name ≡ codes "decode-slice") × GivesRange rows start len × GivesText rows (codes "SLICE") file

-- the subcommand of this name asks for this task
abbrev pub GivesTask : Text → List Row → Task → Type 0
GivesTask name rows (Hash at length file) =
    (name ≡ codes "hash") × GivesNumber 64 rows (codes "at") at × GivesNumber 32 rows (codes "length") length × GivesTexts rows (codes "FILE") (file ∷ [])
GivesTask name rows (Encode encoding file out) =
    GivesEncoding name rows encoding × GivesText rows (codes "FILE") file.now × GivesText rows (codes "OUT") out.now
GivesTask name rows (CutSlice root start len outboard file out) =
    (name ≡ codes "cut-slice") × GivesRange rows start len × (option_copied outboard ≡ first_of (codes "outboard") rows)
    × GivesText rows (codes "ROOT") root.now × GivesText rows (codes "ENC") file.now × GivesText rows (codes "OUT") out.now
GivesTask name rows (Decode root part file out) =
    GivesPart name rows part file.now × GivesText rows (codes "ROOT") root.now × GivesText rows (codes "OUT") out.now
GivesTask name rows (DecodeCopy root outboard copy out) =
    (name ≡ codes "decode") × GivesText rows (codes "outboard") outboard.now × GivesText rows (codes "ENC") copy.now × GivesText rows (codes "ROOT") root.now × GivesText rows (codes "OUT") out.now
GivesTask name rows (Gather task) =
    (name ≡ codes "gather") × GivesNumber 32 rows (codes "workers") task.workers × GivesNumber 32 rows (codes "capacity") task.capacity × GivesFlag rows (codes "long") task.long × (option_copied task.outboard ≡ first_of (codes "outboard") rows) × GivesFlag rows (codes "salvage") task.salvage × GivesFlag rows (codes "encode") task.encode × (option_copied task.missing ≡ first_of (codes "missing") rows) × GivesText rows (codes "ROOT") task.root.now × GivesTexts rows (codes "FILE") task.files.items × GivesText rows (codes "OUT") task.out.now
GivesTask name rows (Replay root capacity script files) =
    (name ≡ codes "replay") × GivesNumber 32 rows (codes "capacity") capacity × GivesText rows (codes "ROOT") root.now × GivesText rows (codes "SCRIPT") script.now × GivesTexts rows (codes "FILE") files.items

-- the subcommand's name and rows ask for this request
abbrev pub GivesRequest : Option (Text × List Row) → Request → Type 0
GivesRequest None request = ⊥
GivesRequest (Some (name, rows)) request =
    GivesTask name rows request.task × (option_copied request.key ≡ first_of (codes "key") rows) × (option_copied request.key_file ≡ first_of (codes "key-file") rows)
    × (option_copied request.context ≡ first_of (codes "context") rows) × GivesFlag rows (codes "verbose") request.verbose

-- the subcommand of this name asks for this survey; `hash` does where several files are named
abbrev pub GivesSurveyTask : Text → List Row → SurveyTask → Type 0
GivesSurveyTask name rows (Hashes at len bare files) =
    (name ≡ codes "hash") × GivesNumber 64 rows (codes "at") at × GivesNumber 32 rows (codes "length") len × GivesFlag rows (codes "no-names") bare
    × GivesTexts rows (codes "FILE") files.items × (1 < length files.items)
GivesSurveyTask name rows (Check quiet ranges sums) =
    (name ≡ codes "check") × GivesFlag rows (codes "quiet") quiet × GivesFlag rows (codes "ranges") ranges × GivesText rows (codes "SUMS") sums.now
GivesSurveyTask name rows (Info files) = (name ≡ codes "info") × GivesTexts rows (codes "FILE") files.items

abbrev pub GivesSurvey : Option (Text × List Row) → Survey → Type 0
GivesSurvey None survey = ⊥
GivesSurvey (Some (name, rows)) survey =
    GivesSurveyTask name rows survey.task × (option_copied survey.key ≡ first_of (codes "key") rows) × (option_copied survey.key_file ≡ first_of (codes "key-file") rows)
    × (option_copied survey.context ≡ first_of (codes "context") rows) × GivesFlag rows (codes "verbose") survey.verbose

-- they ask for the one or the other
abbrev pub Gives : Option (Text × List Row) → Asked → Type 0
Gives rows (One request) = GivesRequest rows request
Gives rows (Many survey) = GivesSurvey rows survey

-- What the words of a command without options ask for: one task, and nothing is wrong with them.
use Rattle.std.proofs.Common.{◌≡◌, ◌∙◌, ℕ, ◌^◌, ◌<◌, ◌≤◌, List, [], ◌∷◌, ◌++◌, length, map, Option, Some, None, Bor, codes, Bool, false, true, refl, sym, subst, ap, arith, lit<}
use Rattle.std.proofs.lemmas.List.{length-map}
use Rattle.std.specs.Prelude.{Vec}
use Rattle.std.specs.Global.{Global}
use Rattle.std.specs.Fmt.{decimal}
use Rattle.clap.specs.Faults.{defaults_fault, fault_of, walk_fault}
use Rattle.clap.specs.Lexer.{usize_max}
use Rattle.clap.specs.Simple.{Shape}
use Rattle.clap.specs.Walk.{Held, finished, nothing_held, walk_from, walked}
use Rattle.clap.specs.Words.{Row, Text, first_of, subcommand_of}
use Rattle.bao_text.specs.declared.kinds.Encoding.{Encoding}
use Rattle.bao_text.specs.declared.kinds.Encoding.TheVariants.{Combined, Outboard, Slice}
use Rattle.bao_text.specs.declared.kinds.Part.TheVariants as part
use Rattle.bao_request.specs.CommandLine.{AsksFor, AsksForSurvey, program_app}
use Rattle.bao_request.specs.Requests.{GivesFlag, GivesRequest, GivesSurvey, GivesSurveyTask, GivesTask}
use Rattle.bao_request.proofs.Subcommands.{one_or_many}
use Rattle.bao_command.specs.Surveys.{AreOfOne}
use Rattle.bao_request.specs.declared.tasks.GatherTask.{GatherTask}
use Rattle.bao_request.specs.declared.tasks.Request.{Request}
use Rattle.bao_request.specs.declared.tasks.Survey.{Survey}
use Rattle.bao_request.specs.declared.tasks.SurveyTask.{SurveyTask}
use Rattle.bao_request.specs.declared.tasks.SurveyTask.TheVariants.{Hashes, Check, Info}
use Rattle.bao_request.specs.declared.tasks.Task.{Task}
use Rattle.bao_request.specs.declared.tasks.Task.TheVariants.{Hash, Encode, CutSlice, Decode, DecodeCopy, Gather}
use Rattle.determined_program.specs.Manual.{ArePlain, IsCommand, check_words, words_for}
use Rattle.determined_program.proofs.PlainWords.{Begins, IsMet, TakesFiles, beside_held, begins_bare, cut_begins, decimal_given, decimal_plain, decode_begins, files_leaf, files_rows, gather_leaf, gather_rows, gather_rows_are, gathering_held, leaf_fault, no_fault, placed_fault, range_faults, range_is_fine, rows_are, rows_for, shape_named}

-- the request for a task alone, without a key or a context
abbrev pub bare_request : Task → Request
bare_request task = record { key = None; key_file = None; context = None; verbose = false; task = task }

-- the words ask for it, and nothing is wrong with them
pub record AsksAlone (words : List Text) (task : Task) : Type 0 where
  pub asked : AsksFor words (bare_request task)
  pub taken : fault_of program_app words ≡ []
  pub one : AreOfOne words

-- the options that every subcommand has aren't given
record GivesNoOptions (rows : List Row) : Type 0 where
  key : first_of (codes "key") rows ≡ None
  key_file : first_of (codes "key-file") rows ≡ None
  context : first_of (codes "context") rows ≡ None
  verbose : first_of (codes "verbose") rows ≡ Some (codes "false")

flag_off : (rows : List Row) (id : Text) → first_of id rows ≡ Some (codes "false") → GivesFlag rows id false
flag_off rows id none = (λ on. cc, λ is. cc)

-- a survey without a key or a context
abbrev pub bare_survey : SurveyTask → Survey
bare_survey task = record { key = None; key_file = None; context = None; verbose = false; task = task }

-- the words ask for it, and nothing is wrong with them
pub record SurveysAlone (words : List Text) (task : SurveyTask) : Type 0 where
  pub asked : AsksForSurvey words (bare_survey task)
  pub taken : fault_of program_app words ≡ []

module _ (words : List Text) (name sub : Text) (s : Shape) (first : List Text) (held : Held) (arguments : List Text) (is : words ≡ name ∷ sub ∷ first ++ arguments)
    (met : IsMet sub s) (begins : Begins s first held) (plain : ArePlain arguments) where
  found : (rows : List Row) → rows_for s held arguments ≡ rows → subcommand_of program_app words ≡ Some (sub, rows)
  found rows are = ap (subcommand_of program_app) is ∙ rows_are name sub s first held arguments met begins plain ∙ ap (λ (r : List Row). Some (sub, r)) are

  fine_words : leaf_fault s held arguments ≡ [] → fault_of program_app words ≡ []
  fine_words fine = ap (fault_of program_app) is ∙ no_fault name sub s first held arguments met begins plain fine

  -- the rows ask for the task
  alone_by : (task : Task) (rows : List Row) → rows_for s held arguments ≡ rows → GivesTask sub rows task → GivesNoOptions rows → leaf_fault s held arguments ≡ [] → AsksAlone words task
  alone_by task rows are gives none fine =
      let asked : AsksFor words (bare_request task) =
      subst (λ (asked : Option (Text × List Row)). GivesRequest asked (bare_request task)) (sym (found rows are)) (gives, sym none.key, sym none.key_file, sym none.context, flag_off rows (codes "verbose") none.verbose) in
      record {
        asked = asked;
        one = λ survey. one_or_many (subcommand_of program_app words) (bare_request task) survey asked;
        taken = fine_words fine;
      }

  survey_by : (task : SurveyTask) (rows : List Row) → rows_for s held arguments ≡ rows → GivesSurveyTask sub rows task → GivesNoOptions rows → leaf_fault s held arguments ≡ [] → SurveysAlone words task
  survey_by task rows are gives none fine = record {
    asked = subst (λ (asked : Option (Text × List Row)). GivesSurvey asked (bare_survey task)) (sym (found rows are)) (gives, sym none.key, sym none.key_file, sym none.context, flag_off rows (codes "verbose") none.verbose);
    taken = fine_words fine;
  }

pub hash_alone : (words : List Text) (file : Bor Text) → IsCommand words (codes "hash" ∷ []) (file.now ∷ []) → AsksAlone words (Hash 0 32 file)
unfolding walked rows_for placed_fault defaults_fault
hash_alone words file asks =
    let s : Shape = shape_named (codes "hash") in
    let rows : List Row = rows_for s nothing_held (file.now ∷ []) in
    alone_by words asks.0 (codes "hash") s [] nothing_held (file.now ∷ []) asks.1 (record { met = refl; there = refl; named = refl; fine = refl }) (begins_bare s) asks.2 (Hash 0 32 file) rows refl
    (refl, (codes "0", refl, refl, (lit< tt, (lit< tt, tt)), lit< tt), (codes "32", refl, refl, (lit< tt, (lit< tt, (lit< tt, tt))), lit< tt), refl)
    (record { key = refl; key_file = refl; context = refl; verbose = refl }) refl

slice_leaf : (start len file out : Text) → leaf_fault (shape_named (codes "slice")) nothing_held (start ∷ len ∷ file ∷ out ∷ []) ≡ range_faults start len
unfolding placed_fault defaults_fault
slice_leaf start len file out = refl

pub encode_alone : (words : List Text) (encoding : Encoding) (file out : Bor Text) → ((start len : ℕ) → encoding ≡ Slice start len → (start < 2 ^ 64) × (len < 2 ^ 64)) → IsCommand words (words_for encoding) (file.now ∷ out.now ∷ []) → AsksAlone words (Encode encoding file out)
unfolding walked rows_for placed_fault defaults_fault
encode_alone words Combined file out ranged asks =
    let s : Shape = shape_named (codes "encode") in
    alone_by words asks.0 (codes "encode") s [] nothing_held (file.now ∷ out.now ∷ []) asks.1 (record { met = refl; there = refl; named = refl; fine = refl }) (begins_bare s) asks.2 (Encode Combined file out)
    (rows_for s nothing_held (file.now ∷ out.now ∷ [])) refl (refl, refl, refl) (record { key = refl; key_file = refl; context = refl; verbose = refl }) refl
encode_alone words Outboard file out ranged asks =
    let s : Shape = shape_named (codes "outboard") in
    alone_by words asks.0 (codes "outboard") s [] nothing_held (file.now ∷ out.now ∷ []) asks.1 (record { met = refl; there = refl; named = refl; fine = refl }) (begins_bare s) asks.2 (Encode Outboard file out)
    (rows_for s nothing_held (file.now ∷ out.now ∷ [])) refl (refl, refl, refl) (record { key = refl; key_file = refl; context = refl; verbose = refl }) refl
encode_alone words (Slice start len) file out ranged asks =
    let s : Shape = shape_named (codes "slice") in
    let arguments : List Text = decimal start ∷ decimal len ∷ file.now ∷ out.now ∷ [] in
    let rows : List Row = rows_for s nothing_held arguments in
    let low : start < 2 ^ 64 = (ranged start len refl).0 in
    let short : len < 2 ^ 64 = (ranged start len refl).1 in
    alone_by words asks.0 (codes "slice") s [] nothing_held arguments asks.1 (record { met = refl; there = refl; named = refl; fine = refl }) (begins_bare s)
    (decimal_plain start low, (decimal_plain len short, asks.2)) (Encode (Slice start len) file out) rows refl
    ((refl, (decimal_given start low rows (codes "START") refl, decimal_given len short rows (codes "LEN") refl)), refl, refl)
    (record { key = refl; key_file = refl; context = refl; verbose = refl }) (slice_leaf (decimal start) (decimal len) file.now out.now ∙ range_is_fine start len low short)

pub decode_alone : (words : List Text) (root file out : Bor Text) → IsCommand words (codes "decode" ∷ []) (root.now ∷ file.now ∷ out.now ∷ []) → AsksAlone words (Decode root part.Whole file out)
unfolding walked rows_for placed_fault defaults_fault
decode_alone words root file out asks =
    let s : Shape = shape_named (codes "decode") in
    let arguments : List Text = root.now ∷ file.now ∷ out.now ∷ [] in
    alone_by words asks.0 (codes "decode") s [] nothing_held arguments asks.1 (record { met = refl; there = refl; named = refl; fine = refl }) (begins_bare s) asks.2 (Decode root part.Whole file out)
    (rows_for s nothing_held arguments) refl ((refl, refl, refl), refl, refl) (record { key = refl; key_file = refl; context = refl; verbose = refl }) refl

-- the task of gathering without options
abbrev pub plain_gathering : Bor Text → Vec (Bor Text) Global → Bor Text → GatherTask
plain_gathering root files out = record {
  root = root;
  workers = 4;
  capacity = 65536;
  long = false;
  outboard = None;
  salvage = false;
  encode = false;
  missing = None;
  files = files;
  out = out;
}

gather_by : (words : List Text) (root out : Bor Text) (files : Vec (Bor Text) Global) (items : List (Bor Text)) → files.items ≡ items → 0 < length items → length items ≤ 64
    → IsCommand words (codes "gather" ∷ []) (root.now ∷ out.now ∷ map (λ file. file.now) items) → AsksAlone words (Gather (plain_gathering root files out))
unfolding walked gather_rows
gather_by words root out files [] are some few asks = absurd (omega (arith, some))
gather_by words root out files (file ∷ more) are some few asks =
    let s : Shape = shape_named (codes "gather") in
    let later : List Text = map (λ file. file.now) more in
    let rows : List Row = gather_rows root.now out.now file.now later in
    alone_by words asks.0 (codes "gather") s [] nothing_held (root.now ∷ out.now ∷ file.now ∷ later) asks.1 (record { met = refl; there = refl; named = refl; fine = refl }) (begins_bare s) asks.2
    (Gather (plain_gathering root files out)) rows (gather_rows_are root.now out.now file.now later) (
      refl,
      (codes "4", refl, refl, (lit< tt, (lit< tt, tt)), lit< tt),
      (codes "65536", refl, refl, (lit< tt, (lit< tt, (lit< tt, (lit< tt, (lit< tt, (lit< tt, tt)))))), lit< tt),
      flag_off rows (codes "long") refl,
      refl,
      flag_off rows (codes "salvage") refl,
      flag_off rows (codes "encode") refl,
      refl,
      refl,
      ap (λ (xs : List (Bor Text)). Some (map (λ file. file.now) xs)) (sym are),
      refl,
    )
    (record { key = refl; key_file = refl; context = refl; verbose = refl }) (gather_leaf root.now out.now file.now later (omega (arith, few, length-map more (λ file. file.now))))

pub gather_alone : (words : List Text) (root out : Bor Text) (files : Vec (Bor Text) Global) → 0 < length files.items → length files.items ≤ 64
    → IsCommand words (codes "gather" ∷ []) (root.now ∷ out.now ∷ map (λ file. file.now) files.items) → AsksAlone words (Gather (plain_gathering root files out))
gather_alone words root out files some few asks = gather_by words root out files files.items refl some few asks

pub decode_copy_alone : (words : List Text) (outboard root copy out : Bor Text) → IsCommand words (codes "decode" ∷ codes "--outboard" ∷ []) (outboard.now ∷ root.now ∷ copy.now ∷ out.now ∷ [])
    → AsksAlone words (DecodeCopy root outboard copy out)
unfolding walked rows_for placed_fault defaults_fault
decode_copy_alone words outboard root copy out asks =
    let s : Shape = shape_named (codes "decode") in
    let arguments : List Text = root.now ∷ copy.now ∷ out.now ∷ [] in
    let held : Held = beside_held outboard.now in
    alone_by words asks.0 (codes "decode") s (codes "--outboard" ∷ outboard.now ∷ []) held arguments asks.1 (record { met = refl; there = refl; named = refl; fine = refl })
    (decode_begins outboard.now asks.2.0) asks.2.1 (DecodeCopy root outboard copy out) (rows_for s held arguments) refl (refl, refl, refl, refl, refl)
    (record { key = refl; key_file = refl; context = refl; verbose = refl }) refl

decode_slice_leaf : (root start len file out : Text) → leaf_fault (shape_named (codes "decode-slice")) nothing_held (root ∷ start ∷ len ∷ file ∷ out ∷ []) ≡ range_faults start len
unfolding placed_fault defaults_fault
decode_slice_leaf root start len file out = refl

pub decode_slice_alone : (words : List Text) (root : Bor Text) (start len : ℕ) (file out : Bor Text) → start < 2 ^ 64 → len < 2 ^ 64
    → IsCommand words (codes "decode-slice" ∷ []) (root.now ∷ decimal start ∷ decimal len ∷ file.now ∷ out.now ∷ []) → AsksAlone words (Decode root (part.Slice start len) file out)
unfolding walked rows_for placed_fault defaults_fault
decode_slice_alone words root start len file out low short asks =
    let s : Shape = shape_named (codes "decode-slice") in
    let arguments : List Text = root.now ∷ decimal start ∷ decimal len ∷ file.now ∷ out.now ∷ [] in
    let rows : List Row = rows_for s nothing_held arguments in
    alone_by words asks.0 (codes "decode-slice") s [] nothing_held arguments asks.1 (record { met = refl; there = refl; named = refl; fine = refl }) (begins_bare s) asks.2
    (Decode root (part.Slice start len) file out) rows refl
    ((refl, (decimal_given start low rows (codes "START") refl, decimal_given len short rows (codes "LEN") refl), refl), refl, refl)
    (record { key = refl; key_file = refl; context = refl; verbose = refl }) (decode_slice_leaf root.now (decimal start) (decimal len) file.now out.now ∙ range_is_fine start len low short)

cut_leaf : (root start len file out : Text) → leaf_fault (shape_named (codes "cut-slice")) nothing_held (root ∷ start ∷ len ∷ file ∷ out ∷ []) ≡ range_faults start len
unfolding placed_fault defaults_fault
cut_leaf root start len file out = refl

pub cut_slice_alone : (words : List Text) (root : Bor Text) (start len : ℕ) (file out : Bor Text) → start < 2 ^ 64 → len < 2 ^ 64
    → IsCommand words (codes "cut-slice" ∷ []) (root.now ∷ decimal start ∷ decimal len ∷ file.now ∷ out.now ∷ []) → AsksAlone words (CutSlice root start len None file out)
unfolding walked rows_for placed_fault defaults_fault
cut_slice_alone words root start len file out low short asks =
    let s : Shape = shape_named (codes "cut-slice") in
    let arguments : List Text = root.now ∷ decimal start ∷ decimal len ∷ file.now ∷ out.now ∷ [] in
    let rows : List Row = rows_for s nothing_held arguments in
    alone_by words asks.0 (codes "cut-slice") s [] nothing_held arguments asks.1 (record { met = refl; there = refl; named = refl; fine = refl }) (begins_bare s) asks.2
    (CutSlice root start len None file out) rows refl
    (refl, (decimal_given start low rows (codes "START") refl, decimal_given len short rows (codes "LEN") refl), refl, refl, refl, refl)
    (record { key = refl; key_file = refl; context = refl; verbose = refl }) (cut_leaf root.now (decimal start) (decimal len) file.now out.now ∙ range_is_fine start len low short)

beside_leaf : (outboard root start len copy out : Text)
    → leaf_fault (shape_named (codes "cut-slice")) (beside_held outboard) (root ∷ start ∷ len ∷ copy ∷ out ∷ []) ≡ range_faults start len
unfolding placed_fault defaults_fault
beside_leaf outboard root start len copy out = refl

pub cut_beside_alone : (words : List Text) (outboard root : Bor Text) (start len : ℕ) (copy out : Bor Text) → start < 2 ^ 64 → len < 2 ^ 64
    → IsCommand words (codes "cut-slice" ∷ codes "--outboard" ∷ []) (outboard.now ∷ root.now ∷ decimal start ∷ decimal len ∷ copy.now ∷ out.now ∷ [])
    → AsksAlone words (CutSlice root start len (Some outboard) copy out)
unfolding walked rows_for placed_fault defaults_fault
cut_beside_alone words outboard root start len copy out low short asks =
    let s : Shape = shape_named (codes "cut-slice") in
    let arguments : List Text = root.now ∷ decimal start ∷ decimal len ∷ copy.now ∷ out.now ∷ [] in
    let held : Held = beside_held outboard.now in
    let rows : List Row = rows_for s held arguments in
    alone_by words asks.0 (codes "cut-slice") s (codes "--outboard" ∷ outboard.now ∷ []) held arguments asks.1 (record { met = refl; there = refl; named = refl; fine = refl })
    (cut_begins outboard.now asks.2.0) asks.2.1 (CutSlice root start len (Some outboard) copy out) rows refl
    (refl, (decimal_given start low rows (codes "START") refl, decimal_given len short rows (codes "LEN") refl), refl, refl, refl, refl)
    (record { key = refl; key_file = refl; context = refl; verbose = refl })
    (beside_leaf outboard.now root.now (decimal start) (decimal len) copy.now out.now ∙ range_is_fine start len low short)

-- the rows of files, where nothing else is given
unfoldable files_given : Shape → List Text → List Row
files_given s files = finished s.rules (gathering_held [] files)

files_given_are : (s : Shape) (takes : TakesFiles s) (file : Text) (more : List Text) → rows_for s nothing_held (file ∷ more) ≡ files_given s (file ∷ more)
unfolding files_given
files_given_are s takes file more = files_rows s takes file more

hash_takes : TakesFiles (shape_named (codes "hash"))
unfolding placed_fault defaults_fault
hash_takes = record { begun = λ file. refl; several = λ rows values word. refl; first = refl; fine = λ rows values. refl; settles = λ file more. refl; rest = λ file more. refl }

info_takes : TakesFiles (shape_named (codes "info"))
unfolding placed_fault defaults_fault
info_takes = record { begun = λ file. refl; several = λ rows values word. refl; first = refl; fine = λ rows values. refl; settles = λ file more. refl; rest = λ file more. refl }

hashes_by : (words : List Text) (files : Vec (Bor Text) Global) (items : List (Bor Text)) → files.items ≡ items → 1 < length items → length items ≤ usize_max
    → IsCommand words (codes "hash" ∷ []) (map (λ file. file.now) items) → SurveysAlone words (Hashes 0 32 false files)
unfolding walked files_given
hashes_by words files [] are some few asks = absurd (omega (arith, some))
hashes_by words files (file ∷ more) are some few asks =
    let s : Shape = shape_named (codes "hash") in
    let later : List Text = map (λ file. file.now) more in
    let rows : List Row = files_given s (file.now ∷ later) in
    survey_by words asks.0 (codes "hash") s [] nothing_held (file.now ∷ later) asks.1 (record { met = refl; there = refl; named = refl; fine = refl }) (begins_bare s) asks.2
    (Hashes 0 32 false files) rows (files_given_are s hash_takes file.now later) (
      refl,
      (codes "0", refl, refl, (lit< tt, (lit< tt, tt)), lit< tt),
      (codes "32", refl, refl, (lit< tt, (lit< tt, (lit< tt, tt))), lit< tt),
      flag_off rows (codes "no-names") refl,
      ap (λ (xs : List (Bor Text)). Some (map (λ file. file.now) xs)) (sym are),
      subst (λ (xs : List (Bor Text)). 1 < length xs) (sym are) some,
    )
    (record { key = refl; key_file = refl; context = refl; verbose = refl }) (files_leaf s hash_takes file.now later (omega (arith, few, length-map more (λ file. file.now))))

pub hashes_alone : (words : List Text) (files : Vec (Bor Text) Global) → 1 < length files.items → length files.items ≤ usize_max
    → IsCommand words (codes "hash" ∷ []) (map (λ file. file.now) files.items) → SurveysAlone words (Hashes 0 32 false files)
hashes_alone words files some few asks = hashes_by words files files.items refl some few asks

info_by : (words : List Text) (files : Vec (Bor Text) Global) (items : List (Bor Text)) → files.items ≡ items → 0 < length items → length items ≤ usize_max
    → IsCommand words (codes "info" ∷ []) (map (λ file. file.now) items) → SurveysAlone words (Info files)
unfolding walked files_given
info_by words files [] are some few asks = absurd (omega (arith, some))
info_by words files (file ∷ more) are some few asks =
    let s : Shape = shape_named (codes "info") in
    let later : List Text = map (λ file. file.now) more in
    survey_by words asks.0 (codes "info") s [] nothing_held (file.now ∷ later) asks.1 (record { met = refl; there = refl; named = refl; fine = refl }) (begins_bare s) asks.2
    (Info files) (files_given s (file.now ∷ later)) (files_given_are s info_takes file.now later)
    (refl, ap (λ (xs : List (Bor Text)). Some (map (λ file. file.now) xs)) (sym are))
    (record { key = refl; key_file = refl; context = refl; verbose = refl }) (files_leaf s info_takes file.now later (omega (arith, few, length-map more (λ file. file.now))))

pub info_alone : (words : List Text) (files : Vec (Bor Text) Global) → 0 < length files.items → length files.items ≤ usize_max
    → IsCommand words (codes "info" ∷ []) (map (λ file. file.now) files.items) → SurveysAlone words (Info files)
info_alone words files some few asks = info_by words files files.items refl some few asks

-- `--ranges`, and what is held once it has come
abbrev ranges_words : List Text
ranges_words = codes "--ranges" ∷ []

abbrev ranges_held : Held
ranges_held = (walked (shape_named (codes "check")).rules [] (walk_from nothing_held) (codes "--ranges")).held

ranges_begins : Begins (shape_named (codes "check")) ranges_words ranges_held
unfolding walked walk_fault
ranges_begins = record { goes = λ words. refl; fine = λ words. refl }

flag_on : (rows : List Row) (id : Text) → first_of id rows ≡ Some (codes "true") → GivesFlag rows id true
flag_on rows id is = (λ on. is, λ on. refl)

pub check_alone : (words : List Text) (ranges : Bool) (sums : Bor Text) → IsCommand words (check_words ranges) (sums.now ∷ []) → SurveysAlone words (Check false ranges sums)
unfolding walked rows_for placed_fault defaults_fault
check_alone words false sums asks =
    let s : Shape = shape_named (codes "check") in
    let rows : List Row = rows_for s nothing_held (sums.now ∷ []) in
    survey_by words asks.0 (codes "check") s [] nothing_held (sums.now ∷ []) asks.1 (record { met = refl; there = refl; named = refl; fine = refl }) (begins_bare s) asks.2 (Check false false sums) rows refl
    (refl, flag_off rows (codes "quiet") refl, flag_off rows (codes "ranges") refl, refl) (record { key = refl; key_file = refl; context = refl; verbose = refl }) refl
check_alone words true sums asks =
    let s : Shape = shape_named (codes "check") in
    let rows : List Row = rows_for s ranges_held (sums.now ∷ []) in
    survey_by words asks.0 (codes "check") s ranges_words ranges_held (sums.now ∷ []) asks.1 (record { met = refl; there = refl; named = refl; fine = refl }) ranges_begins asks.2
    (Check false true sums) rows refl
    (refl, flag_off rows (codes "quiet") refl, flag_on rows (codes "ranges") refl, refl) (record { key = refl; key_file = refl; context = refl; verbose = refl }) refl

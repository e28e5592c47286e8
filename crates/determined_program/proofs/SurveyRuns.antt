-- What comes of a survey of known files, without a key.
use Rattle.std.proofs.Common.{◌≡◌, ◌≢◌, ◌⊎◌, ◌∙◌, ℕ, ◌+◌, Bool, true, false, not, zero, suc, List, [], ◌∷◌, ◌++◌, length, take, map, Option, Some, None, IsSome, IsSomeAnd, Bor, Result, Ok, Err, inl, inr, refl, sym, subst, ap, arith}
use Rattle.std.specs.Prelude.{⊤, Vec, is_some}
use Rattle.std.specs.Global.{Global}
use Rattle.std.specs.List.{AllZip, list_all}
use Rattle.std.specs.Option.{option_copied}
use Rattle.std.specs.Io.KnownBytes.{Appends, Keeps}
use Rattle.std.proofs.Math.Seq.{take-append-add}
use Rattle.std.proofs.lemmas.Bool.{and_parts}
use Rattle.std.proofs.lemmas.List.{take_all}
use Rattle.std.proofs.KnownBytes.{Appends-kept, Appends-nil}
use Rattle.clap.specs.Words.{Text, subcommand_of}
use Rattle.b3tree.specs.Modes.{plain}
use Rattle.b3tree.specs.declared.mode.Mode.{Mode}
use Rattle.bao_files.specs.Disks.{FileState, Unknown, Absent, Stored, IsKnown, IsStored}
use Rattle.bao_files.specs.Printed.{AppendsBeginning}
use Rattle.bao_files.specs.declared.fault.FileFault.{FileFault}
use Rattle.bao_files.specs.declared.fault.FileFault.TheVariants.{Read, Write, Output, Encoding, Memory}
use Rattle.bao_sums.specs.Checked.{Checks, tally_of, verdicts_of}
use Rattle.bao_sums.specs.Each.{LeavesFirst, PrintsBeginning, PrintsFirst, lines_of}
use Rattle.bao_sums.specs.Hashed.{IsReadingAt, IsReadingOf, Reading, Given, Unread, hash_line, is_given, paths_of, reading_in}
use Rattle.bao_sums.specs.Kinds.{IsLookAt, IsLookOf, kind_line}
use Rattle.bao_sums.specs.declared.kinds.Seen.{Seen}
use Rattle.bao_sums.specs.declared.fault.SumsFault.{SumsFault}
use Rattle.bao_sums.specs.declared.fault.SumsFault.TheVariants.{File, TooLong, NoLine}
use Rattle.bao_sums.specs.declared.verdict.Tally.{Tally}
use Rattle.bao_request.specs.CommandLine.{program_app}
use Rattle.bao_request.specs.declared.tasks.Survey.{Survey}
use Rattle.bao_request.specs.declared.tasks.SurveyTask.{SurveyTask}
use Rattle.bao_request.specs.declared.tasks.SurveyTask.TheVariants.{Hashes, Check, Info}
use Rattle.bao_command.specs.ModeWords.{AsksForMode, GivesNoKey, IsModeDue, IsNoKey}
use Rattle.bao_command.specs.Status.{file_status_of, status_of}
use Rattle.bao_command.specs.Surveys.{AsksForOutput, Lists, SurveyAnswers, Surveyed, Surveys, answer_status, sums_status_of, tally_status, tally_unless}
use Rattle.bao_command.specs.declared.fault.Fault.{Fault}
use Rattle.bao_command.specs.declared.fault.Fault.TheVariants as fault
use Rattle.bao_command.specs.declared.survey_fault.SurveyFault.{SurveyFault}
use Rattle.bao_command.specs.declared.survey_fault.SurveyFault.TheVariants as ended_by
use Rattle.determined_program.specs.Manual.{AllStored, HasNoSums, IsChecked, IsDoneOrFailed, hash_lines, info_lines, look_in}
use Rattle.determined_program.specs.Requests.{SameSurvey, SameSurveyTask}
use Rattle.determined_program.proofs.PlainRequests.{SurveysAlone, bare_survey}
use Rattle.determined_program.proofs.Tasks.{one_survey}

-- a beginning of a beginning
take_twice : (m n : ℕ) (l : List ℕ) → (k : ℕ) × (take m (take n l) ≡ take k l)
take_twice zero n l = (0, refl)
take_twice (suc m) zero l = (0, refl)
take_twice (suc m) (suc n) [] = (0, refl)
take_twice (suc m) (suc n) (x ∷ xs) = let rest = take_twice m n xs in (suc rest.0, ap (λ (s : List ℕ). x ∷ s) rest.1)

all_of_it : (old new : Option (List ℕ)) (text : List ℕ) → Appends old new text → AppendsBeginning old new text
all_of_it old new text appends = (length text, subst (Appends old new) (sym (take_all (length text) text (omega arith))) appends)

nothing_of_it : (old new : Option (List ℕ)) (text : List ℕ) → Keeps old new → AppendsBeginning old new text
nothing_of_it old new text kept = (0, Appends-kept old old new [] (Appends-nil old) kept)

-- What is printed of files where one outcome alone is of each.
module _ {Y : Type 0} (Is : List ℕ → Y → Type 0) (line : List ℕ → Y → List ℕ) (own : List ℕ → Y) (one : (path : List ℕ) (y : Y) → Is path y → y ≡ own path) where
  abbrev text_of : List (List ℕ) → List ℕ
  text_of paths = lines_of line paths (map own paths)

  all_own : (paths : List (List ℕ)) (ys : List Y) → AllZip Is paths ys → ys ≡ map own paths
  all_own [] [] are = refl
  all_own [] (y ∷ ys) are = absurd are
  all_own (path ∷ paths) [] are = absurd are
  all_own (path ∷ paths) (y ∷ ys) are =
      ap (λ (first : Y). first ∷ ys) (one path y are.0) ∙ ap (λ (rest : List Y). own path ∷ rest) (all_own paths ys are.1)

  begins : (count : ℕ) (paths : List (List ℕ)) → (n : ℕ) × (text_of (take count paths) ≡ take n (text_of paths))
  begins zero paths = (0, refl)
  begins (suc count) [] = (0, refl)
  begins (suc count) (path ∷ paths) =
      let rest = begins count paths in
      let front : List ℕ = line path (own path) in
      (length front + rest.0, ap (λ (t : List ℕ). front ++ t) rest.1 ∙ sym (take-append-add front (text_of paths) rest.0))

  module _ (paths : List (List ℕ)) (old new : Option (List ℕ)) where
    first_lines : PrintsFirst Is line paths old new → AppendsBeginning old new (text_of paths)
    first_lines printed =
        let same = all_own (take printed.0 paths) printed.1 printed.3 in
        let begun = begins printed.0 paths in
        (begun.0, subst (Appends old new) (ap (lines_of line (take printed.0 paths)) same ∙ begun.1) printed.4)

    some_text : PrintsBeginning Is line paths old new → AppendsBeginning old new (text_of paths)
    some_text printed =
        let same = all_own (take printed.0 paths) printed.1 printed.3 in
        let begun = begins printed.0 paths in
        let less = take_twice printed.4.0 begun.0 (text_of paths) in
        (less.0, subst (Appends old new) (ap (take printed.4.0) (ap (lines_of line (take printed.0 paths)) same ∙ begun.1) ∙ less.1) printed.4.1)

    left : (fault : FileFault) → LeavesFirst Is line paths old new fault → ((file_status_of fault ≡ 3) ⊎ (file_status_of fault ≡ 4)) × AppendsBeginning old new (text_of paths)
    left (Read path) is = absurd is
    left (Write path) is = absurd is
    left Output is = (inl refl, some_text is)
    left Encoding is = absurd is
    left Memory is = (inr refl, first_lines is)

    -- all of it was printed, and each file is there; or a beginning was
    abbrev Ended : (Y → Bool) → ℕ → Type 0
    Ended is_good status =
        ((status ≡ 0) × (list_all is_good (map own paths) ≡ true) × Appends old new (text_of paths))
        ⊎ (((status ≡ 3) ⊎ (status ≡ 4)) × AppendsBeginning old new (text_of paths))

    by_whole : (is_good : Y → Bool) (tally : Tally) (whole : Bool) → list_all is_good (map own paths) ≡ whole → tally ≡ tally_unless whole → Appends old new (text_of paths)
        → Ended is_good (tally_status tally)
    by_whole is_good tally true is such appends = inl (ap tally_status such, is, appends)
    by_whole is_good tally false is such appends = inr (inl (ap tally_status such), all_of_it old new (text_of paths) appends)

    abbrev sums_answer : Result Tally SumsFault → ℕ
    sums_answer (Ok tally) = tally_status tally
    sums_answer (Err fault) = sums_status_of fault

    ended : (is_good : Y → Bool) (answer : Result Tally SumsFault) → Lists Is line is_good paths old new answer → Ended is_good (sums_answer answer)
    ended is_good (Ok tally) each =
        let same = all_own paths each.0 each.1 in
        by_whole is_good tally (list_all is_good (map own paths)) refl (each.2 ∙ ap (λ (ys : List Y). tally_unless (list_all is_good ys)) same)
        (subst (λ (ys : List Y). Appends old new (lines_of line paths ys)) same each.3)
    ended is_good (Err (File fault)) each = inr (left fault each)
    ended is_good (Err TooLong) each = absurd each
    ended is_good (Err NoLine) each = absurd each

none_there : (o : Option (Bor Text)) → option_copied o ≡ None → o ≡ None
none_there None is = refl
none_there (Some x) is = cc

no_some : IsSome {T = Bor Text} None → ⊥
no_some bad = cc

-- a survey that is the same as one without a key has none
abbrev HasNoKey : Survey → Type 0
HasNoKey survey = (option_copied survey.key ≡ None) × (option_copied survey.key_file ≡ None) × (option_copied survey.context ≡ None)

mode_is : (at : List ℕ → FileState) (survey : Survey) (mode : Mode) → HasNoKey survey
    → AsksForMode at (option_copied survey.key) (option_copied survey.key_file) (option_copied survey.context) mode → mode ≡ plain
mode_is at survey mode none has =
    let own : AsksForMode at None None None mode = subst (λ (T : Type 0). T) (λ i. AsksForMode at (none.0 i) (none.1 i) (none.2 i) mode) has in
    cc

-- its mode is refused for want of memory alone
memory_alone : (at : List ℕ → FileState) (survey : Survey) (refused : Fault) → HasNoKey survey → IsModeDue at survey.key survey.key_file survey.context refused → refused ≡ fault.File Memory
memory_alone at survey refused none due =
    let key : survey.key ≡ None = none_there survey.key none.0 in
    let key_file : survey.key_file ≡ None = none_there survey.key_file none.1 in
    elim due [
      | inl bad ↦ absurd (subst (λ (k : Option (Bor Text)). IsNoKey k) key bad.1)
      | inr (inl bad) ↦ absurd (no_some (subst (λ (k : Option (Bor Text)). IsSome k) key bad.1.0))
      | inr (inr (inl bad)) ↦ absurd (subst (λ (k : Option (Bor Text)). IsSomeAnd k (λ path. GivesNoKey (at path.now))) key_file bad.1)
      | inr (inr (inr (inl bad))) ↦ absurd (no_some (subst (λ (k : Option (Bor Text)). IsSome k) key_file bad.1.0))
      | inr (inr (inr (inr (inl memory)))) ↦ memory
      | inr (inr (inr (inr (inr named)))) ↦ let same : None ≡ Some named.0 = sym key_file ∙ named.1.0 in cc
    ]

-- what comes of a known file is one alone
reading_of : (state : FileState) (reading : Reading) → IsKnown state → IsReadingOf ⊤ state reading → reading ≡ reading_in state
reading_of Unknown reading known is = absurd known
reading_of Absent (Given bytes) known is = absurd is
reading_of Absent Unread known is = refl
reading_of (Stored s) (Given bytes) known is = ap Given is
reading_of (Stored s) Unread known is = absurd (is tt tt)

look_of : (state : FileState) (look : Option Seen) → IsKnown state → IsLookOf ⊤ state look → look ≡ look_in state
look_of Unknown look known is = absurd known
look_of Absent (Some seen) known is = absurd is
look_of Absent None known is = refl
look_of (Stored s) (Some seen) known is = λ i. Some (record { size = is.0 i; claim = is.1 i })
look_of (Stored s) None known is = absurd (is tt tt)

-- a file that was read, or looked at, is there
stored_given : (state : FileState) → is_given (reading_in state) ≡ true → IsStored state
stored_given Unknown is = cc
stored_given Absent is = cc
stored_given (Stored s) is = tt

stored_seen : (state : FileState) → is_some (look_in state) ≡ true → IsStored state
stored_seen Unknown is = cc
stored_seen Absent is = cc
stored_seen (Stored s) is = tt

all_stored : {Y : Type 0} (at : List ℕ → FileState) (own : FileState → Y) (is_good : Y → Bool) → ((state : FileState) → is_good (own state) ≡ true → IsStored state)
    → (paths : List (List ℕ)) → list_all is_good (map (λ path. own (at path)) paths) ≡ true → AllStored at paths
all_stored at own is_good stored [] all = tt
all_stored at own is_good stored (path ∷ paths) all =
    let both = and_parts (is_good (own (at path))) (list_all is_good (map (λ path. own (at path)) paths)) all in (stored (at path) both.0, all_stored at own is_good stored paths both.1)

-- The files of SUMS were checked; or SUMS has no good line, or too many bytes; or a file can't be read or written, or memory ran out.
abbrev pub CheckTold : (List ℕ → FileState) → Bool → Bool → List ℕ → Option (List ℕ) → Option (List ℕ) → ℕ → Type 0
CheckTold at quiet ranges path old new status =
    IsChecked at quiet ranges path old new status ⊎ ((status ≡ 2) × Keeps old new × HasNoSums (at path)) ⊎ (status ≡ 3) ⊎ (status ≡ 4)

-- All files are there, and this was printed; or a beginning of it was.
abbrev pub Told : (List ℕ → FileState) → List (List ℕ) → Option (List ℕ) → Option (List ℕ) → List ℕ → ℕ → Type 0
Told at paths old new text status = ((status ≡ 0) × AllStored at paths × Appends old new text) ⊎ (((status ≡ 3) ⊎ (status ≡ 4)) × AppendsBeginning old new text)

abbrev sums_status : Result Tally SumsFault → ℕ
sums_status (Ok tally) = tally_status tally
sums_status (Err fault) = sums_status_of fault

-- What comes of files where one outcome alone is of each.
module _ (at : List ℕ → FileState) (known : (path : List ℕ) → IsKnown (at path)) (old new : Option (List ℕ)) where
  told : {Y : Type 0} (Is : FileState → Y → Type 0) (line : List ℕ → Y → List ℕ) (own : FileState → Y) (is_good : Y → Bool)
      → ((state : FileState) (y : Y) → IsKnown state → Is state y → y ≡ own state) → ((state : FileState) → is_good (own state) ≡ true → IsStored state)
      → (paths : List (List ℕ)) (answer : Result Tally SumsFault) → Lists (λ path y. Is (at path) y) line is_good paths old new answer
      → Told at paths old new (lines_of line paths (map (λ path. own (at path)) paths)) (sums_status answer)
  told Is line own is_good one stored paths answer lists =
      elim (ended (λ path y. Is (at path) y) line (λ path. own (at path)) (λ path y is. one (at path) y (known path) is) paths old new is_good answer lists) [
        | inl whole ↦ inl (whole.0, all_stored at own is_good stored paths whole.1, whole.2)
        | inr begun ↦ inr begun
      ]

  -- what a survey without a key comes to
  module _ (task : SurveyTask) (Target : ℕ → Type 0) (starved : (status : ℕ) → status ≡ 4 → Keeps old new → Target status) (calm : (other : SurveyTask) → SameSurveyTask other task → ¬ AsksForOutput other)
      (lists : (other : SurveyTask) (answer : Result Tally SumsFault) → SameSurveyTask other task → Surveys ⊤ at plain other old new answer → Target (sums_status answer)) where
    answered : (survey : Survey) (answer : Result Tally SurveyFault) → SameSurvey survey (bare_survey task) → SurveyAnswers ⊤ at survey old new answer → Target (answer_status answer)
    answered survey (Ok tally) same says =
        lists survey.task (Ok tally) same.0
        (subst (λ (mode : Mode). Surveys ⊤ at mode survey.task old new (Ok tally)) (mode_is at survey says.0 (same.1, same.2, same.3) says.1) says.3)
    answered survey (Err (ended_by.Sums refused)) same says =
        lists survey.task (Err refused) same.0
        (subst (λ (mode : Mode). Surveys ⊤ at mode survey.task old new (Err refused)) (mode_is at survey says.0 (same.1, same.2, same.3) says.1) says.2)
    answered survey (Err ended_by.Output) same says = absurd (calm survey.task same.0 says.1)
    answered survey (Err (ended_by.Mode refused)) same says =
        starved (status_of refused) (ap status_of (memory_alone at survey refused (same.1, same.2, same.3) says.1)) says.0

    surveyed : (words : List Text) (status : ℕ) → SurveysAlone words task → ((status ≡ 4) × Keeps old new) ⊎ Surveyed words ⊤ at old new status → Target status
    surveyed words status alone says = elim says [
      | inl memory ↦ starved status memory.0 memory.1
      | inr ran ↦ subst Target ran.2.1 (answered ran.0 ran.2.0 (one_survey (subcommand_of program_app words) ran.0 (bare_survey task) ran.1 alone.asked) ran.2.2)
    ]

  told_starved : (paths : List (List ℕ)) (text : List ℕ) (status : ℕ) → status ≡ 4 → Keeps old new → Told at paths old new text status
  told_starved paths text status is kept = inr (inr is, nothing_of_it old new text kept)

  module _ (files : Vec (Bor Text) Global) where
    no_output : (other : SurveyTask) → SameSurveyTask other (Hashes 0 32 false files) → ¬ AsksForOutput other
    no_output (Hashes from len bare items) same = λ asks. elim asks [ inl some ↦ some same.0 | inr other ↦ other same.1 ]
    no_output (Check quiet ranges sums) same = λ asks. asks
    no_output (Info items) same = λ asks. asks

    hash_lists : (other : SurveyTask) (answer : Result Tally SumsFault) → SameSurveyTask other (Hashes 0 32 false files) → Surveys ⊤ at plain other old new answer
        → Told at (paths_of files.items) old new (hash_lines at (paths_of files.items)) (sums_status answer)
    hash_lists (Hashes from len bare items) answer same says =
        told (IsReadingOf ⊤) (hash_line plain true) reading_in is_given reading_of stored_given (paths_of files.items) answer
        (subst (λ (T : Type 0). T) (λ i. Lists (IsReadingAt ⊤ at) (hash_line plain (not (same.2 i))) is_given (same.3 i) old new answer) says)
    hash_lists (Check quiet ranges sums) answer same says = absurd same
    hash_lists (Info items) answer same says = absurd same

    pub hashes_told : (words : List Text) (status : ℕ) → SurveysAlone words (Hashes 0 32 false files) → ((status ≡ 4) × Keeps old new) ⊎ Surveyed words ⊤ at old new status
        → Told at (paths_of files.items) old new (hash_lines at (paths_of files.items)) status
    hashes_told = surveyed (Hashes 0 32 false files) (Told at (paths_of files.items) old new (hash_lines at (paths_of files.items)))
        (told_starved (paths_of files.items) (hash_lines at (paths_of files.items))) no_output hash_lists

    no_output_info : (other : SurveyTask) → SameSurveyTask other (Info files) → ¬ AsksForOutput other
    no_output_info (Hashes from len bare items) same = λ asks. same
    no_output_info (Check quiet ranges sums) same = λ asks. asks
    no_output_info (Info items) same = λ asks. asks

    info_lists : (other : SurveyTask) (answer : Result Tally SumsFault) → SameSurveyTask other (Info files) → Surveys ⊤ at plain other old new answer
        → Told at (paths_of files.items) old new (info_lines at (paths_of files.items)) (sums_status answer)
    info_lists (Hashes from len bare items) answer same says = absurd same
    info_lists (Check quiet ranges sums) answer same says = absurd same
    info_lists (Info items) answer same says =
        told (IsLookOf ⊤) kind_line look_in is_some look_of stored_seen (paths_of files.items) answer
        (subst (λ (paths : List (List ℕ)). Lists (IsLookAt ⊤ at) kind_line is_some paths old new answer) same says)

    pub info_told : (words : List Text) (status : ℕ) → SurveysAlone words (Info files) → ((status ≡ 4) × Keeps old new) ⊎ Surveyed words ⊤ at old new status
        → Told at (paths_of files.items) old new (info_lines at (paths_of files.items)) status
    info_told = surveyed (Info files) (Told at (paths_of files.items) old new (info_lines at (paths_of files.items)))
        (told_starved (paths_of files.items) (info_lines at (paths_of files.items))) no_output_info info_lists

  module _ (ranges : Bool) (sums : Bor Text) where
    no_output_check : (other : SurveyTask) → SameSurveyTask other (Check false ranges sums) → ¬ AsksForOutput other
    no_output_check (Hashes from len bare items) same = λ asks. same
    no_output_check (Check quiet also path) same = λ asks. asks
    no_output_check (Info items) same = λ asks. asks

    sums_ended : (quiet also : Bool) (path : Bor Text) (answer : Result Tally SumsFault) → Checks ⊤ at plain path quiet also old new answer
        → CheckTold at quiet also path.now old new (sums_status answer)
    sums_ended quiet also path (Ok tally) says = inl (says.0, says.2.0, says.1, says.2.1, ap tally_status says.2.2, says.2.3)
    sums_ended quiet also path (Err TooLong) says = inr (inl (refl, says.0, inl says.1))
    sums_ended quiet also path (Err NoLine) says = inr (inl (refl, says.0, inr says.1))
    sums_ended quiet also path (Err (File (Read unread))) says = inr (inr (inl refl))
    sums_ended quiet also path (Err (File (Write unread))) says = inr (inr (inl refl))
    sums_ended quiet also path (Err (File Output)) says = inr (inr (inl refl))
    sums_ended quiet also path (Err (File Encoding)) says = absurd says.2
    sums_ended quiet also path (Err (File Memory)) says = inr (inr (inr refl))

    check_lists : (other : SurveyTask) (answer : Result Tally SumsFault) → SameSurveyTask other (Check false ranges sums) → Surveys ⊤ at plain other old new answer
        → CheckTold at false ranges sums.now old new (sums_status answer)
    check_lists (Hashes from len bare items) answer same says = absurd same
    check_lists (Check quiet also path) answer same says =
        subst (λ (T : Type 0). T) (λ i. CheckTold at (same.0 i) (same.1 i) (same.2 i) old new (sums_status answer)) (sums_ended quiet also path answer says)
    check_lists (Info items) answer same says = absurd same

    pub check_told : (words : List Text) (status : ℕ) → SurveysAlone words (Check false ranges sums) → ((status ≡ 4) × Keeps old new) ⊎ Surveyed words ⊤ at old new status
        → CheckTold at false ranges sums.now old new status
    check_told = surveyed (Check false ranges sums) (CheckTold at false ranges sums.now old new) (λ status is kept. inr (inr (inr is))) no_output_check check_lists

-- what it says of the status
module _ (at : List ℕ → FileState) (paths : List (List ℕ)) (old new : Option (List ℕ)) (text : List ℕ) (status : ℕ) where
  pub told_done : Told at paths old new text status → status ≡ 0 → AllStored at paths × Appends old new text
  told_done (inl whole) is = (whole.1, whole.2)
  told_done (inr begun) is = absurd (elim begun.0 [ inl three ↦ omega (arith, three, is) | inr four ↦ omega (arith, four, is) ])

  pub told_begun : Told at paths old new text status → AppendsBeginning old new text
  told_begun (inl whole) = all_of_it old new text whole.2
  told_begun (inr begun) = begun.1

  pub told_status : Told at paths old new text status → IsDoneOrFailed status
  told_status (inl whole) = inl whole.0
  told_status (inr begun) = inr begun.0

not_two : (tally : Tally) (failed unread : Bool) → tally.failed ≡ failed → tally.unread ≡ unread → tally_status tally ≢ 2
not_two tally true unread f u = λ two. let is : tally_status tally ≡ 1 = rw f refl in omega (arith, is, two)
not_two tally false true f u = λ two. let is : tally_status tally ≡ 3 = rw (f, u) refl in omega (arith, is, two)
not_two tally false false f u = λ two. let is : tally_status tally ≡ 0 = rw (f, u) refl in omega (arith, is, two)

module _ (at : List ℕ → FileState) (ranges : Bool) (path : List ℕ) (old new : Option (List ℕ)) (status : ℕ) where
  pub check_done : CheckTold at false ranges path old new status → (status ≡ 0) ⊎ (status ≡ 1) → IsChecked at false ranges path old new status
  check_done (inl checked) is = checked
  check_done (inr (inl usage)) is = absurd (elim is [ inl none ↦ omega (arith, none, usage.0) | inr one ↦ omega (arith, one, usage.0) ])
  check_done (inr (inr (inl three))) is = absurd (elim is [ inl none ↦ omega (arith, none, three) | inr one ↦ omega (arith, one, three) ])
  check_done (inr (inr (inr four))) is = absurd (elim is [ inl none ↦ omega (arith, none, four) | inr one ↦ omega (arith, one, four) ])

  pub check_usage : CheckTold at false ranges path old new status → status ≡ 2 → Keeps old new × HasNoSums (at path)
  check_usage (inl checked) is = let tally : Tally = tally_of (verdicts_of checked.1) in absurd (not_two tally tally.failed tally.unread refl refl (sym checked.4 ∙ is))
  check_usage (inr (inl usage)) is = (usage.1, usage.2)
  check_usage (inr (inr (inl three))) is = absurd (omega (arith, is, three))
  check_usage (inr (inr (inr four))) is = absurd (omega (arith, is, four))

-- What kind of task a subcommand asks for.
use Rattle.std.proofs.Common.{◌≡◌, ◌∙◌, ◌==◌, ◌<◌, ℕ, ◌+◌, ◌*◌, Bor, Option, None, Some, List, [], ◌∷◌, length, map, slice_index, codes, if◌then◌else◌, ap, refl, sym, arith}
use Rattle.clap.specs.Words.{Row, Text, all_of}
use Rattle.bao_text.specs.declared.kinds.Encoding.{Encoding}
use Rattle.bao_text.specs.declared.kinds.Encoding.TheVariants.{Combined, Outboard, Slice}
use Rattle.bao_text.specs.declared.kinds.Part.{Part}
use Rattle.bao_text.specs.declared.kinds.Part.TheVariants as part
use Rattle.bao_request.specs.declared.tasks.Task.{Task}
use Rattle.bao_request.specs.declared.tasks.Task.TheVariants.{Hash, Encode, CutSlice, Decode, DecodeCopy, Gather, Replay}
use Rattle.bao_request.specs.declared.tasks.Request.{Request}
use Rattle.bao_request.specs.declared.tasks.Survey.{Survey}
use Rattle.bao_request.specs.declared.tasks.SurveyTask.{SurveyTask}
use Rattle.bao_request.specs.declared.tasks.SurveyTask.TheVariants.{Hashes, Check, Info}
use Rattle.bao_request.specs.Requests.{GivesEncoding, GivesPart, GivesRequest, GivesSurvey, GivesSurveyTask, GivesTask}

-- the subcommand of an encoding, and of a part
abbrev pub encoding_name : Encoding → Text
encoding_name Combined = codes "encode"
encoding_name Outboard = codes "outboard"
encoding_name (Slice start len) = codes "slice"

abbrev pub part_name : Part → Text
part_name part.Whole = codes "decode"
part_name (part.Slice start len) = codes "decode-slice"

pub encoding_named : (name : Text) (rows : List Row) (e : Encoding) → GivesEncoding name rows e → name ≡ encoding_name e
encoding_named name rows Combined a = a
encoding_named name rows Outboard a = a
encoding_named name rows (Slice start len) a = a.0

pub part_named : (name : Text) (rows : List Row) (p : Part) (f : Text) → GivesPart name rows p f → name ≡ part_name p
part_named name rows part.Whole f a = a.0
part_named name rows (part.Slice s l) f a = a.0

-- a number for each name, by its length and its first two letters
abbrev pub letters : Text → ℕ
letters name = 65536 * length name + (256 * slice_index name 0 + slice_index name 1)

-- what kind of task a subcommand asks for, by its first letter, and by the second of `check` and `cut-slice`
abbrev pub class : Text → ℕ
class name =
    if slice_index name 0 == 103 then 3
    else if slice_index name 0 == 104 then 0
    else if slice_index name 0 == 114 then 4
    else if slice_index name 0 == 100 then 2
    else if slice_index name 0 == 105 then 7 else if slice_index name 0 == 99 then (if slice_index name 1 == 104 then 6 else 5) else 1

abbrev pub task_class : Task → ℕ
task_class (Hash at size file) = 0
task_class (Encode encoding file out) = 1
task_class (CutSlice root start len outboard file out) = 5
task_class (Decode root part file out) = 2
task_class (DecodeCopy root outboard copy out) = 2
task_class (Gather task) = 3
task_class (Replay root capacity script files) = 4

encoding_class : (e : Encoding) → class (encoding_name e) ≡ 1
encoding_class Combined = refl
encoding_class Outboard = refl
encoding_class (Slice s l) = refl

part_class : (p : Part) → class (part_name p) ≡ 2
part_class part.Whole = refl
part_class (part.Slice s l) = refl

pub writes : (name : Text) (rows : List Row) (e : Encoding) → GivesEncoding name rows e → class name ≡ 1
writes name rows e a = ap class (encoding_named name rows e a) ∙ encoding_class e

pub class_is : (name : Text) (rows : List Row) (t : Task) → GivesTask name rows t → class name ≡ task_class t
class_is name rows (Hash at size file) a = ap class a.0
class_is name rows (Encode encoding file out) a = writes name rows encoding a.0
class_is name rows (CutSlice root start len outboard file out) a = ap class a.0
class_is name rows (Decode root part file out) a = ap class (part_named name rows part file.now a.0) ∙ part_class part
class_is name rows (DecodeCopy root outboard copy out) a = ap class a.0
class_is name rows (Gather task) a = ap class a.0
class_is name rows (Replay root capacity script files) a = ap class a.0

abbrev pub survey_class : SurveyTask → ℕ
survey_class (Hashes at size bare files) = 0
survey_class (Check quiet ranges sums) = 6
survey_class (Info files) = 7

pub survey_class_is : (name : Text) (rows : List Row) (s : SurveyTask) → GivesSurveyTask name rows s → class name ≡ survey_class s
survey_class_is name rows (Hashes at size bare files) a = ap class a.0
survey_class_is name rows (Check quiet ranges sums) a = ap class a.0
survey_class_is name rows (Info files) a = ap class a.0

-- one file or several
single_or_several : (found : Option (List Text)) (file : Bor Text) (files : List (Bor Text)) → found ≡ Some (map (λ (text : Bor Text). text.now) (file ∷ []))
    → found ≡ Some (map (λ (text : Bor Text). text.now) files) → ¬ (1 < length files)
single_or_several found file [] one several many = absurd (omega (arith, many))
single_or_several found file (first ∷ []) one several many = absurd (omega (arith, many))
single_or_several found file (first ∷ second ∷ rest) one several many =
    let no : Some (file.now ∷ []) ≡ Some (first.now ∷ second.now ∷ map (λ (text : Bor Text). text.now) rest) = sym one ∙ several in cc

below_six : (task : Task) → task_class task < 6
below_six (Hash at size file) = omega arith
below_six (Encode encoding file out) = omega arith
below_six (CutSlice root start len outboard file out) = omega arith
below_six (Decode root part file out) = omega arith
below_six (DecodeCopy root outboard copy out) = omega arith
below_six (Gather task) = omega arith
below_six (Replay root capacity script files) = omega arith

task_or_survey : (name : Text) (rows : List Row) (task : Task) (survey : SurveyTask) → GivesTask name rows task → ¬ GivesSurveyTask name rows survey
task_or_survey name rows (Hash at size file) (Hashes at' size' bare files) a b = single_or_several (all_of (codes "FILE") rows) file files.items a.3 b.4 b.5
task_or_survey name rows task (Hashes at size bare files) a b = let e : task_class task ≡ 0 = sym (class_is name rows task a) ∙ ap class b.0 in absurd (omega (arith, e))
task_or_survey name rows task (Check quiet ranges sums) a b = let e : task_class task ≡ 6 = sym (class_is name rows task a) ∙ ap class b.0 in absurd (omega (arith, e, below_six task))
task_or_survey name rows task (Info files) a b = let e : task_class task ≡ 7 = sym (class_is name rows task a) ∙ ap class b.0 in absurd (omega (arith, e, below_six task))

-- the same arguments don't ask for both
pub one_or_many : (asked : Option (Text × List Row)) (request : Request) (survey : Survey) → GivesRequest asked request → ¬ GivesSurvey asked survey
one_or_many None request survey p q = absurd p
one_or_many (Some asked) request survey p q = task_or_survey asked.0 asked.1 request.task survey.task p.0 q.0

-- The arguments ask for one request.
use Rattle.std.proofs.Common.{◌≡◌, ◌↔◌, arith, ℕ, Bool, Bor, true, false, List, [], ◌∷◌, map, Option, None, Some, codes, sym, ap, ◌∙◌, refl}
use Rattle.std.specs.Str.Parse.{digits_value, without_leading_plus}
use Rattle.clap.specs.Words.{Row, Text, all_of, first_of, one_of}
use Rattle.bao_text.specs.declared.kinds.Encoding.{Encoding}
use Rattle.bao_text.specs.declared.kinds.Encoding.TheVariants.{Combined, Outboard, Slice}
use Rattle.bao_text.specs.declared.kinds.Part.{Part}
use Rattle.bao_text.specs.declared.kinds.Part.TheVariants as part
use Rattle.bao_request.specs.declared.tasks.Asked.{Asked}
use Rattle.bao_request.specs.declared.tasks.Asked.TheVariants.{One, Many}
use Rattle.bao_request.specs.declared.tasks.Request.{Request}
use Rattle.bao_request.specs.declared.tasks.Survey.{Survey}
use Rattle.bao_request.specs.declared.tasks.SurveyTask.{SurveyTask}
use Rattle.bao_request.specs.declared.tasks.SurveyTask.TheVariants.{Hashes, Check, Info}
use Rattle.bao_request.specs.declared.tasks.Task.{Task}
use Rattle.bao_request.specs.declared.tasks.Task.TheVariants.{Hash, Encode, CutSlice, Decode, DecodeCopy, Gather, Replay}
use Rattle.bao_request.specs.Requests.{Gives, GivesEncoding, GivesNumber, GivesPart, GivesRequest, GivesSurvey, GivesSurveyTask, GivesTask, GivesText}
use Rattle.bao_request.proofs.Subcommands.{class_is, letters, one_or_many, survey_class, survey_class_is, task_class}
use Rattle.determined_program.specs.Requests.{SameAsked, SameRequest, SameSurvey, SameSurveyTask, SameTask}

same_some : {X : Type 0} (o : Option X) (x y : X) → o ≡ Some x → o ≡ Some y → x ≡ y
same_some o x y a b = cc

one_number : (bits : ℕ) (rows : List Row) (id : Text) (m n : ℕ) → GivesNumber bits rows id m → GivesNumber bits rows id n → m ≡ n
one_number bits rows id m n a b =
    let text : a.0 ≡ b.0 = same_some (one_of id rows) a.0 b.0 a.1 b.1 in a.2 ∙ ap (λ (s : Text). digits_value 10 (without_leading_plus s)) text ∙ sym b.2

one_flag : (x y : Bool) (P : Type 0) → ((x ≡ true) ↔ P) → ((y ≡ true) ↔ P) → x ≡ y
one_flag true true P a b = refl
one_flag false false P a b = refl
one_flag true false P a b = sym (b.1 (a.0 refl))
one_flag false true P a b = a.1 (b.0 refl)

one_text : (rows : List Row) (id : Text) (x y : Text) → GivesText rows id x → GivesText rows id y → x ≡ y
one_text rows id x y a b = same_some (first_of id rows) x y a b

one_encoding : (name : Text) (rows : List Row) (e f : Encoding) → GivesEncoding name rows e → GivesEncoding name rows f → e ≡ f
one_encoding name rows (Slice s l) (Slice t m) a b =
    let start : s ≡ t = one_number 64 rows (codes "START") s t a.1.0 b.1.0 in
    let len : l ≡ m = one_number 64 rows (codes "LEN") l m a.1.1 b.1.1 in
    ap (λ k. Slice k l) start ∙ ap (λ k. Slice t k) len
one_encoding name rows Combined Combined a b = refl
one_encoding name rows Outboard Outboard a b = refl
one_encoding name rows Combined Outboard a b = absurd (omega (arith, ap letters (sym a ∙ b)))
one_encoding name rows Outboard Combined a b = absurd (omega (arith, ap letters (sym a ∙ b)))
one_encoding name rows Combined (Slice t m) a b = absurd (omega (arith, ap letters (sym a ∙ b.0)))
one_encoding name rows Outboard (Slice t m) a b = absurd (omega (arith, ap letters (sym a ∙ b.0)))
one_encoding name rows (Slice s l) Combined a b = absurd (omega (arith, ap letters (sym a.0 ∙ b)))
one_encoding name rows (Slice s l) Outboard a b = absurd (omega (arith, ap letters (sym a.0 ∙ b)))

one_part : (name : Text) (rows : List Row) (p q : Part) (f g : Text) → GivesPart name rows p f → GivesPart name rows q g → (p ≡ q) × (f ≡ g)
one_part name rows part.Whole part.Whole f g a b = (refl, one_text rows (codes "ENC") f g a.2 b.2)
one_part name rows (part.Slice s l) (part.Slice t m) f g a b = (
  ap (λ k. part.Slice k l) (one_number 64 rows (codes "START") s t a.1.0 b.1.0) ∙ ap (λ k. part.Slice t k) (one_number 64 rows (codes "LEN") l m a.1.1 b.1.1),
  one_text rows (codes "SLICE") f g a.2 b.2,
)
one_part name rows part.Whole (part.Slice t m) f g a b = absurd (omega (arith, ap letters (sym a.0 ∙ b.0)))
one_part name rows (part.Slice s l) part.Whole f g a b = absurd (omega (arith, ap letters (sym a.0 ∙ b.0)))

-- the one text of a list
one_file : (found : Option (List Text)) (file also : Bor Text) → found ≡ Some (file.now ∷ []) → found ≡ Some (also.now ∷ []) → file.now ≡ also.now
one_file found file also a b = let same : file.now ∷ [] ≡ also.now ∷ [] = same_some found (file.now ∷ []) (also.now ∷ []) a b in cc

pub one_task : (name : Text) (rows : List Row) (one other : Task) → GivesTask name rows one → GivesTask name rows other → SameTask one other
one_task name rows (Hash at size file) (Hash at' size' file') a b = (
  one_number 64 rows (codes "at") at at' a.1 b.1,
  one_number 32 rows (codes "length") size size' a.2 b.2,
  one_file (all_of (codes "FILE") rows) file file' a.3 b.3,
)
one_task name rows (Encode encoding file out) (Encode encoding' file' out') a b = (
  one_encoding name rows encoding encoding' a.0 b.0,
  one_text rows (codes "FILE") file.now file'.now a.1 b.1,
  one_text rows (codes "OUT") out.now out'.now a.2 b.2,
)
one_task name rows (CutSlice root start len outboard file out) (CutSlice root' start' len' outboard' file' out') a b = (
  one_text rows (codes "ROOT") root.now root'.now a.3 b.3,
  one_number 64 rows (codes "START") start start' a.1.0 b.1.0,
  one_number 64 rows (codes "LEN") len len' a.1.1 b.1.1,
  a.2 ∙ sym b.2,
  one_text rows (codes "ENC") file.now file'.now a.4 b.4,
  one_text rows (codes "OUT") out.now out'.now a.5 b.5,
)
one_task name rows (Decode root part file out) (Decode root' part' file' out') a b =
    let same = one_part name rows part part' file.now file'.now a.0 b.0 in (
      one_text rows (codes "ROOT") root.now root'.now a.1 b.1,
      same.0,
      same.1,
      one_text rows (codes "OUT") out.now out'.now a.2 b.2,
    )
one_task name rows (DecodeCopy root outboard copy out) (DecodeCopy root' outboard' copy' out') a b = (
  one_text rows (codes "ROOT") root.now root'.now a.3 b.3,
  one_text rows (codes "outboard") outboard.now outboard'.now a.1 b.1,
  one_text rows (codes "ENC") copy.now copy'.now a.2 b.2,
  one_text rows (codes "OUT") out.now out'.now a.4 b.4,
)
one_task name rows (Gather task) (Gather task') a b = (
  one_text rows (codes "ROOT") task.root.now task'.root.now a.8 b.8,
  one_number 32 rows (codes "workers") task.workers task'.workers a.1 b.1,
  one_number 32 rows (codes "capacity") task.capacity task'.capacity a.2 b.2,
  one_flag task.long task'.long (first_of (codes "long") rows ≡ Some (codes "true")) a.3 b.3,
  a.4 ∙ sym b.4,
  one_flag task.salvage task'.salvage (first_of (codes "salvage") rows ≡ Some (codes "true")) a.5 b.5,
  one_flag task.encode task'.encode (first_of (codes "encode") rows ≡ Some (codes "true")) a.6 b.6,
  a.7 ∙ sym b.7,
  same_some (all_of (codes "FILE") rows) (map (λ text. text.now) task.files.items) (map (λ text. text.now) task'.files.items) a.9 b.9,
  one_text rows (codes "OUT") task.out.now task'.out.now a.10 b.10,
)
one_task name rows (Replay root capacity script files) (Replay root' capacity' script' files') a b = (
  one_text rows (codes "ROOT") root.now root'.now a.2 b.2,
  one_number 32 rows (codes "capacity") capacity capacity' a.1 b.1,
  one_text rows (codes "SCRIPT") script.now script'.now a.3 b.3,
  same_some (all_of (codes "FILE") rows) (map (λ text. text.now) files.items) (map (λ text. text.now) files'.items) a.4 b.4,
)
one_task name rows (Decode root part.Whole file out) (DecodeCopy root' outboard' copy' out') a b = let no : None ≡ Some outboard'.now = sym a.0.1 ∙ b.1 in cc
one_task name rows (DecodeCopy root outboard copy out) (Decode root' part.Whole file' out') a b = let no : None ≡ Some outboard.now = sym b.0.1 ∙ a.1 in cc
one_task name rows (Decode root (part.Slice s l) file out) (DecodeCopy root' outboard' copy' out') a b = absurd (omega (arith, ap letters (sym a.0.0 ∙ b.0)))
one_task name rows (DecodeCopy root outboard copy out) (Decode root' (part.Slice s l) file' out') a b = absurd (omega (arith, ap letters (sym a.0 ∙ b.0.0)))
one_task name rows one other a b = let e : task_class one ≡ task_class other = sym (class_is name rows one a) ∙ class_is name rows other b in absurd (omega (arith, e))

pub one_request : (asked : Option (Text × List Row)) (a b : Request) → GivesRequest asked a → GivesRequest asked b → SameRequest a b
one_request None a b p q = absurd p
one_request (Some asked) a b p q = (one_task asked.0 asked.1 a.task b.task p.0 q.0, p.1 ∙ sym q.1, p.2 ∙ sym q.2, p.3 ∙ sym q.3, one_flag a.verbose b.verbose (first_of (codes "verbose") asked.1 ≡ Some (codes "true")) p.4 q.4)

one_survey_task : (name : Text) (rows : List Row) (one other : SurveyTask) → GivesSurveyTask name rows one → GivesSurveyTask name rows other → SameSurveyTask one other
one_survey_task name rows (Hashes at size bare files) (Hashes at' size' bare' files') a b = (
  one_number 64 rows (codes "at") at at' a.1 b.1,
  one_number 32 rows (codes "length") size size' a.2 b.2,
  one_flag bare bare' (first_of (codes "no-names") rows ≡ Some (codes "true")) a.3 b.3,
  same_some (all_of (codes "FILE") rows) (map (λ text. text.now) files.items) (map (λ text. text.now) files'.items) a.4 b.4,
)
one_survey_task name rows (Check quiet ranges sums) (Check quiet' ranges' sums') a b = (
  one_flag quiet quiet' (first_of (codes "quiet") rows ≡ Some (codes "true")) a.1 b.1,
  one_flag ranges ranges' (first_of (codes "ranges") rows ≡ Some (codes "true")) a.2 b.2,
  one_text rows (codes "SUMS") sums.now sums'.now a.3 b.3,
)
one_survey_task name rows (Info files) (Info files') a b =
    same_some (all_of (codes "FILE") rows) (map (λ text. text.now) files.items) (map (λ text. text.now) files'.items) a.1 b.1
one_survey_task name rows one other a b =
    let e : survey_class one ≡ survey_class other = sym (survey_class_is name rows one a) ∙ survey_class_is name rows other b in absurd (omega (arith, e))

pub one_survey : (asked : Option (Text × List Row)) (a b : Survey) → GivesSurvey asked a → GivesSurvey asked b → SameSurvey a b
one_survey None a b p q = absurd p
one_survey (Some asked) a b p q = (one_survey_task asked.0 asked.1 a.task b.task p.0 q.0, p.1 ∙ sym q.1, p.2 ∙ sym q.2, p.3 ∙ sym q.3, one_flag a.verbose b.verbose (first_of (codes "verbose") asked.1 ≡ Some (codes "true")) p.4 q.4)

pub one_asked : (asked : Option (Text × List Row)) (a b : Asked) → Gives asked a → Gives asked b → SameAsked a b
one_asked asked (One a) (One b) p q = one_request asked a b p q
one_asked asked (Many a) (Many b) p q = one_survey asked a b p q
one_asked asked (One a) (Many b) p q = absurd (one_or_many asked a b p q)
one_asked asked (Many a) (One b) p q = absurd (one_or_many asked b a q p)

-- A subcommand of which an argument is missing asks for nothing.
use Rattle.std.proofs.Common.{◌≡◌, ◌∙◌, ◌<◌, ◌^◌, ℕ, List, [], ◌∷◌, length, map, refl, sym, Option, None, Some, IsNone, Bor, codes, ap, arith}
use Rattle.clap.specs.Words.{Row, Text}
use Rattle.bao_text.specs.declared.kinds.Encoding.TheVariants.{Combined, Outboard, Slice}
use Rattle.bao_text.specs.declared.kinds.Part.TheVariants as part
use Rattle.bao_request.specs.declared.tasks.Task.{Task}
use Rattle.bao_request.specs.declared.tasks.Task.TheVariants.{Hash, Encode, CutSlice, Decode, DecodeCopy, Gather, Replay}
use Rattle.bao_request.specs.declared.tasks.SurveyTask.{SurveyTask}
use Rattle.bao_request.specs.declared.tasks.SurveyTask.TheVariants.{Hashes, Check, Info}
use Rattle.bao_request.specs.Requests.{Finds, GivesSurveyTask, GivesNumber, GivesRange, GivesTask, GivesText, GivesTexts}
use Rattle.bao_request.proofs.Subcommands.{class_is, letters}

-- nothing was found where there is nothing
pub nothing : {X : Type 0} (gives : X → Type 0) (o : Option X) → IsNone o → ((x : X) → ¬ gives x) → Finds gives o
nothing gives None e missing = missing
nothing gives (Some x) e missing = cc

pub absent : {X : Type 0} (gives : X → Type 0) (o : Option X) (x : X) → o ≡ None → Finds gives o → ¬ gives x
absent gives None x e found = found x
absent gives (Some y) x e found = cc

-- a number of 32 bits is one of 64
pub wider : (rows : List Row) (id : Text) (n : ℕ) → GivesNumber 32 rows id n → GivesNumber 64 rows id n
wider rows id n a =
    let small : n < 2 ^ 32 = a.4 in (a.0, a.1, a.2, a.3, omega arith)

pub no_hash : (rows : List Row)
    → ((at size : ℕ) (file : Bor Text) → GivesNumber 64 rows (codes "at") at → GivesNumber 32 rows (codes "length") size → ¬ GivesTexts rows (codes "FILE") (file ∷ []))
    → (task : Task) → ¬ GivesTask (codes "hash") rows task
no_hash rows without (Hash at size file) a = without at size file a.1 a.2 a.3
no_hash rows without task a = let e = class_is (codes "hash") rows task a in absurd (omega (arith, e))

pub no_slice : (rows : List Row) → ((start len : ℕ) → ¬ GivesRange rows start len) → (task : Task) → ¬ GivesTask (codes "slice") rows task
no_slice rows without (Encode Combined file out) a = absurd (omega (arith, ap letters a.0))
no_slice rows without (Encode Outboard file out) a = absurd (omega (arith, ap letters a.0))
no_slice rows without (Encode (Slice start len) file out) a = without start len a.0.1
no_slice rows without task a = let e = class_is (codes "slice") rows task a in absurd (omega (arith, e))

pub no_cut_slice : (rows : List Row)
    → ((start len : ℕ) (root file out : Bor Text) → GivesRange rows start len → GivesText rows (codes "ROOT") root.now → GivesText rows (codes "ENC") file.now → ¬ GivesText rows (codes "OUT") out.now)
    → (task : Task) → ¬ GivesTask (codes "cut-slice") rows task
no_cut_slice rows without (CutSlice root start len outboard file out) a = without start len root file out a.1 a.3 a.4 a.5
no_cut_slice rows without task a = let e = class_is (codes "cut-slice") rows task a in absurd (omega (arith, e))

pub no_decode_slice : (rows : List Row)
    → ((start len : ℕ) (root slice out : Bor Text) → GivesRange rows start len → GivesText rows (codes "ROOT") root.now → GivesText rows (codes "SLICE") slice.now → ¬ GivesText rows (codes "OUT") out.now)
    → (task : Task) → ¬ GivesTask (codes "decode-slice") rows task
no_decode_slice rows without (Decode root part.Whole file out) a = absurd (omega (arith, ap letters a.0.0))
no_decode_slice rows without (Decode root (part.Slice start len) file out) a = without start len root file out a.0.1 a.1 a.0.2 a.2
no_decode_slice rows without (DecodeCopy root outboard copy out) a = absurd (omega (arith, ap letters a.0))
no_decode_slice rows without task a = let e = class_is (codes "decode-slice") rows task a in absurd (omega (arith, e))

pub no_gather : (rows : List Row)
    → ((root out : Bor Text) (workers capacity : ℕ) (files : List (Bor Text)) → GivesText rows (codes "ROOT") root.now → GivesNumber 32 rows (codes "workers") workers → GivesNumber 32 rows (codes "capacity") capacity
    → GivesTexts rows (codes "FILE") files → ¬ GivesText rows (codes "OUT") out.now)
    → (task : Task) → ¬ GivesTask (codes "gather") rows task
no_gather rows without (Gather task) a = without task.root task.out task.workers task.capacity task.files.items a.8 a.1 a.2 a.9 a.10
no_gather rows without task a = let e = class_is (codes "gather") rows task a in absurd (omega (arith, e))

pub no_replay : (rows : List Row)
    → ((root script : Bor Text) (capacity : ℕ) (files : List (Bor Text)) → GivesText rows (codes "ROOT") root.now → GivesNumber 32 rows (codes "capacity") capacity → GivesText rows (codes "SCRIPT") script.now
    → ¬ GivesTexts rows (codes "FILE") files)
    → (task : Task) → ¬ GivesTask (codes "replay") rows task
no_replay rows without (Replay root capacity script files) a = without root script capacity files.items a.2 a.1 a.3 a.4
no_replay rows without task a = let e = class_is (codes "replay") rows task a in absurd (omega (arith, e))

-- a list whose texts are those of one, though it isn't one
pub not_single : (found : Option (List Text)) (texts : List (Bor Text)) (file : Bor Text) → found ≡ Some (map (λ (text : Bor Text). text.now) texts)
    → ((only : Bor Text) → ¬ (texts ≡ only ∷ [])) → ¬ (found ≡ Some (map (λ (text : Bor Text). text.now) (file ∷ [])))
not_single found [] file are none is = let empty : List Text = [] in let no : Some empty ≡ Some (file.now ∷ []) = sym are ∙ is in cc
not_single found (only ∷ []) file are none is = none only refl
not_single found (first ∷ second ∷ rest) file are none is =
    let no : Some (first.now ∷ second.now ∷ map (λ (text : Bor Text). text.now) rest) ≡ Some (file.now ∷ []) = sym are ∙ is in cc

-- so it is of surveys
pub no_hashes : (rows : List Row)
    → ((at size : ℕ) (files : List (Bor Text)) → GivesNumber 64 rows (codes "at") at → GivesNumber 32 rows (codes "length") size → GivesTexts rows (codes "FILE") files → ¬ (1 < length files))
    → (task : SurveyTask) → ¬ GivesSurveyTask (codes "hash") rows task
no_hashes rows without (Hashes at size bare files) a = without at size files.items a.1 a.2 a.4 a.5
no_hashes rows without (Check quiet ranges sums) a = absurd (omega (arith, ap letters a.0))
no_hashes rows without (Info files) a = absurd (omega (arith, ap letters a.0))

pub no_info : (rows : List Row) → ((files : List (Bor Text)) → ¬ GivesTexts rows (codes "FILE") files) → (task : SurveyTask) → ¬ GivesSurveyTask (codes "info") rows task
no_info rows without (Hashes at size bare files) a = absurd (omega (arith, ap letters a.0))
no_info rows without (Check quiet ranges sums) a = absurd (omega (arith, ap letters a.0))
no_info rows without (Info files) a = without files.items a.1

-- What sources lack, the files lack that they are of.
use Rattle.std.specs.Borrow.{Bor}
use Rattle.std.proofs.Common.{◌≡◌, ◌^◌, ◌<◌, ℕ, Bool, true, false, List, length, Option, None, Some, IfSome, slice_get, subst, inl, inr}
use Rattle.std.proofs.lemmas.Option.{slice_get_within}
use Rattle.std.specs.Bool.{⊤}
use Rattle.bao_files.specs.Disks.{FileState}
use Rattle.holders.specs.declared.form.Form.{Form}
use Rattle.holders.specs.declared.form.Form.TheVariants.{Slices, Bare}
use Rattle.holders.specs.declared.piece.Piece.{Piece}
use Rattle.bao_windows.specs.declared.wanted.Wanted.{Wanted}
use Rattle.bao_windows.specs.Available.{CertifiesEnd, GaveEnd, HasNoEnd, IsEndOf, IsFirstEnd, IsNoEnd, end_span, end_start, gives_in}
use Rattle.bao_windows.specs.Windows.{IsFrom, IsLengthOfEach, fixed_for}
use Rattle.bao_tasks.specs.declared.missing.Lack.{Lack}
use Rattle.bao_tasks.specs.declared.missing.Lack.TheVariants.{Unasked, Starved, End, Missing}
use Rattle.holders.specs.Blobs.{fixed_as}
use Rattle.bao_tasks.specs.FromFiles.{IsFromFile, IsInFile, file_bytes, never_fails}
use Rattle.bao_tasks.specs.Givens.{most_bytes}
use Rattle.bao_tasks.specs.Missing.{ClaimsLength, HasUnit, IsClaim, IsLackOf, IsTotal, JudgesClaim, JudgesUnit}
use Rattle.bao_tasks.specs.MissingInFiles.{ClaimsLengthIn, IsCertifiedIn, IsLackIn, IsReachIn, IsTotalIn, JudgesUnitIn, LacksEnd, OfEachFile, OfSomeFile}
use Rattle.bao_tasks.specs.TakenFiles.{AreOfFiles, HasSound, IsReachOf}
use Rattle.bao_tasks.specs.Worth.{IsSaidOf}
use Rattle.bao_tasks.proofs.FromFiles.{cut_of, pair_of_files, part_of}
use Rattle.bao_tasks.proofs.Gaps.{parts_as}

-- what is said of a source holds for its bytes
said_known : (contents : Option (List ℕ)) (faultless : Type 0) (P : List ℕ → Type 0) (bytes : List ℕ) → contents ≡ Some bytes → length bytes < 2 ^ 64 → faultless
    → IsSaidOf contents faultless P → P bytes
said_known contents faultless P bytes is few sound said = (subst (λ (c : Option (List ℕ)). IsSaidOf c faultless P) is said) few sound

-- and for those of its file, if they are known
said_file : (contents : Option (List ℕ)) (faultless : Type 0) (bytes : Option (List ℕ)) (P : List ℕ → Type 0) → IfSome bytes (λ s. contents ≡ Some s) → faultless
    → IsSaidOf contents faultless P → IsSaidOf bytes ⊤ P
said_file contents faultless None P known sound said = tt
said_file contents faultless (Some s) P known sound said = λ few quiet. said_known contents faultless P s known few sound said

-- what a source gives, its file gives
gives_as : {S T : Type 0} (form : Form) (contents : S → Option (List ℕ)) (faultless : S → Type 0) (bytes_of : T → Option (List ℕ)) (source : S) (file : T) (start len : ℕ) (text : List ℕ)
    → IfSome (bytes_of file) (λ s. contents source ≡ Some s) → faultless source → gives_in form contents faultless source start len text
    → gives_in form bytes_of (λ (it : T). ⊤) file start len text
gives_as Slices contents faultless bytes_of source file start len text known sound gave =
    cut_of (contents source) (faultless source) (bytes_of file) start len text known sound gave
gives_as (Bare outline) contents faultless bytes_of source file start len text known sound gave =
    part_of (contents source) (faultless source) (bytes_of file) start _ text known sound gave

end_as : {S T : Type 0} (form : Form) (contents : S → Option (List ℕ)) (faultless : S → Type 0) (bytes_of : T → Option (List ℕ)) (source : S) (file : T) (P : Piece → Type 0)
    → IfSome (bytes_of file) (λ s. contents source ≡ Some s) → faultless source → GaveEnd form contents faultless source P → GaveEnd form bytes_of (λ (it : T). ⊤) file P
end_as form contents faultless bytes_of source file P known sound gave =
    (gave.0, gives_as form contents faultless bytes_of source file (end_start form) (end_span form) gave.0 known sound gave.1, gave.2)

-- what a source certifies, its file certifies, as far as that was read
certifies_as : {S : Type 0} (contents : S → Option (List ℕ)) (faultless : S → Type 0) (sure : Type 0) (wanted : Wanted) (Reach : ℕ → Type 0) (at : List ℕ → FileState)
    (paths : List (Bor (List ℕ))) (sources : List S) → sure → AreOfFiles contents faultless sure Reach (λ n. file_bytes (most_bytes wanted.form n) at) paths sources
    → (place total : ℕ) → CertifiesEnd contents faultless wanted sources place total
    → (n : ℕ) × Reach n × (file : ℕ) × CertifiesEnd (file_bytes (most_bytes wanted.form n) at) never_fails wanted paths file total
certifies_as contents faultless sure wanted Reach at paths sources surely are place total by =
    let file = are place by.0 by.1 in
    let n : ℕ = file.of.reach in (
      n,
      file.of.reached surely,
      file.place,
      (
        file.path,
        file.there,
        by.2,
        end_as wanted.form contents faultless (file_bytes (most_bytes wanted.form n) at) by.0 file.path (IsEndOf wanted total) (file.of.known surely) (file.of.sound surely) by.3,
      ),
    )

-- so what is read after these sources is read as far as the files say
pub reach_as : {S : Type 0} (contents : S → Option (List ℕ)) (faultless : S → Type 0) (sure : Type 0) (wanted : Wanted) (long : Bool) (capacity : ℕ) (at : List ℕ → FileState)
    (paths : List (Bor (List ℕ))) (sources : List S)
    → AreOfFiles contents faultless sure (IsReachIn wanted long capacity at paths) (λ n. file_bytes (most_bytes wanted.form n) at) paths sources
    → sure → (n : ℕ) → IsReachOf contents faultless wanted long capacity sources n → IsReachIn wanted long capacity at paths n
reach_as contents faultless sure wanted long capacity at paths sources are surely n (inl all) = inl all
reach_as contents faultless sure wanted long capacity at paths sources are surely n (inr more) = inr (
  more.0,
  elim more.1 [
    | inl longest ↦ inl longest
    | inr by ↦
        let file = certifies_as contents faultless sure wanted (IsReachIn wanted long capacity at paths) at paths sources surely are by.0 n by.1 in
        inr (most_bytes wanted.form file.0, file.2, file.3)
  ],
)

module _ {S : Type 0} (contents : S → Option (List ℕ)) (faultless : S → Type 0) (sure : Type 0) (wanted : Wanted) (long : Bool) (capacity most : ℕ) (at : List ℕ → FileState)
    (paths : List (Bor (List ℕ))) (sources : List S) (surely : sure)
    (are : AreOfFiles contents faultless sure (IsReachIn wanted long capacity at paths) (λ n. file_bytes (most_bytes wanted.form n) at) paths sources)
    (all : (text : List ℕ) → IsInFile at paths text → HasSound contents faultless sources text) where
  -- what is so of each source is so of each regular file
  each_as : (P : List ℕ → Type 0) → ((i : ℕ) (source : S) → slice_get sources i ≡ Some source → IsSaidOf (contents source) (faultless source) P) → OfEachFile at paths P
  each_as P says text is few =
      let has = all text is in said_known (contents has.source) (faultless has.source) P text has.known few has.sound (says has.place has.source has.there)

  -- what is so of one is so of its file
  some_as : (P : List ℕ → Type 0) (i : ℕ) (source : S) → slice_get sources i ≡ Some source → IsSaidOf (contents source) (faultless source) P
      → OfSomeFile wanted long capacity at paths P
  some_as P i source there said =
      let file = are i source there in
      let n : ℕ = file.of.reach in (
        n,
        file.of.reached surely,
        file.place,
        file.path,
        file.there,
        said_file (contents source) (faultless source) (file_bytes (most_bytes wanted.form n) at file.path) P (file.of.known surely) (file.of.sound surely) said,
      )

  judges_as : (u : ℕ) (verdict : Bool) → JudgesUnit contents faultless wanted sources u verdict → JudgesUnitIn wanted long capacity at paths u verdict
  judges_as u true lacked = each_as (λ bytes. ¬ HasUnit wanted u bytes) lacked
  judges_as u false had = some_as (HasUnit wanted u) had.0 had.1 had.2 had.3

  none_as : HasNoEnd contents faultless wanted sources → OfEachFile at paths (LacksEnd wanted)
  none_as none text is few fitting =
      let has = all text is in
      end_as wanted.form contents faultless (λ (bytes : List ℕ). Some bytes) has.source text (IsNoEnd wanted) has.known has.sound
      (none has.place (slice_get_within sources has.place has.source has.there) fitting has.source has.there)

  certified_as : (total : ℕ) → IsFirstEnd contents faultless wanted sources total → IsCertifiedIn wanted long capacity at paths total
  certified_as total first =
      certifies_as contents faultless sure wanted (IsReachIn wanted long capacity at paths) at paths sources surely are first.place total first.certifies

  length_as : (total : ℕ) → IsLengthOfEach (IsFrom wanted contents faultless sources) (fixed_for wanted) total
      → IsLengthOfEach (IsFromFile wanted.form (fixed_as wanted.root wanted.mode capacity) long at paths) (fixed_for wanted) total
  length_as total each blob is = elim (each blob is) [
    | inl same ↦ inl same
    | inr pair ↦ inr (pair_of_files wanted.form contents faultless sure (fixed_as wanted.root wanted.mode capacity) long at paths sources surely are (fixed_for wanted) blob pair)
  ]

  claims_as : (form : Form) (found : Option ℕ) → ClaimsLength contents faultless wanted sources form found → ClaimsLengthIn wanted long capacity at paths form found
  claims_as (Bare outline) found is = is
  claims_as Slices None none = each_as (λ text. JudgesClaim wanted text None) none
  claims_as Slices (Some total) first = some_as (λ text. IsClaim wanted text total) first.place first.source first.there first.claims

  total_as : (certified : Bool) (total : ℕ) → IsTotal contents faultless wanted sources certified total → IsTotalIn wanted long capacity at paths certified total
  total_as true total is = (length_as total is.0, is.1, certified_as total is.2)
  total_as false total is = (none_as is.0, claims_as wanted.form (Some total) is.1)

  pub lack_as : (lack : Lack) → IsLackOf contents faultless wanted sources most lack → IsLackIn wanted long capacity most at paths lack
  lack_as Unasked is = absurd is
  lack_as Starved is = tt
  lack_as End is = (none_as is.0, claims_as wanted.form None is.1)
  lack_as (Missing parts) is = (
    total_as parts.certified parts.total is.0,
    parts_as (JudgesUnit contents faultless wanted sources) (JudgesUnitIn wanted long capacity at paths) judges_as wanted.grain most parts is.1,
  )

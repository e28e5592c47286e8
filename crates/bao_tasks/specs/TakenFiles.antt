-- What is known while files are taken and a blob is gathered from them.
use Rattle.std.specs.Borrow.{Bor}
use Rattle.std.specs.Prelude.{if◌then◌else◌, ◌≡◌, ◌≢◌, ◌⊎◌, ℕ, Bool, true, false, List, [], ◌∷◌, ◌++◌, length, IfOk, IfSome, IsErrOf, MatchResult, Option, None, Some, Result, Ok, Err, slice_get}
use Rattle.std.specs.Io.KnownBytes.{Appends}
use Rattle.b3tree.specs.declared.mode.Mode.{Mode}
use Rattle.bao_files.specs.Disks.{FileState, IsStored}
use Rattle.bao_windows.specs.declared.fault.GatherFault.{GatherFault}
use Rattle.bao_windows.specs.declared.fault.GatherFault.TheVariants.{TooLarge, Unfinished, NotTheRoot, Starved}
use Rattle.bao_windows.specs.declared.fault.GatherFault.TheVariants as gather
use Rattle.bao_windows.specs.Available.{CertifiesEnd}
use Rattle.bao_windows.specs.Written.{AreTooLong}
use Rattle.bao_windows.specs.declared.wanted.Wanted.{Wanted}
use Rattle.holders.specs.declared.form.Form.{Form}
use Rattle.holders.specs.Forms.{AreSlices}
use Rattle.holders.specs.Blobs.{HasCollision}
use Rattle.holders.specs.Lists.{IsFromSource}
use Rattle.holders.specs.declared.fixed.Fixed.{Fixed}
use Rattle.holders.specs.declared.piece.Piece.{Piece}
use Rattle.holders.specs.Blobs.{IsBlob}
use Rattle.bao_tasks.specs.declared.gathered_fault.GatheredFault.{GatheredFault}
use Rattle.bao_tasks.specs.declared.gathered_fault.GatheredFault.TheVariants.{File, Gather, Outboard}
use Rattle.bao_tasks.specs.GatheredFaults.{IsOfFiles, IsQuietGathered, NamesFirst}
use Rattle.bao_tasks.specs.declared.gathering.Gathering.{Gathering}
use Rattle.bao_tasks.specs.Gathered.{HasRootAndFits, IsWrittenOut, gathered_text}
use Rattle.bao_tasks.specs.FromFiles.{AreEnough, IsExcusedFile, IsExcusedGathering, IsReach, fixed_of, is_regular}

-- for each of these files that is known to be stored, it is right whether it is regular
abbrev pub AreKinds : (List ℕ → FileState) → List (Bor (List ℕ)) → List Bool → Type 0
AreKinds at paths kinds = (i : ℕ) (path : Bor (List ℕ)) → slice_get paths i ≡ Some path → IsStored (at path.now) → slice_get kinds i ≡ Some (is_regular path.now)

-- one of the sources never fails, and its bytes are known to be these
pub record HasSound {S : Type 0} (contents : S → Option (List ℕ)) (faultless : S → Type 0) (sources : List S) (bytes : List ℕ) : Type 0 where
  pub place : ℕ
  pub source : S
  pub there : slice_get sources place ≡ Some source
  pub known : contents source ≡ Some bytes
  pub sound : faultless source

-- A source has these bytes of a file, if they are known and that is sure, and never fails then. They go by how far the file was read.
pub record IsSourceOf {S : Type 0} (contents : S → Option (List ℕ)) (faultless : S → Type 0) (sure : Type 0) (Reach : ℕ → Type 0) (bytes_to : ℕ → Option (List ℕ)) (source : S) : Type 0 where
  pub reach : ℕ
  pub reached : sure → Reach reach
  pub known : sure → IfSome (bytes_to reach) (λ s. contents source ≡ Some s)
  pub sound : sure → faultless source

-- how long a blob may be for its longest encoding, or copy, to be read to the end from a file that isn't regular, after these sources
abbrev pub IsReachOf : {S : Type 0} → (S → Option (List ℕ)) → (S → Type 0) → Wanted → Bool → ℕ → List S → ℕ → Type 0
IsReachOf contents faultless wanted long capacity sources n = IsReach long capacity (λ m. (place : ℕ) × CertifiesEnd contents faultless wanted sources place m) n

-- one such source was added
pub record Follows {S : Type 0} (contents : S → Option (List ℕ)) (faultless : S → Type 0) (sure : Type 0) (Reach : ℕ → Type 0) (bytes_to : ℕ → Option (List ℕ)) (old new : List S) : Type 0 where
  pub source : S
  pub is : new ≡ old ++ source ∷ []
  pub of : IsSourceOf contents faultless sure Reach bytes_to source

-- the source is of one of these files
pub record IsOfFile {S : Type 0} (contents : S → Option (List ℕ)) (faultless : S → Type 0) (sure : Type 0) (Reach : ℕ → Type 0) (bytes_of : ℕ → Bor (List ℕ) → Option (List ℕ)) (paths : List (Bor (List ℕ))) (source : S) : Type 0 where
  pub place : ℕ
  pub path : Bor (List ℕ)
  pub there : slice_get paths place ≡ Some path
  pub of : IsSourceOf contents faultless sure Reach (λ n. bytes_of n path) source

-- each of the sources is of one of them
abbrev pub AreOfFiles : {S : Type 0} → (S → Option (List ℕ)) → (S → Type 0) → Type 0 → (ℕ → Type 0) → (ℕ → Bor (List ℕ) → Option (List ℕ)) → List (Bor (List ℕ)) → List S → Type 0
AreOfFiles contents faultless sure Reach bytes_of paths sources =
    (i : ℕ) (source : _) → slice_get sources i ≡ Some source → IsOfFile contents faultless sure Reach bytes_of paths source

-- gathering failed, memory was refused, or writing failed
abbrev pub IsOfWriting : GatheredFault → Type 0
IsOfWriting (File fault) = IsExcusedFile fault
IsOfWriting (Outboard fault) = ⊥
IsOfWriting (Gather fault) = Unit {0}

-- so it is, and isn't one of standard output or of an outboard encoding; a fault of writing names this path, whatever the inputs are
abbrev pub IsFaultAt : Bor (List ℕ) → GatheredFault → Type 0
IsFaultAt output fault = IsQuietGathered fault × IsOfFiles fault × IsOfWriting fault × ((inputs : List (Bor (List ℕ))) → NamesFirst inputs output fault)

-- whether another file may help after this fault of gathering
abbrev pub is_open : GatherFault → Bool
is_open TooLarge = true
is_open Unfinished = true
is_open NotTheRoot = false
is_open gather.Memory = false
is_open Starved = true

-- the fault of the result, if another file may help after it
abbrev pub open_fault : Result ℕ GatheredFault → Option GatherFault
open_fault (Ok count) = None
open_fault (Err (File fault)) = None
open_fault (Err (Outboard fault)) = None
open_fault (Err (Gather fault)) = if is_open fault then Some fault else None

-- the result is right for this blob: if a blob was written, it is this one, and the fault isn't 902; or a collision is exhibited
abbrev pub IsRightOf : (Piece → Type 0) → Fixed → Bool → List ℕ → Option (List ℕ) → Option (List ℕ) → Result ℕ GatheredFault → Type 0
IsRightOf handed fixed encode blob old new result =
    MatchResult result (λ count. ((count ≡ length blob) × Appends old new (gathered_text encode fixed.mode blob)) ⊎ HasCollision handed fixed blob)
    (λ fault. fault ≡ Gather NotTheRoot → HasCollision handed fixed blob)

-- A blob was gathered and written, or its encoding: what comes of it, where it is sure what was written.
pub record IsGatheredFrom (handed : Piece → Type 0) (form : Form) (fixed : Fixed) (how : Gathering) (Has : List ℕ → Type 0) (sure : Type 0) (encode : Bool) (old new : Option (List ℕ)) (result : Result ℕ GatheredFault) : Type 0 where
  pub ok : IfOk result (λ count. (blob : List ℕ) × HasRootAndFits how fixed.mode fixed.root.0 blob × (count ≡ length blob) × (sure → Appends old new (gathered_text encode fixed.mode blob)))
  pub right : sure → (blob : List ℕ) → IsBlob fixed blob → IsRightOf handed fixed encode blob old new result
  pub too_large : AreSlices form → IsErrOf result (Gather TooLarge) → AreTooLong handed fixed how.capacity
  pub available : sure → (blob : List ℕ) → AreEnough form fixed how blob Has → IsWrittenOut handed fixed encode blob old new result

-- the same out of these sources
abbrev pub IsGathered : {S : Type 0} → (S → Option (List ℕ)) → (S → Type 0) → List S → Gathering → Type 0 → Bool → Option (List ℕ) → Option (List ℕ) → Result ℕ GatheredFault → Type 0
IsGathered contents faultless sources how =
    IsGatheredFrom (IsFromSource how.wanted.form contents faultless sources) how.wanted.form (fixed_of how) how (HasSound contents faultless sources)

-- this blob, or its encoding, is in the draft that was made, and its length was returned; or the fault isn't the files'
abbrev pub IsDrafted : {T : Type 0} → (T → Option (List ℕ)) → Gathering → Mode → List ℕ → Result (ℕ × T) GatheredFault → Type 0
IsDrafted contents how mode blob result =
    MatchResult result (λ made. (made.0 ≡ length blob) × (contents made.1 ≡ Some (gathered_text how.encode mode blob))) IsExcusedGathering

-- the same for a draft, if one was made
abbrev pub IsTried : {T : Type 0} → (T → Option (List ℕ)) → Gathering → Mode → List ℕ → Result (Option (ℕ × T)) GatheredFault → Type 0
IsTried contents how mode blob result =
    MatchResult result (λ found. IfSome found (λ made. (made.0 ≡ length blob) × (contents made.1 ≡ Some (gathered_text how.encode mode blob)))) IsExcusedGathering

-- the result is right for this blob: if a draft was made, this blob, or its encoding, is in it, and the fault isn't 902
abbrev pub IsRightDraft : {T : Type 0} → (T → Option (List ℕ)) → Gathering → Mode → List ℕ → Result (ℕ × T) GatheredFault → Type 0
IsRightDraft contents how mode blob result =
    MatchResult result (λ made. (made.0 ≡ length blob) × (contents made.1 ≡ Some (gathered_text how.encode mode blob))) (λ fault. fault ≢ Gather NotTheRoot)

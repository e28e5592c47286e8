-- Gathering a blob from files whose bytes are known: one true file among any others suffices, and so do several that have it together.
use Rattle.std.specs.Borrow.{Bor}
use Rattle.std.specs.Prelude.{if◌then◌else◌, ◌≡◌, ◌≢◌, ◌⊎◌, ℕ, ◌-◌, ◌*◌, ◌^◌, ◌<◌, ◌≤◌, Bool, true, not, List, [], length, take, codes, MatchResult, Option, None, Some, Result, slice_get, ⊤}
use Rattle.std.specs.Str.{bytes_eq}
use Rattle.b3tree.specs.Pieces.{piece as part}
use Rattle.b3tree.specs.declared.mode.Mode.{Mode}
use Rattle.bao_files.specs.declared.fault.FileFault.{FileFault}
use Rattle.bao_files.specs.declared.fault.FileFault.TheVariants.{Read, Write, Output, Encoding, Memory}
use Rattle.bao_check.specs.Outline.{IsOutline}
use Rattle.bao_files.specs.Disks.{AreOf, FileState, Unknown, Absent, Stored, Puts}
use Rattle.bao_text.specs.Choice.{chunk_count}
use Rattle.bao_text.specs.Cut.{cut_text}
use Rattle.bao_text.specs.Texts.{combined_text, slice_text}
use Rattle.bao_windows.specs.Available.{CertifiesEnd}
use Rattle.bao_windows.specs.Copies.{IsPartBy}
use Rattle.bao_windows.specs.declared.wanted.Wanted.{Wanted}
use Rattle.holders.specs.Available.{IsAskedBy}
use Rattle.bao_windows.specs.declared.fault.GatherFault.TheVariants.{NotTheRoot}
use Rattle.holders.specs.declared.form.Form.{Form}
use Rattle.holders.specs.declared.grain.Grain.{Grain}
use Rattle.holders.specs.declared.grain.Grain.TheVariants.{Chunk as ByChunk}
use Rattle.holders.specs.declared.form.Form.TheVariants.{Slices, Bare}
use Rattle.bao_windows.specs.Faults.{IsExcused}
use Rattle.holders.specs.Blobs.{HasCollision, fixed_as}
use Rattle.holders.specs.Lists.{IsFromSource}
use Rattle.holders.specs.Parts.{IsOwn, IsOwnOutline}
use Rattle.holders.specs.declared.fixed.Fixed.{Fixed}
use Rattle.holders.specs.declared.piece.Piece.{Piece}
use Rattle.holders.specs.Blobs.{IsBlob}
use Rattle.bao_tasks.specs.declared.gathered_fault.GatheredFault.{GatheredFault}
use Rattle.bao_tasks.specs.declared.gathered_fault.GatheredFault.TheVariants.{File, Gather, Outboard}
use Rattle.bao_tasks.specs.declared.gathering.Gathering.{Gathering}
use Rattle.bao_tasks.specs.Gathered.{gathered_text}
use Rattle.bao_tasks.specs.Givens.{most_bytes}

-- whether a stored file is read by position: all are except standard input, at the path `-`
abbrev pub is_regular : List ℕ → Bool
is_regular path = not (bytes_eq path (codes "-"))

-- the bytes taken from a file, if they are known: all of a regular file, the first `most` of any other, none if there is no file
abbrev pub taken_bytes : Bool → ℕ → FileState → Option (List ℕ)
taken_bytes regular most Unknown = None
taken_bytes regular most Absent = Some []
taken_bytes regular most (Stored bytes) = Some (if regular then bytes else take most bytes)

-- those taken from the file at this path
abbrev pub file_bytes : ℕ → (List ℕ → FileState) → Bor (List ℕ) → Option (List ℕ)
file_bytes most at path = taken_bytes (is_regular path.now) most (at path.now)

-- no read of it fails
abbrev pub never_fails : Bor (List ℕ) → Type 0
never_fails path = ⊤

-- the blob's root and mode, and the form of the files; the grain has no part in what is certified
abbrev pub wanted_as : Form → Fixed → Wanted
wanted_as form fixed = record { root = fixed.root; mode = fixed.mode; form = form; grain = ByChunk }

-- one of the files certifies this length of the blob by its first bytes
abbrev pub IsCertifiedBy : Wanted → (List ℕ → FileState) → List (Bor (List ℕ)) → ℕ → Type 0
IsCertifiedBy wanted at paths n = (most : ℕ) × (place : ℕ) × CertifiesEnd (file_bytes most at) never_fails wanted paths place n

-- How long a blob may be for its longest encoding, or copy, to be read to the end from a file that isn't regular: as long as the capacity allows or, where a
-- blob may have any length, 2^40 bytes, or a length that is certified.
abbrev pub IsReach : Bool → ℕ → (ℕ → Type 0) → ℕ → Type 0
IsReach long capacity IsCertified n = (n ≡ 1024 * capacity) ⊎ ((long ≡ true) × ((n ≡ 2 ^ 40) ⊎ IsCertified n))

-- The slice is cut from one of these files, or made from an outline's parents and a range of one of them. From a file whose bytes are unknown, it may
-- be any slice.
abbrev pub IsFromFile : Form → Fixed → Bool → (List ℕ → FileState) → List (Bor (List ℕ)) → Piece → Type 0
IsFromFile form fixed long at paths piece =
    (n : ℕ) × IsReach long fixed.capacity (IsCertifiedBy (wanted_as form fixed) at paths) n × IsFromSource form (file_bytes (most_bytes form n) at) never_fails paths piece

-- the root and the mode of the blob that is gathered, and the capacity
abbrev pub fixed_of : Gathering → Fixed
fixed_of how = fixed_as how.wanted.root how.wanted.mode how.capacity

-- a blob of n bytes fits: it may have any length, or it has at most as many chunks as the capacity
abbrev pub HasRoom : Gathering → ℕ → Type 0
HasRoom how n = (how.long ≡ true) ⊎ (chunk_count n ≤ how.capacity)

-- a file with these bytes is true: they are the blob's combined encoding or, beside the blob's own outboard encoding, the blob
abbrev pub IsTextOf : Form → Fixed → List ℕ → List ℕ → Type 0
IsTextOf Slices fixed blob text = text ≡ combined_text fixed.mode blob
IsTextOf (Bare outline) fixed blob text = IsOwnOutline fixed outline.now blob × (text ≡ blob)

-- one of the files, those for whose bytes `Has` holds, is true and has fewer than 2^64 bytes
pub record HasWhole (Has : List ℕ → Type 0) (form : Form) (fixed : Fixed) (blob : List ℕ) : Type 0 where
  pub text : List ℕ
  pub has : Has text
  pub text_is : IsTextOf form fixed blob text
  pub few : length text < 2 ^ 64

-- the slice (start, len) cut from one of them is the blob's slice
pub record HasCut (Has : List ℕ → Type 0) (mode : Mode) (blob : List ℕ) (start len : ℕ) : Type 0 where
  pub text : List ℕ
  pub has : Has text
  pub few : length text < 2 ^ 64
  pub cut : cut_text text start len ≡ slice_text mode blob start len

-- They have the blob's combined encoding together: one has the slice of the last byte, and for each chunk one has the slice by which it is asked for.
pub record HaveCuts (Has : List ℕ → Type 0) (grain : Grain) (mode : Mode) (blob : List ℕ) : Type 0 where
  pub few : length blob < 2 ^ 64
  pub end : HasCut Has mode blob (2 ^ 64 - 1) 1
  pub each : (c start len : ℕ) → c < chunk_count (length blob) → IsAskedBy grain c start len → HasCut Has mode blob start len

-- one of them has the blob's `len` bytes from offset `start` on in their place
pub record HasBytes (Has : List ℕ → Type 0) (blob : List ℕ) (start len : ℕ) : Type 0 where
  pub text : List ℕ
  pub has : Has text
  pub few : length text < 2 ^ 64
  pub bytes : part text start len ≡ part blob start len

-- They have the blob's bytes together: one has the last chunk, and for each chunk one has the range by which it is asked for.
pub record HaveBytes (Has : List ℕ → Type 0) (grain : Grain) (blob : List ℕ) : Type 0 where
  pub few : length blob < 2 ^ 64
  pub end : (start len : ℕ) → IsPartBy ByChunk (length blob) (chunk_count (length blob) - 1) start len → HasBytes Has blob start len
  pub each : (c start len : ℕ) → c < chunk_count (length blob) → IsPartBy grain (length blob) c start len → HasBytes Has blob start len

-- they have the blob together, in this form
abbrev pub HaveTogether : Form → Fixed → Grain → List ℕ → (List ℕ → Type 0) → Type 0
HaveTogether Slices fixed grain blob Has = HaveCuts Has grain fixed.mode blob
HaveTogether (Bare outline) fixed grain blob Has = IsOwnOutline fixed outline.now blob × HaveBytes Has grain blob

-- such files suffice for a blob that has the root and fits: one of them is true, or they have it together
pub record AreEnough (form : Form) (fixed : Fixed) (how : Gathering) (blob : List ℕ) (Has : List ℕ → Type 0) : Type 0 where
  pub root : IsBlob fixed blob
  pub room : HasRoom how (length blob)
  pub some : HasWhole Has form fixed blob ⊎ HaveTogether form fixed how.wanted.grain blob Has

-- one of these files, which isn't standard input, has these bytes
abbrev pub IsInFile : (List ℕ → FileState) → List (Bor (List ℕ)) → List ℕ → Type 0
IsInFile at paths text = (i : ℕ) × (path : Bor (List ℕ)) × (slice_get paths i ≡ Some path) × (is_regular path.now ≡ true) × (at path.now ≡ Stored text)

-- memory was refused, or writing failed
abbrev pub IsExcusedFile : FileFault → Type 0
IsExcusedFile (Read path) = ⊥
IsExcusedFile (Write path) = Unit {0}
IsExcusedFile Output = ⊥
IsExcusedFile Encoding = Unit {0}
IsExcusedFile Memory = Unit {0}

-- the fault isn't the files'
abbrev pub IsExcusedGathering : GatheredFault → Type 0
IsExcusedGathering (File fault) = IsExcusedFile fault
IsExcusedGathering (Outboard fault) = ⊥
IsExcusedGathering (Gather fault) = IsExcused fault

-- this blob, or its encoding, was put at the path, and its length returned; or the fault isn't the files'
abbrev pub IsPutAt : (List ℕ → FileState) → (List ℕ → FileState) → List ℕ → Gathering → Mode → List ℕ → Result ℕ GatheredFault → Type 0
IsPutAt old new path how mode blob result =
    MatchResult result (λ count. (count ≡ length blob) × Puts old new path (Some (gathered_text how.encode mode blob))) IsExcusedGathering

-- the result is right for this blob: if a blob, or its encoding, was put at the path, it is this one, and its length was returned; and the fault isn't 902
abbrev pub IsRightAt : (List ℕ → FileState) → (List ℕ → FileState) → List ℕ → Gathering → Mode → List ℕ → Result ℕ GatheredFault → Type 0
IsRightAt old new path how mode blob result =
    MatchResult result (λ count. (count ≡ length blob) × Puts old new path (Some (gathered_text how.encode mode blob))) (λ fault. fault ≢ Gather NotTheRoot)

-- a collision is exhibited beside the blob's own outboard encoding, from a slice made from its parents and a range of one of the files
pub record CollidesBeside (fixed : Fixed) (long : Bool) (at : List ℕ → FileState) (paths : List (Bor (List ℕ))) (blob : List ℕ) : Type 0 where
  pub form : Form
  pub own : IsOwn form fixed blob
  pub pair : HasCollision (IsFromFile form fixed long at paths) fixed blob

-- the form's outline is of this encoding, which is accepted under the root in the mode
abbrev pub IsOutlineIn : Form → Fixed → List ℕ → Type 0
IsOutlineIn Slices fixed text = ⊥
IsOutlineIn (Bare outline) fixed text = IsOutline outline.now fixed.mode fixed.root.0 text

-- a collision is exhibited beside an accepted outboard encoding, that in the file at this path if its bytes are known: from a slice made from its parents
-- and a range of one of the files
pub record CollidesBesideOutline (fixed : Fixed) (long : Bool) (at : List ℕ → FileState) (outboard : List ℕ) (paths : List (Bor (List ℕ))) (blob : List ℕ) : Type 0 where
  pub text : List ℕ
  pub of : AreOf (at outboard) text
  pub form : Form
  pub outline : IsOutlineIn form fixed text
  pub pair : HasCollision (IsFromFile form fixed long at paths) fixed blob

-- Which ranges of a blob no file has. What no file has is said of regular files whose bytes are known. Of standard input, of which only the first bytes are
-- read, it is said only what it has.
use Rattle.std.specs.Borrow.{Bor}
use Rattle.std.specs.Prelude.{◌≡◌, ◌⊎◌, ◌^◌, ◌<◌, ℕ, Bool, true, false, List, [], length, Option, None, Some, slice_get, ⊤}
use Rattle.b3tree.specs.declared.mode.Mode.{Mode}
use Rattle.b3tree.specs.declared.values.Hash.{Hash}
use Rattle.bao_check.specs.Accepted.{IsAccepted, outboard_nodes}
use Rattle.bao_check.specs.Outline.{outline_claimed}
use Rattle.bao_files.specs.Disks.{AreOf, FileState}
use Rattle.holders.specs.Forms.{IsLengthOf}
use Rattle.holders.specs.Blobs.{fixed_as}
use Rattle.holders.specs.declared.form.Form.{Form}
use Rattle.holders.specs.declared.form.Form.TheVariants.{Slices, Bare}
use Rattle.holders.specs.declared.grain.Grain.{Grain}
use Rattle.bao_windows.specs.declared.wanted.Wanted.{Wanted}
use Rattle.bao_windows.specs.Available.{CertifiesEnd, HasRefusedEnd, IsFitting}
use Rattle.bao_windows.specs.Windows.{IsLengthOfEach, fixed_for}
use Rattle.bao_tasks.specs.declared.missing.Lack.{Lack}
use Rattle.bao_tasks.specs.declared.missing.Lack.TheVariants.{Unasked, Starved, End, Missing}
use Rattle.bao_tasks.specs.FromFiles.{IsCertifiedBy, IsFromFile, IsInFile, IsOutlineIn, IsReach, file_bytes, never_fails}
use Rattle.bao_tasks.specs.Givens.{most_bytes}
use Rattle.bao_tasks.specs.Missing.{AreParts, HasUnit, IsClaim, JudgesClaim}
use Rattle.bao_tasks.specs.Worth.{IsSaidOf}

-- what the files are asked for: units of the blob with this root in this mode, in this form
abbrev pub wanted_for : Hash → Mode → Form → Grain → Wanted
wanted_for root mode form grain = record { root = root; mode = mode; form = form; grain = grain }

-- P holds for the bytes of each regular file, if they are known and fewer than 2^64
abbrev pub OfEachFile : (List ℕ → FileState) → List (Bor (List ℕ)) → (List ℕ → Type 0) → Type 0
OfEachFile at paths P = (text : List ℕ) → IsInFile at paths text → length text < 2 ^ 64 → P text

-- how long a blob may be for its longest encoding, or copy, to be read to the end from one of the files that isn't regular
abbrev pub IsReachIn : Wanted → Bool → ℕ → (List ℕ → FileState) → List (Bor (List ℕ)) → ℕ → Type 0
IsReachIn wanted long capacity at paths n = IsReach long capacity (IsCertifiedBy wanted at paths) n

-- P holds for the bytes taken from one of the files, if they are known and fewer than 2^64
abbrev pub OfSomeFile : Wanted → Bool → ℕ → (List ℕ → FileState) → List (Bor (List ℕ)) → (List ℕ → Type 0) → Type 0
OfSomeFile wanted long capacity at paths P =
    (n : ℕ) × IsReachIn wanted long capacity at paths n × (i : ℕ) × (path : Bor (List ℕ)) × (slice_get paths i ≡ Some path)
    × IsSaidOf (file_bytes (most_bytes wanted.form n) at path) ⊤ P

-- a verdict on a unit: true says that no regular file has it, and false that some file does
abbrev pub JudgesUnitIn : Wanted → Bool → ℕ → (List ℕ → FileState) → List (Bor (List ℕ)) → ℕ → Bool → Type 0
JudgesUnitIn wanted long capacity at paths u true = OfEachFile at paths (λ text. ¬ HasUnit wanted u text)
JudgesUnitIn wanted long capacity at paths u false = OfSomeFile wanted long capacity at paths (HasUnit wanted u)

-- a file with these bytes doesn't have the blob's last chunk
abbrev pub LacksEnd : Wanted → List ℕ → Type 0
LacksEnd wanted text = IsFitting wanted wanted.form → HasRefusedEnd wanted.form (λ (bytes : List ℕ). Some bytes) (λ (bytes : List ℕ). ⊤) wanted text

-- one of the files has it, and certifies this length by it
abbrev pub IsCertifiedIn : Wanted → Bool → ℕ → (List ℕ → FileState) → List (Bor (List ℕ)) → ℕ → Type 0
IsCertifiedIn wanted long capacity at paths total =
    (n : ℕ) × IsReachIn wanted long capacity at paths n × (place : ℕ) × CertifiesEnd (file_bytes (most_bytes wanted.form n) at) never_fails wanted paths place total

-- the length to use if none is certified: the one that the outline claims, or one that an encoding claims and that holds for it
abbrev pub ClaimsLengthIn : Wanted → Bool → ℕ → (List ℕ → FileState) → List (Bor (List ℕ)) → Form → Option ℕ → Type 0
ClaimsLengthIn wanted long capacity at paths Slices None = OfEachFile at paths (λ text. JudgesClaim wanted text None)
ClaimsLengthIn wanted long capacity at paths Slices (Some total) = OfSomeFile wanted long capacity at paths (λ text. IsClaim wanted text total)
ClaimsLengthIn wanted long capacity at paths (Bare outline) found = found ≡ Some (outline_claimed outline.now)

-- The length for the ranges. If it is certified, one of the files certifies it, and it is the length of each blob with the root, or a collision is exhibited.
-- Otherwise no regular file has the last chunk, and the length is claimed.
abbrev pub IsTotalIn : Wanted → Bool → ℕ → (List ℕ → FileState) → List (Bor (List ℕ)) → Bool → ℕ → Type 0
IsTotalIn wanted long capacity at paths true total =
    IsLengthOfEach (IsFromFile wanted.form (fixed_as wanted.root wanted.mode capacity) long at paths) (fixed_for wanted) total × IsLengthOf wanted.form total
    × IsCertifiedIn wanted long capacity at paths total
IsTotalIn wanted long capacity at paths false total = OfEachFile at paths (LacksEnd wanted) × ClaimsLengthIn wanted long capacity at paths wanted.form (Some total)

-- What is noted about files that left a blob unfinished: that none has its end or claims a length, or which ranges none has, of which at most `most` are shown.
-- It isn't looked for if none is to be shown or there are no files.
abbrev pub IsLackIn : Wanted → Bool → ℕ → ℕ → (List ℕ → FileState) → List (Bor (List ℕ)) → Lack → Type 0
IsLackIn wanted long capacity most at paths Unasked = (most ≡ 0) ⊎ (paths ≡ [])
IsLackIn wanted long capacity most at paths Starved = Unit {0}
IsLackIn wanted long capacity most at paths End = OfEachFile at paths (LacksEnd wanted) × ClaimsLengthIn wanted long capacity at paths wanted.form None
IsLackIn wanted long capacity most at paths (Missing parts) =
    IsTotalIn wanted long capacity at paths parts.certified parts.total × AreParts (JudgesUnitIn wanted long capacity at paths) wanted.grain most parts

-- The same for copies beside an accepted outboard encoding, that in the file at this path if its bytes are known.
pub record IsLackBeside (root : Hash) (mode : Mode) (grain : Grain) (long : Bool) (capacity most : ℕ) (at : List ℕ → FileState) (outboard : List ℕ) (paths : List (Bor (List ℕ))) (lack : Lack) : Type 0 where
  pub text : List ℕ
  pub of : AreOf (at outboard) text
  pub accepted : IsAccepted mode root.0 text (outboard_nodes text)
  pub form : Form
  pub outline : IsOutlineIn form (fixed_as root mode capacity) text
  pub noted : IsLackIn (wanted_for root mode form grain) long capacity most at paths lack

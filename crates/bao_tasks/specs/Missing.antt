-- Which ranges of a blob no source has.
use Rattle.std.specs.Prelude.{if◌then◌else◌, ◌≡◌, ℕ, ◌+◌, ◌-◌, ◌*◌, ◌/◌, ◌<◌, ◌≤◌, ◌^◌, min, Bool, true, false, nat_lt, List, [], ◌∷◌, length, map, take, sum_by, Option, None, Some, slice_get}
use Rattle.bao_text.specs.Choice.{chunk_count}
use Rattle.bao_text.specs.Cut.{claimed}
use Rattle.bao_check.specs.Outline.{outline_claimed}
use Rattle.holders.specs.Forms.{IsLengthOf}
use Rattle.holders.specs.declared.form.Form.{Form}
use Rattle.holders.specs.declared.form.Form.TheVariants.{Slices, Bare}
use Rattle.holders.specs.declared.grain.Grain.{Grain}
use Rattle.holders.specs.declared.grain.Grain.TheVariants.{Group, Chunk}
use Rattle.bao_windows.specs.declared.wanted.Wanted.{Wanted}
use Rattle.bao_windows.specs.Available.{HasNoEnd, IsFirstEnd}
use Rattle.bao_windows.specs.Windows.{IsFrom, IsLengthOfEach, fixed_for}
use Rattle.bao_tasks.specs.declared.missing.Lack.{Lack}
use Rattle.bao_tasks.specs.declared.missing.Lack.TheVariants.{Unasked, Starved, End, Missing}
use Rattle.bao_tasks.specs.declared.missing.MissingParts.{MissingParts}
use Rattle.bao_tasks.specs.declared.missing.Span.{Span}
use Rattle.bao_tasks.specs.Worth.{HasChunks, IsSaidOf}

-- how many chunks a unit has: it is a group or a chunk
abbrev pub unit_chunks : Grain → ℕ
unit_chunks Group = 64
unit_chunks Chunk = 1

-- a source with these bytes has unit u of the blob
abbrev pub HasUnit : Wanted → ℕ → List ℕ → Type 0
HasUnit wanted u bytes = HasChunks wanted.form wanted.mode wanted.root.0 (unit_chunks wanted.grain * u) (unit_chunks wanted.grain) bytes

-- beside an outline, the length that it claims has a chunk `first`
abbrev pub IsClaimed : Form → ℕ → Type 0
IsClaimed Slices first = Unit {0}
IsClaimed (Bare outline) first = first < chunk_count (outline_claimed outline.now)

-- chunk `first` begins below 2^64, and beside an outline within the length that it claims
abbrev pub BeginsWithin : Form → ℕ → Type 0
BeginsWithin form first = (1024 * first < 2 ^ 64) × IsClaimed form first

abbrev pub IsUnit : Wanted → ℕ → Type 0
IsUnit wanted u = BeginsWithin wanted.form (unit_chunks wanted.grain * u)

-- no source has unit u, of those whose bytes are known and whose reads never fail
abbrev pub IsLacked : {S : Type 0} → (S → Option (List ℕ)) → (S → Type 0) → Wanted → List S → ℕ → Type 0
IsLacked contents faultless wanted sources u =
    (i : ℕ) (source : _) → slice_get sources i ≡ Some source → IsSaidOf (contents source) (faultless source) (λ bytes. ¬ HasUnit wanted u bytes)

-- a source has unit u, if its bytes are known and its reads never fail
abbrev pub IsHad : {S : Type 0} → (S → Option (List ℕ)) → (S → Type 0) → Wanted → List S → ℕ → Type 0
IsHad {S} contents faultless wanted sources u =
    (i : ℕ) × (source : S) × (slice_get sources i ≡ Some source) × IsSaidOf (contents source) (faultless source) (HasUnit wanted u)

-- a verdict on a unit: true says that no source has it
abbrev pub JudgesUnit : {S : Type 0} → (S → Option (List ℕ)) → (S → Type 0) → Wanted → List S → ℕ → Bool → Type 0
JudgesUnit contents faultless wanted sources u true = IsLacked contents faultless wanted sources u
JudgesUnit contents faultless wanted sources u false = IsHad contents faultless wanted sources u

-- The units from `from` up to but not including `at` have this verdict, and unit `at`, if it is one of the `units`, has the other.
pub record GoesUpTo (judge : ℕ → Bool → Type 0) (units : ℕ) (verdict other : Bool) (from at : ℕ) : Type 0 where
  pub after : from ≤ at
  pub within : at ≤ units
  pub same : (u : ℕ) → from ≤ u → u < at → judge u verdict
  pub next : at < units → judge at other

-- of the units from `from` on, those from `first` up to but not including `end` are the first that are lacked, and the next one isn't
pub record IsNextGap (judge : ℕ → Bool → Type 0) (units from first end : ℕ) : Type 0 where
  pub before : GoesUpTo judge units false true from first
  pub some : first < end
  pub gap : GoesUpTo judge units true false first end

-- these are all the gaps from `from` on, in order
abbrev pub AreGaps : (ℕ → Bool → Type 0) → ℕ → ℕ → List (ℕ × ℕ) → Type 0
AreGaps judge units from [] = (u : ℕ) → from ≤ u → u < units → judge u false
AreGaps judge units from (gap ∷ rest) = IsNextGap judge units from gap.0 gap.1 × AreGaps judge units gap.1 rest

-- how many units of a blob of `total` bytes are looked for: all, up to 2^22, which are 256 GiB in groups and 4 GiB in chunks
abbrev pub units_in : Grain → ℕ → ℕ
units_in Group total = min ((chunk_count total + 63) / 64) 4194304
units_in Chunk total = min (chunk_count total) 4194304

-- the offset of unit u in a blob of `total` bytes, or `total` if it is past the end
abbrev pub place_of : Grain → ℕ → ℕ → ℕ
place_of grain total u = min (1024 * (unit_chunks grain * u)) total

-- the range of a gap in a blob of `total` bytes
abbrev pub span_of : Grain → ℕ → ℕ × ℕ → Span
span_of grain total gap = record { at = place_of grain total gap.0; end = place_of grain total gap.1 }

-- how many bytes a range has
abbrev pub span_len : Span → ℕ
span_len span = span.end - span.at

-- The first of these ranges are shown, at most `most`; all of them, and all of their bytes, are counted.
pub record Tells (most : ℕ) (parts : MissingParts) (spans : List Span) : Type 0 where
  pub shown : parts.shown.items ≡ take most spans
  pub count : parts.count ≡ length spans
  pub bytes : parts.bytes ≡ sum_by span_len spans

-- These are the gaps of a blob of `total` bytes in such units, as far as they are looked for.
pub record AreParts (judge : ℕ → Bool → Type 0) (grain : Grain) (most : ℕ) (parts : MissingParts) : Type 0 where
  pub looked : parts.looked ≡ place_of grain parts.total (units_in grain parts.total)
  pub gaps : List (ℕ × ℕ)
  pub are : AreGaps judge (units_in grain parts.total) 0 gaps
  pub told : Tells most parts (map (span_of grain parts.total) gaps)

-- the length that an encoding begins with, if it has one
abbrev pub claim_in : List ℕ → Option ℕ
claim_in text = if nat_lt (length text) 8 then None else Some (claimed text)

-- one of the first 64 units of a blob of `total` bytes is there
abbrev pub HasSome : Wanted → ℕ → List ℕ → Type 0
HasSome wanted total text = (u : ℕ) × (u < min (units_in wanted.grain total) 64) × HasUnit wanted u text

-- the encoding claims this length, and the claim holds: one of its first 64 units is accepted for it
abbrev pub IsClaim : Wanted → List ℕ → ℕ → Type 0
IsClaim wanted text total = (claim_in text ≡ Some total) × HasSome wanted total text

-- it claims this length, and the claim holds; or it claims none that holds
abbrev pub JudgesClaim : Wanted → List ℕ → Option ℕ → Type 0
JudgesClaim wanted text None = (total : ℕ) → ¬ IsClaim wanted text total
JudgesClaim wanted text (Some total) = IsClaim wanted text total

-- The first source whose claim holds claims this length.
pub record IsFirstClaim {S : Type 0} (contents : S → Option (List ℕ)) (faultless : S → Type 0) (wanted : Wanted) (sources : List S) (total : ℕ) : Type 0 where
  pub place : ℕ
  pub source : S
  pub there : slice_get sources place ≡ Some source
  pub claims : IsSaidOf (contents source) (faultless source) (λ text. IsClaim wanted text total)
  pub before : (k : ℕ) (earlier : S) → k < place → slice_get sources k ≡ Some earlier → IsSaidOf (contents earlier) (faultless earlier) (λ text. JudgesClaim wanted text None)

-- so it does, or no source claims a length that holds
abbrev pub ClaimsIn : {S : Type 0} → (S → Option (List ℕ)) → (S → Type 0) → Wanted → List S → Option ℕ → Type 0
ClaimsIn contents faultless wanted sources None =
    (k : ℕ) (source : _) → slice_get sources k ≡ Some source → IsSaidOf (contents source) (faultless source) (λ text. JudgesClaim wanted text None)
ClaimsIn contents faultless wanted sources (Some total) = IsFirstClaim contents faultless wanted sources total

-- beside an outline, the length is the one that it claims
abbrev pub ClaimsLength : {S : Type 0} → (S → Option (List ℕ)) → (S → Type 0) → Wanted → List S → Form → Option ℕ → Type 0
ClaimsLength contents faultless wanted sources Slices found = ClaimsIn contents faultless wanted sources found
ClaimsLength contents faultless wanted sources (Bare outline) found = found ≡ Some (outline_claimed outline.now)

-- The length for the ranges. If it is certified, it is the length of each blob with the root, or a collision is exhibited; it is the one that the outline
-- claims, if there is one; and the first source that has the last chunk certifies it. Otherwise no source has that chunk, and the length is claimed.
abbrev pub IsTotal : {S : Type 0} → (S → Option (List ℕ)) → (S → Type 0) → Wanted → List S → Bool → ℕ → Type 0
IsTotal contents faultless wanted sources true total =
    IsLengthOfEach (IsFrom wanted contents faultless sources) (fixed_for wanted) total × IsLengthOf wanted.form total × IsFirstEnd contents faultless wanted sources total
IsTotal contents faultless wanted sources false total = HasNoEnd contents faultless wanted sources × ClaimsLength contents faultless wanted sources wanted.form (Some total)

-- What is noted about sources that left a blob unfinished: that none has its end or claims a length, or which ranges none has.
abbrev pub IsLackOf : {S : Type 0} → (S → Option (List ℕ)) → (S → Type 0) → Wanted → List S → ℕ → Lack → Type 0
IsLackOf contents faultless wanted sources most Unasked = ⊥
IsLackOf contents faultless wanted sources most Starved = Unit {0}
IsLackOf contents faultless wanted sources most End = HasNoEnd contents faultless wanted sources × ClaimsLength contents faultless wanted sources wanted.form None
IsLackOf contents faultless wanted sources most (Missing parts) =
    IsTotal contents faultless wanted sources parts.certified parts.total × AreParts (JudgesUnit contents faultless wanted sources) wanted.grain most parts

-- the same, for this length, certified or claimed
abbrev pub IsLackBy : {S : Type 0} → (S → Option (List ℕ)) → (S → Type 0) → Wanted → List S → ℕ → ℕ → Bool → Lack → Type 0
IsLackBy contents faultless wanted sources most total certified Unasked = ⊥
IsLackBy contents faultless wanted sources most total certified Starved = Unit {0}
IsLackBy contents faultless wanted sources most total certified End = ⊥
IsLackBy contents faultless wanted sources most total certified (Missing parts) =
    (parts.total ≡ total) × (parts.certified ≡ certified) × AreParts (JudgesUnit contents faultless wanted sources) wanted.grain most parts

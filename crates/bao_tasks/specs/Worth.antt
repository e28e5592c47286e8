-- The worth of a file: how many groups of 64 chunks it is asked for, and how many of them are refused.
use Rattle.std.specs.Prelude.{if◌then◌else◌, ◌≡◌, ℕ, ◌+◌, ◌-◌, ◌*◌, ◌/◌, ◌<◌, ◌^◌, min, IfSome, Option, Bool, true, false, List, length, count_by, nat_lt, slice_index_or}
use Rattle.b3tree.specs.declared.mode.Mode.{Mode}
use Rattle.b3tree.specs.Pieces.{piece}
use Rattle.bao_text.specs.Choice.{chunk_count}
use Rattle.bao_text.specs.Cut.{claimed, cut_text}
use Rattle.bao_check.specs.Accepted.{IsAccepted, slice_nodes}
use Rattle.bao_check.specs.Bare.{AreBare}
use Rattle.bao_check.specs.declared.outline.Outline.{Outline}
use Rattle.bao_check.specs.Outline.{outline_claimed, outline_mode, outline_root, outline_text}
use Rattle.holders.specs.declared.form.Form.{Form}
use Rattle.holders.specs.declared.form.Form.TheVariants.{Slices, Bare}
use Rattle.bao_tasks.specs.declared.worth.Worth.{Worth}

-- the slice (start, len) cut from an encoding is accepted
abbrev pub IsGoodSlice : Mode → List ℕ → ℕ → ℕ → List ℕ → Type 0
IsGoodSlice mode root start len text = IsAccepted mode root (cut_text text start len) (slice_nodes (cut_text text start len) start len)

-- `count` chunks of a plain copy, from chunk `first` on, are accepted beside the outline
abbrev pub AreGoodChunks : Outline → ℕ → ℕ → List ℕ → Type 0
AreGoodChunks outline first count copy =
    AreBare (outline_mode outline) (outline_root outline) (outline_text outline) first count (piece copy (1024 * first) (min (outline_claimed outline - 1024 * first) (1024 * count)))

-- a source with these bytes has the blob's chunks from chunk `first` on, at most `count` of them
abbrev pub HasChunks : Form → Mode → List ℕ → ℕ → ℕ → List ℕ → Type 0
HasChunks Slices mode root first count text = IsGoodSlice mode root (1024 * first) (1024 * count) text
HasChunks (Bare outline) mode root first count copy = AreGoodChunks outline.now first (min (chunk_count (outline_claimed outline.now) - first) count) copy

-- how many groups a blob of n bytes has
abbrev pub group_count : ℕ → ℕ
group_count n = (chunk_count n + 63) / 64

-- how many groups a source with these bytes is asked for: those of the length that the outline claims, or the encoding, and one if that is too short to
-- claim any
abbrev pub groups_of : Form → List ℕ → ℕ
groups_of Slices text = if nat_lt (length text) 8 then 1 else group_count (claimed text)
groups_of (Bare outline) copy = group_count (outline_claimed outline.now)

-- an encoding has more bytes than the blob has before group g
abbrev pub GoesOn : Form → List ℕ → ℕ → Type 0
GoesOn Slices text g = 65536 * g < length text
GoesOn (Bare outline) copy g = Unit {0}

-- a source with these bytes has the group's chunks
abbrev pub HasGroup : Form → Mode → List ℕ → List ℕ → ℕ → Type 0
HasGroup form mode root bytes g = GoesOn form bytes g × HasChunks form mode root (64 * g) 64 bytes

-- a verdict: true says that P doesn't hold, and the group is refused
abbrev pub JudgesGroup : Bool → Type 0 → Type 0
JudgesGroup true P = ¬ P
JudgesGroup false P = P

-- Of the first `groups` groups, exactly `refused` aren't good: each has a verdict, and the refusals are counted.
pub record Refuses (good : ℕ → Type 0) (groups refused : ℕ) : Type 0 where
  pub verdicts : List Bool
  pub each : length verdicts ≡ groups
  pub judged : (g : ℕ) → g < groups → JudgesGroup (slice_index_or verdicts g false) (good g)
  pub counted : refused ≡ count_by (λ verdict. verdict) verdicts

-- a file is asked for all of these groups, and those that aren't good are counted
pub record IsWorth (good : ℕ → Type 0) (groups : ℕ) (worth : Worth) : Type 0 where
  pub asked : worth.groups ≡ groups
  pub refuses : Refuses good groups worth.refused

-- P holds for the bytes of a source, if they are known, fewer than 2^64, and no read of it fails
abbrev pub IsSaidOf : Option (List ℕ) → Type 0 → (List ℕ → Type 0) → Type 0
IsSaidOf contents faultless P = IfSome contents (λ bytes. length bytes < 2 ^ 64 → faultless → P bytes)

-- it is the worth of a source of which this is known, in this form
abbrev pub IsWorthAs : Form → Mode → List ℕ → Option (List ℕ) → Type 0 → Worth → Type 0
IsWorthAs form mode root contents faultless worth = IsSaidOf contents faultless (λ bytes. IsWorth (HasGroup form mode root bytes) (groups_of form bytes) worth)

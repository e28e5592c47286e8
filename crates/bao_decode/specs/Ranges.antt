-- what is written of an accepted encoding
use Rattle.std.specs.Prelude.{◌≡◌, ℕ, ◌+◌, ◌-◌, ◌*◌, ◌/◌, ◌^◌, ◌<◌, ◌++◌, List, length, take, drop, min}
use Rattle.b3tree.specs.declared.mode.Mode.{Mode}
use Rattle.b3tree.specs.Valid.{AreBytes}
use Rattle.bao_check.specs.declared.fault.CheckFault.{CheckFault}
use Rattle.bao_check.specs.declared.fault.CheckFault.TheVariants as check
use Rattle.bao_check.specs.Accepted.{IsAccepted, slice_nodes}
use Rattle.bao_check.specs.Decoded.{decoded}
use Rattle.bao_check.specs.Streams.{IsStreamFault}
use Rattle.bao_text.specs.Choice.{of_slice}
use Rattle.bao_text.specs.Cut.{claimed}
use Rattle.bao_text.specs.declared.kinds.Part.{Part}
use Rattle.bao_text.specs.declared.kinds.Part.TheVariants.{Whole, Slice}

-- the slice that is checked
abbrev pub part_start : Part → ℕ
part_start Whole = 0
part_start (Slice start len) = start

abbrev pub part_len : Part → ℕ
part_len Whole = 2 ^ 64 - 1
part_len (Slice start len) = len

-- the positions that are written, of a blob of `total` bytes: from the first on, up to and without the last
abbrev pub first_written : Part → ℕ → ℕ
first_written Whole total = 0
first_written (Slice start len) total = min start total

abbrev pub last_written : Part → ℕ → ℕ
last_written Whole total = total
last_written (Slice start len) total = min (start + len) total

-- how many positions these are, in the length that an encoding claims
abbrev pub written_count : Part → List ℕ → ℕ
written_count part text = last_written part (claimed text) - first_written part (claimed text)

-- the encoding is accepted as that of the part of the blob with this root
abbrev pub IsPartText : Mode → List ℕ → Part → List ℕ → Type 0
IsPartText mode root part text = IsAccepted mode root text (slice_nodes text (part_start part) (part_len part))

-- it is, and is made of bytes: numbers below 256
abbrev pub IsVerifiedText : Mode → List ℕ → Part → List ℕ → Type 0
IsVerifiedText mode root part text = IsPartText mode root part text × AreBytes text

-- the position of the first byte of the first chunk that the encoding has
abbrev pub first_decoded : Part → ℕ → ℕ
first_decoded part total = (of_slice total (part_start part) (part_len part)).start / 1024 * 1024

-- what bytes have at the positions from `from` on, up to and without `to`, where the first of them is at the position `at`
abbrev pub positions : ℕ → ℕ → ℕ → List ℕ → List ℕ
positions at from to bytes = drop (from - at) (take (to - at) bytes)

-- the bytes that an encoding has at the part's positions
abbrev pub part_bytes : Part → List ℕ → List ℕ
part_bytes part text =
    positions (first_decoded part (claimed text)) (first_written part (claimed text)) (last_written part (claimed text)) (decoded text (part_start part) (part_len part))

-- The fault of a file whose bytes are `all`: as of a stream, but that a byte after an accepted text is one.
abbrev pub IsFileFault : Mode → List ℕ → ℕ → ℕ → List ℕ → CheckFault → Type 0
IsFileFault mode root start len all (check.Short at) = IsStreamFault mode root start len all (check.Short at)
IsFileFault mode root start len all (check.Mismatch at) = IsStreamFault mode root start len all (check.Mismatch at)
IsFileFault mode root start len all (check.Trailing at) =
    (text : List ℕ) × ((rest : List ℕ) × (all ≡ text ++ rest) × IsAccepted mode root text (slice_nodes text start len) × (at ≡ length text) × (0 < length rest))
IsFileFault mode root start len all check.Memory = Unit {0}
IsFileFault mode root start len all check.Reader = Unit {0}

-- What a file may be, by its size and its first eight bytes.
use Rattle.std.specs.Prelude.{◌≡◌, ℕ, ◌+◌, ◌-◌, ◌*◌, ◌==◌, nat_lt, if◌then◌else◌, List, [], ◌++◌, length, codes, Option, Some, None, ⊤}
use Rattle.std.specs.Fmt.{decimal}
use Rattle.bao_text.specs.Choice.{chunk_count}
use Rattle.bao_text.specs.Cut.{claimed}
use Rattle.bao_files.specs.Disks.{FileState, Unknown, Absent, Stored, IsStored}
use Rattle.bao_sums.specs.declared.kinds.Seen.{Seen}
use Rattle.bao_sums.specs.Sums.{shown}

-- the size of an outboard file of a blob of n bytes, and of its combined encoding
abbrev pub outboard_size : ℕ → ℕ
outboard_size n = 8 + 64 * (chunk_count n - 1)

abbrev pub combined_size : ℕ → ℕ
combined_size n = outboard_size n + n

-- the length that the bytes begin with, if they are at least eight
abbrev pub claim_of : List ℕ → Option ℕ
claim_of bytes = if nat_lt (length bytes) 8 then None else Some (claimed bytes)

-- it was seen of a file what it says of itself, as far as that is known
abbrev pub IsSeenOf : FileState → Seen → Type 0
IsSeenOf Unknown seen = ⊤
IsSeenOf Absent seen = ⊥
IsSeenOf (Stored bytes) seen = (seen.size ≡ length bytes) × (seen.claim ≡ claim_of bytes)

-- what came of the file at a path: this was seen of it, or it can't be read
abbrev pub IsLookOf : Type 0 → FileState → Option Seen → Type 0
IsLookOf faultless state (Some seen) = IsSeenOf state seen
IsLookOf faultless state None = faultless → ¬ IsStored state

abbrev pub IsLookAt : Type 0 → (List ℕ → FileState) → List ℕ → Option Seen → Type 0
IsLookAt faultless at path look = IsLookOf faultless (at path) look

-- what encodings of a blob of n bytes a file of this size may be
abbrev pub kind_text : ℕ → ℕ → List ℕ
kind_text size n =
    if size == combined_size n then
    (if size == outboard_size n then codes ": combined encoding or outboard file of " else codes ": combined encoding of ") ++ (decimal n ++ codes " bytes, not verified\n")
    else if size == outboard_size n then codes ": outboard file of " ++ (decimal n ++ codes " bytes, not verified\n")
    else codes ": plain file of " ++ (decimal size ++ codes " bytes\n")

abbrev pub seen_text : Seen → Option ℕ → List ℕ
seen_text seen None = codes ": plain file of " ++ (decimal seen.size ++ codes " bytes\n")
seen_text seen (Some n) = kind_text seen.size n

-- the line of a file, if it can be read
abbrev pub kind_line : List ℕ → Option Seen → List ℕ
kind_line path None = []
kind_line path (Some seen) = shown path ++ seen_text seen seen.claim

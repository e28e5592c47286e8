-- A slice as it is cut out of a combined encoding by position.
use Rattle.std.specs.Prelude.{◌≡◌, ℕ, ◌^◌, ◌<◌, ◌≤◌, List, ◌++◌, length, take, drop, nat_lt, if◌then◌else◌, Option, None, Some, IfSome}
use Rattle.bao_files.specs.Disks.{FileState, AreOf}
use Rattle.bao_text.specs.Cut.{claimed, cut_nodes, cut_text}
use Rattle.bao_text.specs.Nodes.{nodes}

-- the slice (start, len) as it is cut out of an encoding by the nodes of a blob of `total` bytes; fewer than 8 bytes stay as they are
abbrev pub cut_as : ℕ → ℕ → ℕ → List ℕ → List ℕ
cut_as total start len text = if nat_lt (length text) 8 then text else take 8 text ++ cut_nodes text (nodes total start len)

-- the bytes of the slice, where those of the encoding are known and no more than a file or a slice of memory can have
abbrev pub cut_contents : ℕ → ℕ → ℕ → Option (List ℕ) → Option (List ℕ)
cut_contents total start len None = None
cut_contents total start len (Some text) = if nat_lt (length text) (2 ^ 64) then Some (cut_as total start len text) else None

-- Bytes that are cut out of an encoding go on, after the first `skip` of them, with so many of its bytes from the place `at` on, as far as it has
-- them. Where it has none there, they have ended.
pub record GoesOn (text bytes : List ℕ) (skip at len : ℕ) : Type 0 where
  pub part : (k : ℕ) → k ≤ len → take k (drop skip bytes) ≡ take k (drop at text)
  pub ends : length text ≤ at → length bytes ≤ skip

-- the encoding begins with its length, which is this
abbrev pub ClaimsLength : Option (List ℕ) → ℕ → Type 0
ClaimsLength contents total = IfSome contents (λ text. (8 ≤ length text) × (claimed text ≡ total))

-- the text is cut, as the slice (start, len), out of the encoding that the file is, where that is known and has fewer than 2^64 bytes
abbrev pub IsCutOf : FileState → ℕ → ℕ → List ℕ → Type 0
IsCutOf state start len text = (encoding : List ℕ) × AreOf state encoding × (length encoding < 2 ^ 64 → text ≡ cut_text encoding start len)

-- what a disk says of a file whose bytes are known
use Rattle.std.specs.Prelude.{◌≡◌, ℕ, List, length, Option, None, Some, true, ⊤}
use Rattle.bao_files.specs.declared.extent.Extent.{Extent}
use Rattle.bao_files.specs.Disks.{FileState, Unknown, Absent, Stored}

-- that it is regular, and how many bytes it has
abbrev pub extent_of : List ℕ → Extent
extent_of s = record { len = length s; is_regular = true }

-- what is said of a path
abbrev pub LooksAs : FileState → Option Extent → Type 0
LooksAs Unknown said = ⊤
LooksAs Absent said = said ≡ None
LooksAs (Stored s) said = said ≡ Some (extent_of s)

-- The hashes of several files.
use Rattle.std.specs.Borrow.{Bor}
use Rattle.std.specs.Prelude.{◌≡◌, ℕ, Bool, true, false, if◌then◌else◌, List, [], ◌∷◌, ◌++◌, map}
use Rattle.std.specs.List.{AllByRecursion}
use Rattle.b3tree.specs.declared.mode.Mode.{Mode}
use Rattle.b3tree.specs.Hashing.{hash}
use Rattle.bao_files.specs.Disks.{FileState, Unknown, Absent, Stored, AreOf, IsKnown, IsStored}
use Rattle.bao_files.specs.Printed.{digits_line}
use Rattle.bao_sums.specs.Sums.{sum_line}

-- what came of a file: it has these bytes, or it can't be read
pub data Reading : Type 0 where
  Given : List ℕ → Reading
  Unread : Reading

-- As far as it is known what is there, the file has these bytes. On a disk without faults, one that is known to be there can be read.
abbrev pub IsReadingOf : Type 0 → FileState → Reading → Type 0
IsReadingOf faultless state (Given bytes) = AreOf state bytes
IsReadingOf faultless state Unread = faultless → ¬ IsStored state

-- the same of the file at a path
abbrev pub IsReadingAt : Type 0 → (List ℕ → FileState) → List ℕ → Reading → Type 0
IsReadingAt faultless at path reading = IsReadingOf faultless (at path) reading

-- the paths that are named
abbrev pub paths_of : List (Bor (List ℕ)) → List (List ℕ)
paths_of files = map (λ file. file.now) files

-- the line of a file: its hash, with the path or without it, if it can be read
abbrev pub hash_line : Mode → Bool → List ℕ → Reading → List ℕ
hash_line mode names path (Given bytes) = if names then sum_line (hash mode bytes) path ++ 10 ∷ [] else digits_line (hash mode bytes)
hash_line mode names path Unread = []

abbrev pub is_given : Reading → Bool
is_given (Given bytes) = true
is_given Unread = false

-- what comes of a file if it is known what is there
abbrev pub reading_in : FileState → Reading
reading_in Unknown = Unread
reading_in Absent = Unread
reading_in (Stored bytes) = Given bytes

abbrev pub readings_in : (List ℕ → FileState) → List (List ℕ) → List Reading
readings_in at paths = map (λ path. reading_in (at path)) paths

-- it is known what is at each of the paths
abbrev pub AllKnown : (List ℕ → FileState) → List (List ℕ) → Type 0
AllKnown at paths = AllByRecursion (λ path. IsKnown (at path)) paths

-- the answer is the hash of the file's bytes
abbrev pub IsFileHash : FileState → Mode → List ℕ → Type 0
IsFileHash state mode answer = (bytes : List ℕ) × AreOf state bytes × (answer ≡ hash mode bytes)

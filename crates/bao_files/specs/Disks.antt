-- what is known of the files at paths, and what a task does to them
use Rattle.std.specs.Prelude.{◌≡◌, ◌≢◌, ℕ, List, Option, Some, IfSome, ⊤}
use Rattle.b3tree.specs.Valid.{AreBytes}

-- what is known of a path: nothing, or that no file is there, or the bytes of the one that is
pub data FileState : Type 0 where
  Unknown : FileState
  Absent : FileState
  Stored : List ℕ → FileState

-- it is known what is there
abbrev pub IsKnown : FileState → Type 0
IsKnown Unknown = ⊥
IsKnown Absent = ⊤
IsKnown (Stored bytes) = ⊤

-- a file is known to be there
abbrev pub IsStored : FileState → Type 0
IsStored Unknown = ⊥
IsStored Absent = ⊥
IsStored (Stored bytes) = ⊤

-- these are the bytes of the file there: those that it is known to have, or, where that is unknown, some bytes; where none is there are none
abbrev pub AreOf : FileState → List ℕ → Type 0
AreOf Unknown bytes = AreBytes bytes
AreOf Absent bytes = ⊥
AreOf (Stored s) bytes = bytes ≡ s

-- a file was opened whose bytes are these, of which so many are left to be read: all
abbrev pub Opens : FileState → Option (List ℕ) → Option (List ℕ) → Type 0
Opens Unknown contents remaining = ⊤
Opens Absent contents remaining = ⊥
Opens (Stored s) contents remaining = (contents ≡ Some s) × (remaining ≡ Some s)

-- nothing has changed that was known
abbrev pub KeepsFiles : (List ℕ → FileState) → (List ℕ → FileState) → Type 0
KeepsFiles old new = (path : List ℕ) → new path ≡ old path

-- the text is at the path, if it is known what was there before, and nothing else has changed that was known
pub record Puts (old new : List ℕ → FileState) (path : List ℕ) (text : Option (List ℕ)) : Type 0 where
  pub put : IsKnown (old path) → IfSome text (λ s. new path ≡ Stored s)
  pub kept : (other : List ℕ) → other ≢ path → new other ≡ old other

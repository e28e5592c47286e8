-- the files that are held in memory
use Rattle.std.specs.Prelude.{ℕ, List, Option, None, Some, String, Vec}
use Rattle.std.specs.BTreeMap.{BTreeMap, get_by_text}
use Rattle.bao_files.specs.Disks.{FileState, Absent, Stored}

-- what is at a path, by what was found there
abbrev pub state_of : {Z : Type 0} → Option (Vec ℕ Z) → FileState
state_of None = Absent
state_of (Some file) = Stored file.items

-- what is at each path
abbrev pub held_at : {Y Z : Type 0} → BTreeMap (String Y) (Vec ℕ Z) → List ℕ → FileState
held_at files path = state_of (get_by_text files path)

-- What became of a file.
use Rattle.std.specs.Prelude.{List, ℕ, None, Option, Some, codes}
use Rattle.bao_tasks.specs.declared.file_fate.Fate.{Fate}
use Rattle.bao_tasks.specs.declared.file_fate.Fate.TheVariants.{Taken, Unread, Uncopied, Starved, Unopened}

-- it was read
abbrev pub IsTaken : Fate → Type 0
IsTaken (Taken worth cut) = Unit {0}
IsTaken Unread = ⊥
IsTaken Uncopied = ⊥
IsTaken Starved = ⊥
IsTaken Unopened = ⊥

-- why it was left out
abbrev pub reason_of : Fate → Option (List ℕ)
reason_of (Taken worth cut) = None
reason_of Unread = Some (codes "can't be read")
reason_of Uncopied = Some (codes "can't be copied")
reason_of Starved = Some (codes "no memory")
reason_of Unopened = Some (codes "not opened")

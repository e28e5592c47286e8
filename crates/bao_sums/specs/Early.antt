-- Small files that are hashed before it is their turn.
use Rattle.std.specs.Prelude.{ℕ, List, Option, IfSome}
use Rattle.b3tree.specs.declared.mode.Mode.{Mode}
use Rattle.bao_files.specs.Disks.{FileState, Opens}
use Rattle.bao_sums.specs.declared.ahead.Opened.{Opened}
use Rattle.bao_sums.specs.declared.ahead.Early.{Early}
use Rattle.bao_sums.specs.Hashed.{IsFileHash}

-- the file at the path was opened
abbrev pub IsOpened : {I : Type 0} → (I → Option (List ℕ)) → (I → Option (List ℕ)) → (List ℕ → FileState) → Opened I → Type 0
IsOpened contents remaining at opened = Opens (at opened.path.now) (contents opened.input) (remaining opened.input)

-- the hash, if there is one, is that of the file at the path
abbrev pub IsHashedEarly : (List ℕ → FileState) → Mode → Early → Type 0
IsHashedEarly at mode early = IfSome early.hash (λ answer. IsFileHash (at early.path.now) mode answer.0)

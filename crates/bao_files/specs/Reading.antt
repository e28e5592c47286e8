-- what a vector gains from a reader
use Rattle.std.specs.Prelude.{◌≡◌, ℕ, List, ◌++◌, Option}
use Rattle.std.specs.Io.KnownBytes.{Consumes}

-- the reader gave the bytes `taken`, and the vector has them after its own
pub record AppendsTaken (reader_old reader_new : Option (List ℕ)) (old new taken : List ℕ) : Type 0 where
  pub given : Consumes reader_old reader_new taken
  pub kept : new ≡ old ++ taken

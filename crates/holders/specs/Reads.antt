-- What positional reads append.
use Rattle.std.specs.Prelude.{◌≡◌, ℕ, List, ◌++◌, length, Option}
use Rattle.b3par.specs.Given.{GivenAt}

-- so many bytes of a source from a place on follow
pub record ReadFrom (contents : Option (List ℕ)) (at : ℕ) (old new : List ℕ) (count : ℕ) : Type 0 where
  pub bytes : List ℕ
  pub is : new ≡ old ++ bytes
  pub size : length bytes ≡ count
  pub given : GivenAt contents at bytes

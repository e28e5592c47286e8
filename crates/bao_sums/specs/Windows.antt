-- Bytes that are held of a source.
use Rattle.std.specs.Prelude.{◌≡◌, ℕ, List, length, Option}
use Rattle.std.specs.Option.{ForSome}
use Rattle.b3tree.specs.Pieces.{piece}

-- the bytes are those of the contents from `start` on, if the contents are known
abbrev pub GivenFrom : Option (List ℕ) → ℕ → List ℕ → Type 0
GivenFrom contents start held = ForSome contents (λ s. held ≡ piece s start (length held))

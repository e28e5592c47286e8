-- What holders over a source that is read by position hand over.
use Rattle.std.specs.Prelude.{◌≡◌, ◌⊎◌, ℕ, ◌^◌, ◌<◌, List, [], length, Option, Some, IfSome}
use Rattle.b3tree.specs.Pieces.{piece}
use Rattle.bao_text.specs.Cut.{cut_text}

-- What is said of a source's bytes, where they are known and no more than a file or a slice of memory can have.
abbrev pub OfBytes : Option (List ℕ) → (List ℕ → Type 0) → Type 0
OfBytes contents P = IfSome contents (λ bytes. length bytes < 2 ^ 64 → P bytes)

-- these are the bytes, known and no more than a file or a slice of memory can have
abbrev pub AreKnown : Option (List ℕ) → List ℕ → Type 0
AreKnown contents bytes = (contents ≡ Some bytes) × (length bytes < 2 ^ 64)

-- nothing, since a read failed
abbrev pub IsLost : Type 0 → List ℕ → Type 0
IsLost faultless text = (text ≡ []) × (faultless → ⊥)

-- the slice as it is cut out of the bytes
abbrev pub IsCutAt : Option (List ℕ) → Type 0 → ℕ → ℕ → List ℕ → Type 0
IsCutAt contents faultless start len text = OfBytes contents (λ bytes. (text ≡ cut_text bytes start len) ⊎ IsLost faultless text)

-- so many of the bytes from one on, as far as they go
abbrev pub IsPartAt : Option (List ℕ) → Type 0 → ℕ → ℕ → List ℕ → Type 0
IsPartAt contents faultless start len text = OfBytes contents (λ bytes. (text ≡ piece bytes start len) ⊎ IsLost faultless text)

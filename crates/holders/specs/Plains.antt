-- The bytes of a holder over a plain copy in memory, and what it hands over.
use denote.Ref.{Bor}
use Rattle.std.specs.Prelude.{◌≡◌, ℕ, List}
use Rattle.b3tree.specs.Pieces.{piece}
use Rattle.holders.specs.declared.plain.Plain.{Plain}

-- a holder over bytes in memory
abbrev pub PlainBytes : Type 0
PlainBytes = Plain (Bor (List ℕ))

abbrev pub copy_of : PlainBytes → List ℕ
copy_of holder = holder.places.now

-- the bytes are so many of the copy from a byte on, as far as it has them
abbrev pub IsPartOf : PlainBytes → ℕ → ℕ → List ℕ → Type 0
IsPartOf holder start len text = text ≡ piece (copy_of holder) start len

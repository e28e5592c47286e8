-- Lists of holders, of which each worker has one over the same.
use Rattle.std.specs.Prelude.{ℕ, List, Option}
use Rattle.holders.specs.declared.form.Form.{Form}
use Rattle.holders.specs.declared.form.Form.TheVariants.{Slices, Bare}
use Rattle.holders.specs.declared.encoded.Encoded.{Encoded}
use Rattle.holders.specs.declared.places.Placed.{Placed}
use Rattle.holders.specs.Forms.{IsMadeBeside}
use Rattle.holders.specs.Holders.{IsHanded}
use Rattle.holders.specs.Places.{IsCutAt, IsPartAt}
use Rattle.holders.specs.declared.piece.Piece.{Piece}

-- the source that a holder is over
abbrev pub source_of : {S : Type 0} → Encoded (Placed S) → S
source_of holder = holder.places.source.now

-- what a source gives as a slice: what is cut out of its bytes, where they are known, or nothing, since a read failed
abbrev pub source_gives : {S : Type 0} → (S → Option (List ℕ)) → (S → Type 0) → S → ℕ → ℕ → List ℕ → Type 0
source_gives contents faultless source start len text = IsCutAt (contents source) (faultless source) start len text

-- the piece is a slice that is cut out of the bytes of one of these sources, where they are known, or nothing, since a read
-- failed
abbrev pub IsCutOfSource : {S : Type 0} → (S → Option (List ℕ)) → (S → Type 0) → List S → Piece → Type 0
IsCutOfSource contents faultless sources = IsHanded (source_gives contents faultless) sources

-- what a source of a plain copy gives: so many of its bytes, where they are known, or nothing, since a read failed
abbrev pub part_gives : {S : Type 0} → (S → Option (List ℕ)) → (S → Type 0) → S → ℕ → ℕ → List ℕ → Type 0
part_gives contents faultless source start len text = IsPartAt (contents source) (faultless source) start len text

-- The piece is a slice that is cut out of the bytes of one of these sources; or it is made of an outline's parents and of a part of the
-- bytes of one of them.
abbrev pub IsFromSource : {S : Type 0} → Form → (S → Option (List ℕ)) → (S → Type 0) → List S → Piece → Type 0
IsFromSource Slices contents faultless sources = IsCutOfSource contents faultless sources
IsFromSource (Bare outline) contents faultless sources = IsHanded (IsMadeBeside outline.now (part_gives contents faultless)) sources

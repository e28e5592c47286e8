-- What comes of holders' bytes, as a form has them.
use Rattle.std.specs.Prelude.{◌≡◌, ℕ, ◌-◌, List}
use Rattle.bao_check.specs.declared.outline.Outline.{Outline}
use Rattle.bao_check.specs.Beside.{bare_len, beside_text}
use Rattle.bao_check.specs.Outline.{outline_claimed, outline_text}
use Rattle.holders.specs.declared.form.Form.{Form}
use Rattle.holders.specs.declared.form.Form.TheVariants.{Slices, Bare}

-- The text of a slice is made of an outline's parents and of bytes that a holder may give: those of the slice, as far as
-- the outline's length goes.
pub record IsMadeBeside {H : Type 0} (outline : Outline) (gives : H → ℕ → ℕ → List ℕ → Type 0) (holder : H) (start len : ℕ) (text : List ℕ) : Type 0 where
  pub bytes : List ℕ
  pub given : gives holder start (bare_len (outline_claimed outline) start len) bytes
  pub is : text ≡ beside_text (outline_text outline) start len bytes

-- the texts of slices that come of what holders may give
abbrev pub made_of : {H : Type 0} → Form → (H → ℕ → ℕ → List ℕ → Type 0) → H → ℕ → ℕ → List ℕ → Type 0
made_of Slices gives = gives
made_of (Bare outline) gives = IsMadeBeside outline.now gives

-- slices are given
abbrev pub AreSlices : Form → Type 0
AreSlices Slices = Unit {0}
AreSlices (Bare outline) = ⊥

-- the form is of a blob of this length
abbrev pub IsLengthOf : Form → ℕ → Type 0
IsLengthOf Slices len = Unit {0}
IsLengthOf (Bare outline) len = outline_claimed outline.now ≡ len

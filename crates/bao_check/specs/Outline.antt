-- What an outline is of.
use Rattle.std.specs.Prelude.{◌≡◌, ℕ, List}
use Rattle.b3tree.specs.declared.mode.Mode.{Mode}
use Rattle.bao_text.specs.Cut.{claimed}
use Rattle.bao_check.specs.declared.outline.Outline.{Outline}

abbrev pub outline_mode : Outline → Mode
outline_mode outline = outline.mode

-- the root under which its encoding was accepted, 32 bytes
abbrev pub outline_root : Outline → List ℕ
outline_root outline = outline.root.0

abbrev pub outline_text : Outline → List ℕ
outline_text outline = outline.text.now

-- the blob's length that its encoding claims
abbrev pub outline_claimed : Outline → ℕ
outline_claimed outline = claimed outline.text.now

-- the outline is this encoding, accepted as an outboard encoding under the root in the mode
pub record IsOutline (outline : Outline) (mode : Mode) (root text : List ℕ) : Type 0 where
  pub mode_is : outline.mode ≡ mode
  pub root_is : outline.root.0 ≡ root
  pub text_is : outline.text.now ≡ text

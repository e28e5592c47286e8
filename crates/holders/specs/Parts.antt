-- What is made of holders' bytes where some of it is a blob's.
use Rattle.std.specs.Prelude.{◌≡◌, ℕ, ◌-◌, ◌*◌, ◌/◌, ◌^◌, ◌<◌, min, List, length}
use Rattle.b3tree.specs.declared.mode.Mode.{Mode}
use Rattle.bao_check.specs.declared.outline.Outline.{Outline}
use Rattle.bao_check.specs.Outline.{outline_claimed, outline_mode, outline_root, outline_text}
use Rattle.bao_text.specs.Choice.{chunk_count}
use Rattle.bao_text.specs.Texts.{outboard_text}
use Rattle.holders.specs.Available.{HasSlice, IsAskedBy}
use Rattle.holders.specs.declared.form.Form.{Form}
use Rattle.holders.specs.declared.form.Form.TheVariants.{Slices, Bare}
use Rattle.holders.specs.declared.grain.Grain.{Grain}
use Rattle.holders.specs.declared.grain.Grain.TheVariants.{Group as ByGroup, Chunk as ByChunk}
use Rattle.holders.specs.Forms.{made_of}
use Rattle.holders.specs.declared.fixed.Fixed.{Fixed}

-- The outline was accepted under a store's root and in its mode, and claims the length of a blob that isn't empty.
pub record IsOutlineFor (fixed : Fixed) (outline : Outline) (blob : List ℕ) : Type 0 where
  pub mode_is : outline_mode outline ≡ fixed.mode
  pub root_is : outline_root outline ≡ fixed.root.0
  pub claims : outline_claimed outline ≡ length blob
  pub some : 0 < length blob

-- It is the blob's own outboard encoding.
pub record IsOwnOutline (fixed : Fixed) (outline : Outline) (blob : List ℕ) : Type 0 where
  pub of : IsOutlineFor fixed outline blob
  pub text_is : outline_text outline ≡ outboard_text fixed.mode blob

-- the form's outline, if it has one, is for the blob
abbrev pub IsFor : Form → Fixed → List ℕ → Type 0
IsFor Slices fixed blob = Unit {0}
IsFor (Bare outline) fixed blob = IsOutlineFor fixed outline.now blob

-- The slice (start, len) that is checked to come by a chunk: that of its group, or its own. Beside an outline it has whole chunks
-- alone, as many as the group has.
abbrev pub IsAskedIn : Form → Grain → ℕ → ℕ → ℕ → Type 0
IsAskedIn Slices grain c start len = IsAskedBy grain c start len
IsAskedIn (Bare outline) ByGroup c start len = (start ≡ 65536 * (c / 64)) × (len ≡ 1024 * min 64 (chunk_count (outline_claimed outline.now) - 64 * (c / 64)))
IsAskedIn (Bare outline) ByChunk c start len = (start ≡ 1024 * c) × (len ≡ 1024)

-- and to come by the length: that of the last byte, or of the last chunk
abbrev pub IsEndIn : Form → ℕ → ℕ → Type 0
IsEndIn Slices start len = (start ≡ 2 ^ 64 - 1) × (len ≡ 1)
IsEndIn (Bare outline) start len = (start ≡ 1024 * (chunk_count (outline_claimed outline.now) - 1)) × (len ≡ 1024)

-- What one of the holders gives makes the slice that the length is asked for by, and so of one for each chunk of the blob.
pub record HaveParts {H : Type 0} (form : Form) (grain : Grain) (gives : H → ℕ → ℕ → List ℕ → Type 0) (mode : Mode) (blob : List ℕ) (holders : List H) : Type 0 where
  pub end : (start len : ℕ) → IsEndIn form start len → HasSlice (made_of form gives) mode blob start len holders
  pub each : (c start len : ℕ) → c < chunk_count (length blob) → IsAskedIn form grain c start len → HasSlice (made_of form gives) mode blob start len holders

abbrev pub IsOwn : Form → Fixed → List ℕ → Type 0
IsOwn Slices fixed blob = ⊥
IsOwn (Bare outline) fixed blob = IsOwnOutline fixed outline.now blob

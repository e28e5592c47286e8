-- An outline beside which a store's blob is gathered.
use Rattle.std.specs.Prelude.{◌≡◌, ℕ, List}
use Rattle.b3tree.specs.declared.mode.Mode.{Mode}
use Rattle.bao_check.specs.declared.outline.Outline.{Outline}
use Rattle.bao_check.specs.Outline.{outline_mode, outline_root}
use Rattle.holders.specs.declared.fixed.Fixed.{Fixed}

-- it was accepted under this root, in this mode
pub record IsUnder (outline : Outline) (mode : Mode) (root : List ℕ) : Type 0 where
  pub mode_is : outline_mode outline ≡ mode
  pub root_is : outline_root outline ≡ root

-- under the store's
abbrev pub IsOfStore : Fixed → Outline → Type 0
IsOfStore fixed outline = IsUnder outline fixed.mode fixed.root.0

-- Which grips belong to which words.
use Rattle.std.specs.Prelude.{◌≡◌, ℕ, ◌<◌}
use Rattle.holders.specs.declared.fixed.Fixed.{Fixed}
use Rattle.store_core.specs.Knowledge.{IsViewOf}
use Rattle.holders.specs.Room.{groups}
use Rattle.store_steps.specs.declared.words.Words.{Words}
use Rattle.store_steps.specs.Grips.{Gripped}

-- the root, mode, capacity and base
abbrev pub fixed_of : Words → Fixed
fixed_of words = words.fixed

-- The grip belongs to these words, and what it has seen is a legal history of their store. Its names are in
-- dictionary order, without duplicates.
pub record IsGripOf (words : Words) (grip : Gripped) : Type 0 where
  pub table_is : grip.table_id ≡ words.table.shared.table_id
  pub knows : IsViewOf words.fixed grip.view

-- the group exists
abbrev pub CoversGroup : Words → ℕ → Type 0
CoversGroup words group = group < groups words.fixed

-- Which chunks of a group are held, by reads that claim nothing.
use Rattle.std.specs.Prelude.{◌≡◌, ℕ, ◌+◌, ◌*◌, ◌^◌, List, [], ◌∷◌, Option, None, Some}
use Rattle.store_shared.specs.Reading.{SeatDidRead}
use Rattle.store_core.specs.declared.view.SeatView.{SeatView}

-- the bit of a chunk of a group, if it is held
abbrev pub held_bit : ℕ → Option ℕ → ℕ
held_bit j None = 2 ^ j
held_bit j (Some position) = 0

-- The seat read the first byte of chunk j of a group; the chunk's bit is set exactly if that byte was held.
pub record LooksAt (group j bit : ℕ) (old new : SeatView) : Type 0 where
  pub byte : List ℕ
  pub missing : Option ℕ
  pub read : SeatDidRead old new (1024 * (64 * group + j)) (0 ∷ []) byte missing
  pub bit_is : bit ≡ held_bit j missing

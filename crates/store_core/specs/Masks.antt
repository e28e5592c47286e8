-- Masks of chunks. A group is 64 aligned chunks, and a mask of it is the set of its bits 0 to 63: bit j stands for
-- chunk 64 * group + j.
use Rattle.std.specs.Prelude.{◌≡◌, ℕ, ◌/◌, ◌%◌, ◌^◌, ◌<◌, ◌==◌, Bool, ◌&&◌}
use Rattle.std.specs.Int.{bit_at}

-- whether bit j is set
unfoldable pub has_bit : ℕ → ℕ → Bool
has_bit mask j = bit_at mask j == 1

-- whether chunk c is one of the group's mask
abbrev pub in_mask : ℕ → ℕ → ℕ → Bool
in_mask group mask c = (c / 64 == group) && has_bit mask (c % 64)

-- the mask has exactly those chunks of the group that pass the test
pub record IsMaskOf (group mask : ℕ) (test : ℕ → Bool) : Type 0 where
  pub small : mask < 2 ^ 64
  pub bits : (c : ℕ) → c / 64 ≡ group → has_bit mask (c % 64) ≡ test c

-- How many groups there are, and for which lengths there is room.
use Rattle.std.specs.Prelude.{ℕ, ◌+◌, ◌*◌, ◌/◌, nat_le, ◌==◌, Bool, ◌&&◌}
use Rattle.holders.specs.declared.fixed.Fixed.{Fixed}

-- how many groups there are
abbrev pub groups : Fixed → ℕ
groups fixed = (fixed.capacity + 63) / 64

-- whether a blob of this length fits, from its first chunk on
abbrev pub has_room : Fixed → ℕ → Bool
has_room fixed l = (fixed.base == 0) && nat_le l (1024 * fixed.capacity)

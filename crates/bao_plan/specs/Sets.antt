-- Sets of chunks, as lists of runs of groups. Group g is the chunks from 64 * g on, and bit j of its mask stands for chunk 64 * g + j.
use Rattle.std.specs.Prelude.{◌≡◌, ℕ, zero, suc, ◌+◌, ◌/◌, ◌%◌, ◌<◌, ◌≤◌, ◌==◌, nat_le, nat_lt, Bool, false, ◌&&◌, ◌||◌, List, [], ◌∷◌, if◌then◌else◌}
use Rattle.std.specs.Int.{bit_at}
use Rattle.bao_plan.specs.declared.runs.Run.{Run}

-- whether bit j is set
unfoldable pub has_bit : ℕ → ℕ → Bool
has_bit mask j = bit_at mask j == 1

-- whether chunk c is one of the mask of a group
abbrev pub in_mask : ℕ → ℕ → ℕ → Bool
in_mask group mask c = (c / 64 == group) && has_bit mask (c % 64)

-- the mask of a group: that of the first run that ends behind it, and empty where none does
abbrev pub mask_at : List Run → ℕ → ℕ
mask_at [] group = 0
mask_at (r ∷ runs) group = if nat_lt group r.end then r.mask else mask_at runs group

-- which run that is
abbrev pub index_of : List Run → ℕ → ℕ
index_of [] group = 0
index_of (r ∷ runs) group = if nat_lt group r.end then 0 else suc (index_of runs group)

-- whether chunk c is in the set
abbrev pub contains : List Run → ℕ → Bool
contains runs c = has_bit (mask_at runs (c / 64)) (c % 64)

-- the mask is of those chunks that pass the test, of each group from this one on up to the run's end
pub record IsRunOf (group : ℕ) (r : Run) (test : ℕ → Bool) : Type 0 where
  pub ahead : group < r.end
  pub bits : (c : ℕ) → group ≤ c / 64 → c / 64 < r.end → has_bit r.mask (c % 64) ≡ test c

-- whether chunk c is one of `count` chunks from `first` on
abbrev pub in_range : ℕ → ℕ → ℕ → Bool
in_range first count c = nat_le first c && nat_lt c (first + count)

-- whether some number below n passes the test
unfoldable pub any_below : ℕ → (ℕ → Bool) → Bool
any_below zero p = false
any_below (suc n) p = any_below n p || p n

-- whether some bit of a mask is set
abbrev pub is_some_bit : ℕ → Bool
is_some_bit mask = any_below 64 (has_bit mask)

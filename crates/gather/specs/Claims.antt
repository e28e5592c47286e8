-- Which chunks a seat claims, by number, before calls and after them.
use Rattle.std.specs.Prelude.{◌≡◌, ◌⊎◌, ℕ, Bool, true, false}
use Rattle.store_core.specs.Masks.{in_mask}

-- all that it claims it claimed
abbrev pub Among : (ℕ → Bool) → (ℕ → Bool) → Type 0
Among old new = (c : ℕ) → new c ≡ true → old c ≡ true

-- or they are chunks of the group's mask
abbrev pub AmongAnd : (ℕ → Bool) → ℕ → ℕ → (ℕ → Bool) → Type 0
AmongAnd old group mask new = (c : ℕ) → new c ≡ true → (old c ≡ true) ⊎ (in_mask group mask c ≡ true)

-- and none of them is a chunk of the group's mask
abbrev pub Without : (ℕ → Bool) → ℕ → ℕ → (ℕ → Bool) → Type 0
Without old group mask new = (c : ℕ) → new c ≡ true → (old c ≡ true) × (in_mask group mask c ≡ false)

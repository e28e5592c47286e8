-- Elements of a list put bit by bit of a group's mask. Past its end a list has the same element at each place.
use Rattle.std.proofs.Common.{◌≡◌, ℕ, ◌+◌, ◌*◌, ◌%◌, ◌<◌, nat_lt, true, ◌&&◌, if◌then◌else◌, List, slice_index_or, arith}
use Rattle.std.proofs.lemmas.Bool.Decides.{nat_tests}
use Rattle.store_core.specs.Masks.{has_bit, in_mask}

-- a place of the group's mask
pub in_mask_at : (group mask j : ℕ) → j < 64 → has_bit mask j ≡ true → in_mask group mask (64 * group + j) ≡ true
in_mask_at group mask j below bit = grind (arith, nat_tests)

-- the places of the group's mask whose bits are below j have the values of their bits, and all others what they had
abbrev pub IsPutBelow : (A : Type 0) → A → ℕ → ℕ → ℕ → (ℕ → A) → List A → List A → Type 0
IsPutBelow A d group mask j value old new =
    (c : ℕ) → slice_index_or new c d ≡ (if in_mask group mask c && nat_lt (c % 64) j then value (c % 64) else slice_index_or old c d)

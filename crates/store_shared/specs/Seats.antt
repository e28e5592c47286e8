-- Seats of a shared store: their masks of claims, and the store that they belong to.
use Rattle.std.specs.Prelude.{◌≡◌, ℕ, ◌/◌, ◌%◌, ◌<◌, List, [], length, slice_index}
use Rattle.holders.specs.declared.fixed.Fixed.{Fixed}
use Rattle.store_core.specs.declared.view.SeatView.{SeatView}
use Rattle.holders.specs.Room.{groups}
use Rattle.store_core.specs.Masks.{has_bit}
use Rattle.store_core.specs.Views.{seat_claims}
use Rattle.store_shared.specs.declared.assembly.Assembly.{Assembly}
pub use Rattle.store_shared.specs.Grips.{Gripped}
use Rattle.store_shared.specs.Grips.{CoversGroup, IsGripOf, fixed_of as fixed_of_words}

-- one word for each group, with the bits of exactly the chunks that the seat claims; and the seat is storing no
-- parents
pub record AreClaims (view : SeatView) (claims : List ℕ) : Type 0 where
  pub count : length claims ≡ groups view.fixed
  pub bits : (c : ℕ) → c / 64 < groups view.fixed → has_bit (slice_index claims (c / 64)) (c % 64) ≡ seat_claims view c
  pub idle : view.storing ≡ []

-- the root, mode, capacity and base
abbrev pub fixed_of : Assembly → Fixed
fixed_of assembly = fixed_of_words assembly.words

-- The seat belongs to this store, and what it has seen is a legal history of the store. Its names are in
-- dictionary order, without duplicates.
abbrev pub IsSeatOf : Assembly → Gripped → Type 0
IsSeatOf assembly seat = IsGripOf assembly.words seat

-- the group exists
abbrev pub IsGroupOf : Assembly → ℕ → Type 0
IsGroupOf assembly group = CoversGroup assembly.words group

-- When a store has room for a length, and that it has for one that is recorded.
use Rattle.std.proofs.lemmas.Bool.Decides.{nat_tests}
use Rattle.std.proofs.Common.{◌≡◌, ℕ, ◌*◌, ◌<◌, ◌≤◌, true, false, List, Some, subst, arith}
use Rattle.holders.specs.declared.fixed.Fixed.{Fixed}
use Rattle.store_core.specs.declared.history.Event.{Event}
use Rattle.holders.specs.Room.{has_room}
use Rattle.store_core.specs.Histories.{IsLegal, state_after}
use Rattle.store_core.specs.Laws.{IsSettled}
use Rattle.store_core.proofs.Origins.{record_is_settled}

pub has_room_of : (fixed : Fixed) (l : ℕ) → fixed.base ≡ 0 → l ≤ 1024 * fixed.capacity → has_room fixed l ≡ true
has_room_of fixed l first fits = grind (arith, nat_tests)

pub no_room_of : (fixed : Fixed) (l : ℕ) → fixed.base ≡ 0 → has_room fixed l ≡ false → 1024 * fixed.capacity < l
no_room_of fixed l first none = grind (arith, nat_tests)

room_base : (fixed : Fixed) (l : ℕ) → has_room fixed l ≡ true → fixed.base ≡ 0
room_base fixed l room = grind (arith, nat_tests)

room_fits : (fixed : Fixed) (l : ℕ) → has_room fixed l ≡ true → l ≤ 1024 * fixed.capacity
room_fits fixed l room = grind (arith, nat_tests)

recorded_room : (fixed : Fixed) (history : List Event) (l : ℕ) → IsLegal fixed history → (state_after history).recorded ≡ Some l → has_room fixed l ≡ true
recorded_room fixed history l legal is =
    let settled : IsSettled fixed history l = record_is_settled fixed history l legal is in
    subst (λ (n : ℕ). has_room fixed n ≡ true) settled.is settled.fits

-- a length is recorded by a store of a blob's first chunks alone
pub base_recorded : (fixed : Fixed) (history : List Event) (l : ℕ) → IsLegal fixed history → (state_after history).recorded ≡ Some l → fixed.base ≡ 0
base_recorded fixed history l legal is = room_base fixed l (recorded_room fixed history l legal is)

-- and it is one that the store has room for
pub recorded_fits : (fixed : Fixed) (history : List Event) (l : ℕ) → IsLegal fixed history → (state_after history).recorded ≡ Some l → l ≤ 1024 * fixed.capacity
recorded_fits fixed history l legal is = room_fits fixed l (recorded_room fixed history l legal is)

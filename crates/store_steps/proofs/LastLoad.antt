-- Which load is a read's last, by where its bytes end.
use Rattle.std.proofs.lemmas.Bool.Decides.{nat_tests}
use Rattle.std.proofs.Common.{arith, ◌≡◌, ◌⊎◌, ℕ, ◌+◌, ◌<◌, ◌≤◌, Bool, true, false, ◌||◌, length, inl, inr}
use Rattle.std.proofs.lemmas.Bool.{le-leb, le-ltb, lt-leb, lt-ltb, or_left, or_right}
use Rattle.holders.specs.declared.fixed.Fixed.{Fixed}
use Rattle.store_core.specs.States.{State, read_bytes}
use Rattle.store_steps.specs.Reads.{group_end, is_last, read_end}

-- nothing is asked that could be held, or the read ends in the group, or its bytes do
pub is_last-true : (fixed : Fixed) (group at len : ℕ) (s : State)
    → (read_end fixed at len ≤ at) ⊎ ((read_end fixed at len ≤ group_end group) ⊎ (at + length (read_bytes s at len) < group_end group))
    → is_last fixed group at len s ≡ true
is_last-true fixed group at len s (inl none) = or_left _ _ (le-leb _ _ none)
is_last-true fixed group at len s (inr (inl ends)) = or_right _ _ (or_left _ _ (le-leb _ _ ends))
is_last-true fixed group at len s (inr (inr stops)) = or_right _ _ (or_right _ _ (lt-ltb _ _ stops))

none_of : (a b c : Bool) → a ≡ false → b ≡ false → c ≡ false → (a || (b || c)) ≡ false
none_of a b c p q r = grind (arith, nat_tests)

-- the read goes on where all is held up to the group's end, and more is asked that could be
pub is_last-false : (fixed : Fixed) (group at len : ℕ) (s : State) → at < read_end fixed at len → group_end group < read_end fixed at len
    → group_end group ≤ at + length (read_bytes s at len) → is_last fixed group at len s ≡ false
is_last-false fixed group at len s some more held =
    none_of _ _ _ (lt-leb _ _ some) (lt-leb _ _ more) (le-ltb _ _ held)

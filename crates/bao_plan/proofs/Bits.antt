-- Bits of masks that are joined, met, turned over or filled from below.
use Rattle.std.proofs.lemmas.Grind.{common_steps}
use Rattle.std.proofs.Common.{◌≡◌, ℕ, ◌-◌, ◌*◌, ◌%◌, ◌^◌, ◌<◌, ◌≤◌, min, max, ◌==◌, false, not, ◌&&◌, ◌||◌, sym, ap, ◌∙◌, arith, nat_lt, ◌/◌}
use Rattle.std.specs.Int.{w64, bit_at, bit_not}
use Rattle.std.specs.Int.Bits.{bit_and, bit_or}
use Rattle.std.proofs.lemmas.Bool.Decides.{nat_tests}
use Rattle.std.proofs.lemmas.Bool.{lt-ltb}
use Rattle.std.proofs.lemmas.Nat.{and_le_l, pow_below}
use Rattle.std.proofs.lemmas.Nat.Bits.{bit_at-lt, bit_at-zero, bit_at_and, bit_at_not, bit_at_ones, bit_at_ones_above, bit_at_or}
use Rattle.bao_plan.specs.Sets.{has_bit}

or_bits : (x y : ℕ) → x < 2 → y < 2 → (max x y == 1) ≡ ((x == 1) || (y == 1))
or_bits x y a b = grind (arith, nat_tests)

and_bits : (x y : ℕ) → x < 2 → y < 2 → (min x y == 1) ≡ ((x == 1) && (y == 1))
and_bits x y a b = grind (arith, nat_tests)

not_bit : (x : ℕ) → x < 2 → (1 - x == 1) ≡ not (x == 1)
not_bit x a = grind (arith, nat_tests)

pub has_bit-or : (m n j : ℕ) → has_bit (bit_or m n) j ≡ (has_bit m j || has_bit n j)
unfolding has_bit
has_bit-or m n j = ap (λ (x : ℕ). x == 1) (bit_at_or m n j) ∙ or_bits (bit_at m j) (bit_at n j) (bit_at-lt m j) (bit_at-lt n j)

pub has_bit-and : (m n j : ℕ) → has_bit (bit_and m n) j ≡ (has_bit m j && has_bit n j)
unfolding has_bit
has_bit-and m n j = ap (λ (x : ℕ). x == 1) (bit_at_and m n j) ∙ and_bits (bit_at m j) (bit_at n j) (bit_at-lt m j) (bit_at-lt n j)

pub has_bit-not : (m j : ℕ) → m < 2 ^ 64 → j < 64 → has_bit (bit_not w64 m) j ≡ not (has_bit m j)
unfolding has_bit
has_bit-not m j small below = ap (λ (x : ℕ). x == 1) (bit_at_not w64 m j small below) ∙ not_bit (bit_at m j) (bit_at-lt m j)

pub has_bit-zero : (j : ℕ) → has_bit 0 j ≡ false
unfolding has_bit
has_bit-zero j = ap (λ (x : ℕ). x == 1) (bit_at-zero j)

pub and_small : (m n : ℕ) → m < 2 ^ 64 → bit_and m n < 2 ^ 64
and_small m n small = omega (arith, and_le_l m n, small)

-- the lowest k bits
pub has_bit-ones : (k i : ℕ) → has_bit (2 ^ k - 1) i ≡ nat_lt i k
unfolding has_bit
has_bit-ones k i = grind (arith, nat_tests, bit_at_ones, bit_at_ones_above)

same_order : (a b x y : ℕ) → (a < b → x < y) → (b ≤ a → y ≤ x) → nat_lt x y ≡ nat_lt a b
same_order a b x y low high = grind (arith, nat_tests)

-- the chunks of a group below a number that ends in it
pub below_part : (group end count c : ℕ) → c / 64 ≡ group → count ≡ end - 64 * group → count < 64 → has_bit (1 * 2 ^ count % 2 ^ 64 - 1) (c % 64) ≡ nat_lt c end
below_part group end count c here is part = grind (arith, common_steps, nat_tests, pow_below, has_bit-ones, same_order)

-- or after it
pub below_all : (group end count c : ℕ) → c / 64 ≡ group → count ≡ end - 64 * group → 64 ≤ count → has_bit 18446744073709551615 (c % 64) ≡ nat_lt c end
below_all group end count c here is all = has_bit-ones 64 (c % 64) ∙ lt-ltb (c % 64) 64 (omega arith) ∙ sym (lt-ltb c end (omega (arith, here, is, all)))

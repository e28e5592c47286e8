-- Masks bit by bit.
use Rattle.gather.proofs.Common.{◌≡◌, zero, suc, ℕ, ◌-◌, ◌/◌, ◌%◌, ◌^◌, ◌<◌, nat_eq, ◌==◌, true, false, ◌&&◌, not, min, refl, ap, ◌∙◌, arith, w64, bit_and, bit_at, bit_not, and_parts, and_from, and_right, bit_at-lt, bit_at-zero, bit_at_and, bit_at_not, in_mask}
use Rattle.store_core.specs.Masks.{has_bit}

-- a bit of one mask that isn't one of the other
min_not : (a b : ℕ) → a < 2 → b < 2 → nat_eq (min a (1 - b)) 1 ≡ (nat_eq a 1 && not (nat_eq b 1))
min_not zero zero h k = refl
min_not zero (suc zero) h k = refl
min_not (suc zero) zero h k = refl
min_not (suc zero) (suc zero) h k = refl
min_not (suc (suc a)) b h k = absurd (omega (arith, h))
min_not zero (suc (suc b)) h k = absurd (omega (arith, k))
min_not (suc zero) (suc (suc b)) h k = absurd (omega (arith, k))

pub bit_without : (mask other j : ℕ) → other < 2 ^ 64 → j < 64 → has_bit (bit_and mask (bit_not w64 other)) j ≡ (has_bit mask j && not (has_bit other j))
unfolding has_bit
bit_without mask other j small below =
    let and = bit_at_and mask (bit_not w64 other) j in
    let flip : bit_at (bit_not w64 other) j ≡ 1 - bit_at other j = bit_at_not w64 other j small below in
    ap (λ x. nat_eq x 1) (and ∙ ap (λ x. min (bit_at mask j) x) flip) ∙ min_not (bit_at mask j) (bit_at other j) (bit_at-lt mask j) (bit_at-lt other j)

-- chunks of a mask, but not of another: they are of the mask without it
pub in_without : (group mask other rest c : ℕ) → ((j : ℕ) → j < 64 → has_bit rest j ≡ (has_bit mask j && not (has_bit other j)))
    → in_mask group mask c ≡ true → in_mask group other c ≡ false → in_mask group rest c ≡ true
in_without group mask other rest c bits of_mask not_other =
    let parts = and_parts (c / 64 == group) (has_bit mask (c % 64)) of_mask in
    let here : (c / 64 == group) ≡ true = parts.0 in
    let unset : has_bit other (c % 64) ≡ false = rw here at not_other in
    and_from (c / 64 == group) (has_bit rest (c % 64)) here (bits (c % 64) (omega arith) ∙ and_from _ _ parts.1 (ap not unset))

-- no chunk is of an empty mask
pub has_bit_zero : (j : ℕ) → has_bit 0 j ≡ false
unfolding has_bit
has_bit_zero j = ap (λ x. nat_eq x 1) (bit_at-zero j)

pub in_mask_zero : (group c : ℕ) → in_mask group 0 c ≡ false
in_mask_zero group c = and_right (c / 64 == group) (has_bit 0 (c % 64)) (has_bit_zero (c % 64))

-- What the tests of masks, names and claims tell.
use Rattle.std.proofs.Common.{◌≡◌, ℕ, ◌+◌, ◌*◌, ◌/◌, ◌%◌, ◌<◌, ◌==◌, Bool, true, false, List, [], ◌∷◌, Option, None, Some, is_some, refl, sym, subst, ◌∙◌, arith, inl, inr, eq-eqb}
use Rattle.std.specs.Int.{bit_at}
use Rattle.std.specs.List.{list_any}
use Rattle.std.proofs.lemmas.Bool.{and_from, or_cases, or_left, or_right}
use Rattle.std.proofs.lemmas.Bool.Decides.{nat_tests}
use Rattle.std.proofs.lemmas.Nat.Bits.{bit_at-lt, same_from_bits_below}
use Rattle.store_core.specs.Masks.{IsMaskOf, has_bit, in_mask}
use Rattle.store_core.specs.Names.{Name, has_name, same_name, share_name}
use Rattle.store_core.specs.States.{State, claims, is_among, is_claimed}

-- a chunk of a right mask passes its test
pub masked : (group mask : ℕ) (test : ℕ → Bool) (c : ℕ) → IsMaskOf group mask test → in_mask group mask c ≡ true → test c ≡ true
masked group mask test c right hit = grind (arith, nat_tests)

-- equal tests of two bits are of equal bits
same_bit : (x y : ℕ) → x < 2 → y < 2 → (x == 1) ≡ (y == 1) → x ≡ y
same_bit x y a b e = grind (arith, nat_tests)

has_bit-same : (m n j : ℕ) → has_bit m j ≡ has_bit n j → bit_at m j ≡ bit_at n j
unfolding has_bit
has_bit-same m n j e = same_bit (bit_at m j) (bit_at n j) (bit_at-lt m j) (bit_at-lt n j) e

-- two right masks for one test are one
pub mask_unique : (group m n : ℕ) (test : ℕ → Bool) → IsMaskOf group m test → IsMaskOf group n test → m ≡ n
mask_unique group m n test right also = same_from_bits_below 64 m n right.small also.small (λ j h.
    let place : (64 * group + j) / 64 ≡ group = omega arith in
    let bit : (64 * group + j) % 64 ≡ j = omega arith in
    let same : has_bit m ((64 * group + j) % 64) ≡ has_bit n ((64 * group + j) % 64) = right.bits (64 * group + j) place ∙ sym (also.bits (64 * group + j) place) in
    has_bit-same m n j (subst (λ (k : ℕ). has_bit m k ≡ has_bit n k) bit same))

-- names that the test calls one are one
pub same_name-true : (one other : Name) → same_name one other ≡ true → one ≡ other
same_name-true [] [] h = refl
same_name-true [] (y ∷ ys) h = cc
same_name-true (x ∷ xs) [] h = cc
same_name-true (x ∷ xs) (y ∷ ys) h = grind (arith, nat_tests, same_name-true xs ys)

pub same_name-refl : (name : Name) → same_name name name ≡ true
same_name-refl [] = refl
same_name-refl (x ∷ xs) = and_from _ _ (eq-eqb x x refl) (same_name-refl xs)

pub same_name-turned : (one other : Name) → same_name one other ≡ same_name other one
same_name-turned [] [] = refl
same_name-turned [] (y ∷ ys) = refl
same_name-turned (x ∷ xs) [] = refl
same_name-turned (x ∷ xs) (y ∷ ys) = grind (arith, nat_tests, same_name-turned xs ys)

-- a name of both sets is a common one
pub common_name : (ours theirs : List Name) (name : Name) → has_name ours name ≡ true → has_name theirs name ≡ true → share_name ours theirs ≡ true
common_name ours [] name our their = cc
common_name ours (other ∷ theirs) name our their = elim (or_cases (same_name name other) (list_any (same_name name) theirs) their) [
  | inl same ↦ or_left _ _ (subst (λ (n : Name). has_name ours n ≡ true) (same_name-true name other same) our)
  | inr rest ↦ or_right _ _ (common_name ours theirs name our rest)
]

pub among_apart : (ours theirs : List Name) (o : Option Name) → share_name ours theirs ≡ false → is_among theirs o ≡ true → is_among ours o ≡ false
among_apart ours theirs None apart h = refl
among_apart ours theirs (Some name) apart h = grind (arith, nat_tests, common_name)

-- a chunk that one caller claims no other does
pub claims_apart : (s : State) (ours theirs : List Name) (c : ℕ) → share_name ours theirs ≡ false → claims theirs s c ≡ true → claims ours s c ≡ false
claims_apart s ours theirs c apart h = among_apart ours theirs (s.claim c) apart h

among_some : (names : List Name) (o : Option Name) → is_among names o ≡ true → is_some o ≡ true
among_some names o h = grind (arith, nat_tests)

-- what someone claims is claimed
pub claims-claimed : (names : List Name) (s : State) (c : ℕ) → claims names s c ≡ true → is_claimed s c ≡ true
claims-claimed names s c h = among_some names (s.claim c) h

-- Masks made bit by bit, and chunks marked bit by bit.
use Rattle.std.proofs.lemmas.Bool.Decides.{nat_tests}
use Rattle.std.proofs.Common.{zero, suc, ◌≡◌, ℕ, ◌+◌, ◌*◌, ◌^◌, ◌<◌, ◌≤◌, Bool, true, false, List, length, refl, sym, ap, subst, ◌∙◌, arith, inl, inr, get_or, ◌++◌, [], ◌∷◌, length-append, get_or-append-add}
use Rattle.std.proofs.lemmas.Bool.{cases_eq}
use Rattle.std.proofs.lemmas.Option.{get_or_from_slice_get, slice_get-get_or}
use Rattle.store_core.specs.declared.slot.Slot.{Slot}
use Rattle.store_core.specs.declared.slot.Slot.TheVariants.{Free}
use Rattle.store_core.specs.Masks.{IsMaskOf, has_bit}
use Rattle.bao_check.specs.declared.checked.Checked.{Checked}
use Rattle.bao_check.specs.Checked.{piece_places, piece_text}
use Rattle.bao_check.specs.Parents.{IsParentMask}
use Rattle.holders.specs.Pieces.{holds_parent, piece_of}
use Rattle.store_core.specs.Slots.{AreCopies, IsSlotCopy, slot_at}
use Rattle.store_core.proofs.Bits.{has_bit-zero}

-- the mask is right for the chunks whose bits are below j, and has no other bit yet
pub record IsMaskUpTo (group mask j : ℕ) (test : ℕ → Bool) : Type 0 where
  pub small : mask < 2 ^ 64
  pub below : (k : ℕ) → k < j → has_bit mask k ≡ test (64 * group + k)
  pub above : (k : ℕ) → j ≤ k → has_bit mask k ≡ false

pub up_to_none : (group : ℕ) (test : ℕ → Bool) → IsMaskUpTo group 0 0 test
up_to_none group test = record { small = omega arith; below = λ k h. absurd (omega arith); above = λ k h. has_bit-zero k }

-- bit j of a mask that is right
pub bit_of : (group mask j : ℕ) (test : ℕ → Bool) → IsMaskOf group mask test → j < 64 → has_bit mask j ≡ test (64 * group + j)
bit_of group mask j test is below = grind (arith, nat_tests)

-- a mask of a piece's parents, as a check tells it
pub parents_marked : (piece : Checked) (group mask : ℕ) → mask < 2 ^ 64 → IsParentMask (piece_text piece) (piece_places piece) group mask
    → IsMaskOf group mask (λ m. holds_parent (piece_of 0 piece) m)
unfolding has_bit
parents_marked piece group mask small marked = grind (arith, nat_tests)

-- an element, read with one default or another
pub read_again : (xs : List Slot) (i : ℕ) (r : Slot) → i < length xs → r ≡ get_or xs i r → r ≡ slot_at xs i
read_again xs i r within is = is ∙ sym (get_or_from_slice_get xs i (get_or xs i r) Free (slice_get-get_or xs i r within))

-- a slot of the first of two lists
slot_left : (xs ys : List Slot) (k : ℕ) → k < length xs → slot_at (xs ++ ys) k ≡ slot_at xs k
slot_left [] ys k below = absurd (omega arith)
slot_left (x ∷ xs) ys zero below = refl
slot_left (x ∷ xs) ys (suc k) below = slot_left xs ys k (omega arith)

-- one more slot of the mask
pub copies_more : (base : ℕ) (piece : Checked) (group mask n : ℕ) (xs ys : List Slot) (slot : Slot) → AreCopies base piece group mask n xs
    → (has_bit mask n ≡ true → IsSlotCopy base piece (64 * group + n) slot) → ys ≡ xs ++ slot ∷ [] → AreCopies base piece group mask (n + 1) ys
copies_more base piece group mask n xs ys slot copies here is = record {
  count = ap length is ∙ length-append xs (slot ∷ []) ∙ omega (arith, copies.count);
  each = λ k below bit. elim (cases_eq k n) [
    | inl at ↦
        let last : slot_at (xs ++ slot ∷ []) (length xs + 0) ≡ slot = get_or-append-add xs (slot ∷ []) 0 Free in
        let place : length xs + 0 ≡ k = omega (arith, copies.count, at) in
        let found : slot ≡ slot_at ys k = sym last ∙ ap (λ (i : ℕ). slot_at (xs ++ slot ∷ []) i) place ∙ ap (λ (zs : List Slot). slot_at zs k) (sym is) in
        subst (λ (s : Slot). IsSlotCopy base piece (64 * group + k) s) found
        (subst (λ (i : ℕ). IsSlotCopy base piece (64 * group + i) slot) (sym at) (here (subst (λ (i : ℕ). has_bit mask i ≡ true) at bit)))
    | inr other ↦
        let inside : k < length xs = omega (arith, copies.count, below, other) in
        let found : slot_at xs k ≡ slot_at ys k = sym (slot_left xs (slot ∷ []) k inside) ∙ ap (λ (zs : List Slot). slot_at zs k) (sym is) in
        subst (λ (s : Slot). IsSlotCopy base piece (64 * group + k) s) found (copies.each k (omega (arith, below, other)) bit)
  ];
}

-- What a store stands for after parents of a piece were stored.
use Rattle.std.proofs.lemmas.Bool.Decides.{nat_tests}
use Rattle.std.proofs.Common.{◌≡◌, ℕ, ◌+◌, ◌*◌, ◌/◌, ◌%◌, ◌<◌, ◌≤◌, ◌==◌, true, false, Bool, not, ◌&&◌, List, lit<, w64, arith, Option, None, Some, Result, IfErr, is_some, sym, ap, ◌∙◌}
use Rattle.std.specs.Option.{option_eq}
use Rattle.std.specs.Result.{IsErrAnd}
use Rattle.std.specs.Int.{bit_at, trailing_zeros}
use Rattle.std.proofs.Math.Dec.{eqb}
use Rattle.std.proofs.lemmas.Bool.{and_parts}
use Rattle.std.proofs.lemmas.Nat.Bits.{bit_at-trailing_zeros}
use Rattle.bao_check.proofs.Descents.{parent_outside}
use Rattle.bao_check.proofs.Parenting.{parent_in-some}
use Rattle.bao_check.specs.declared.checked.Checked.{Checked}
use Rattle.store_core.specs.declared.fault.StoreFault.{StoreFault}
use Rattle.store_core.specs.declared.fault.StoreFault.TheVariants.{Memory}
use Rattle.holders.specs.declared.fixed.Fixed.{Fixed}
use Rattle.store_core.specs.declared.history.Call.TheVariants.{Parents}
use Rattle.holders.specs.declared.piece.Piece.{Piece}
use Rattle.store_core.specs.declared.history.Storing.TheVariants.{Stored}
use Rattle.store_core.specs.declared.slot.Slot.{Slot}
use Rattle.store_core.specs.declared.store.Store.{Store}
use Rattle.holders.specs.Room.{groups}
use Rattle.store_core.specs.Masks.{IsMaskOf, has_bit}
use Rattle.store_core.specs.Names.{Name}
use Rattle.holders.specs.Pieces.{IsAcceptedPiece, holds_parent, length_of, piece_of}
use Rattle.store_core.specs.Slots.{parent_among, state_in, with_parents}
use Rattle.store_core.specs.States.{State}
use Rattle.store_core.specs.Stores.{IsSame, IsUnstored, StoresParent, fixed_of, state_of}
use Rattle.store_core.specs.Reached.{IsReached}
use Rattle.store_core.proofs.Bits.{has_bit-zero}
use Rattle.store_core.proofs.BoundStore.{length_fits}
use Rattle.store_core.proofs.SlotStates.{IsDone}
use Rattle.store_core.proofs.Tells.{mask_unique}

-- parents that are the same at each boundary make the same state
pub same_parents : (s : State) (old new : List (Option (List ℕ))) → ((m : ℕ) → parent_among new m ≡ parent_among old m) → with_parents s new ≡ with_parents s old
same_parents s old new same = λ i. record s { parents = λ m. same m i }

none_from : (o : Option (List ℕ)) → not (is_some o) ≡ true → o ≡ None
none_from o h = grind (arith, nat_tests)

-- no parent is stored
pub store_none : (fixed : Fixed) (s : State) (group : ℕ) (piece : Piece) → IsAcceptedPiece fixed piece → s.recorded ≡ Some (length_of piece)
    → IsMaskOf group 0 (λ m. holds_parent piece m && not (is_some (s.parents m))) → (who : List Name) → IsDone fixed s s who (Parents group piece (Stored 0))
store_none fixed s group piece accepted length_is wanted = grind (arith, nat_tests, has_bit-zero)

-- a mask that isn't empty has a parent to store
pub stores_parent : (store : Store) (group mask : ℕ) (piece : Checked) → 0 < mask → IsMaskOf group mask (λ m. holds_parent (piece_of (fixed_of store).base piece) m && not (is_some ((state_of store).parents m)))
    → StoresParent store group piece
unfolding has_bit
stores_parent store group mask piece some is =
    let low = bit_at-trailing_zeros w64 mask some is.small in
    let j : ℕ = trailing_zeros w64 mask in
    let below : j < 64 = low.0 in
    let place : (64 * group + j) / 64 ≡ group = omega arith in
    let bit : (64 * group + j) % 64 ≡ j = omega arith in
    let hit : (bit_at mask ((64 * group + j) % 64) == 1) ≡ true = ap (λ (k : ℕ). bit_at mask k == 1) bit ∙ ap (λ (b : ℕ). b == 1) low.1 in
    let test = and_parts (holds_parent (piece_of (fixed_of store).base piece) (64 * group + j)) (not (is_some ((state_of store).parents (64 * group + j)))) (sym (is.bits (64 * group + j) place) ∙ hit) in
    record { boundary = 64 * group + j; place = place; holds = test.0; lacks = none_from ((state_of store).parents (64 * group + j)) test.1 }

-- of a group that isn't there the piece holds none, since there is none past the blob's last chunk
pub absent_none : (fixed : Fixed) (piece : Piece) (seen : List (Option (List ℕ))) (group : ℕ) → length_of piece ≤ 1024 * fixed.capacity → groups fixed ≤ group
    → IsMaskOf group 0 (λ m. holds_parent piece m && not (is_some (parent_among seen m)))
absent_none fixed piece seen group fits past = grind (arith, nat_tests, lit<, parent_in-some, parent_outside, has_bit-zero)

-- where there is a parent to store, the group is there
pub is_there : (fixed : Fixed) (slots : List Slot) (o : Option ℕ) (old seen : List (Option (List ℕ))) (group mask : ℕ) (piece : Piece)
    → ∥ IsReached fixed (with_parents (state_in slots o) old) ∥₁ → IsMaskOf group mask (λ m. holds_parent piece m && not (is_some (parent_among seen m))) → (mask ≡ 0 → ⊥)
    → o ≡ Some (length_of piece) → groups fixed ≤ group → ⊥
is_there fixed slots o old seen group mask piece reached is some length_is past =
    some (mask_unique group mask 0 (λ m. holds_parent piece m && not (is_some (parent_among seen m))) is
    (absent_none fixed piece seen group (length_fits fixed slots o old (length_of piece) reached length_is) past))

-- a recorded length that was compared with another
same_length : (o : Option ℕ) (l : ℕ) → not (option_eq eqb o (Some l)) ≡ false → o ≡ Some l
same_length o l h = grind (arith, nat_tests, eqb)

pub recorded_is : (o : Option ℕ) (l : ℕ) (b : Bool) → b ≡ not (option_eq eqb o (Some l)) → b ≡ false → o ≡ Some l
recorded_is o l b is not_other = same_length o l (sym is ∙ not_other)

-- running out of memory leaves what the store stands for
pub unstored_memory : (old new : Store) (group : ℕ) (piece : Checked) (r : Result ℕ StoreFault) → IsErrAnd r (λ fault. fault ≡ Memory) → IsSame old new → IfErr r (λ fault. IsUnstored old new group piece fault)
unstored_memory old new group piece r h same = grind (arith, nat_tests)

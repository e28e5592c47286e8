-- A seat with all names stores all parents that the piece holds and that it has not seen held.
use Rattle.std.proofs.lemmas.Bool.Decides.{nat_tests}
use Rattle.std.proofs.Common.{◌≡◌, ℕ, ◌+◌, ◌*◌, ◌/◌, ◌%◌, ◌≤◌, nat_lt, false, Bool, not, ◌&&◌, List, [], ◌++◌, length, Option, is_some, lit<, refl, sym, ap, ◌∙◌, arith, append-nil, length-append, ltb-false}
use Rattle.bao_check.proofs.Descents.{parent_outside}
use Rattle.bao_check.proofs.Parenting.{parent_in-some}
use Rattle.bao_text.specs.Choice.{of_slice}
use Rattle.store_core.specs.declared.history.Event.{Event}
use Rattle.holders.specs.declared.piece.Piece.{Piece}
use Rattle.store_core.specs.declared.view.SeatView.{SeatView}
use Rattle.store_core.specs.Histories.{is_by}
use Rattle.store_core.specs.Knowledge.{Sees}
use Rattle.store_core.specs.Masks.{IsMaskOf, has_bit}
use Rattle.holders.specs.Pieces.{holds_parent, length_of, places_in}
use Rattle.store_core.specs.States.{State}
use Rattle.store_core.specs.Views.{mine, names_of}
use Rattle.store_core.proofs.Bits.{has_bit-zero}
use Rattle.std.proofs.lemmas.List.{nil_from_length}
use Rattle.std.proofs.lemmas.List.Filters.{length-filter_both}

-- a seat that has made all calls that it has seen, saw none of others'
pub saw_nothing : (old new : SeatView) → Sees old new → mine new ≡ new.seen → new.seen ≡ old.seen
saw_nothing old new saw own =
    let long : new.seen ≡ (old.seen ++ saw.between) ++ [] = saw.goes_on.seen_is in
    let same : mine new ≡ mine old ++ [] = saw.goes_on.mine_is in
    let few : length (mine old) ≤ length old.seen = omega (arith, length-filter_both (is_by (names_of old)) (λ e. not (is_by (names_of old) e)) (λ e. refl) old.seen) in
    let size : length saw.between ≡ 0 = omega (
      arith,
      few,
      ap length long,
      ap length same,
      ap length own,
      length-append (old.seen ++ saw.between) [],
      length-append old.seen saw.between,
      length-append (mine old) [],
    ) in
    long ∙ append-nil (old.seen ++ saw.between) ∙ ap (λ (xs : List Event). old.seen ++ xs) (nil_from_length saw.between size) ∙ append-nil old.seen

-- the piece holds no parent past the blob's last chunk
holds_none : (capacity : ℕ) (piece : Piece) (m : ℕ) → length_of piece ≤ 1024 * capacity → capacity ≤ m → holds_parent piece m ≡ false
holds_none capacity piece m fits past =
    parent_in-some piece.text (places_in piece) m
    ∙ ap (λ (o : Option ℕ). is_some o) (parent_outside (of_slice (length_of piece) piece.start piece.len) 0 (length_of piece) [] 8 8 m (λ w. omega (arith, w.0, w.1, fits, past)))

-- so there are none of a group that isn't there
pub none_absent : (capacity group : ℕ) (piece : Piece) (s : State) → length_of piece ≤ 1024 * capacity → (capacity + 63) / 64 ≤ group
    → IsMaskOf group 0 (λ m. holds_parent piece m && not (is_some (s.parents m)))
none_absent capacity group piece s fits past = record {
  small = lit< tt;
  bits = λ m at. has_bit-zero (m % 64)
      ∙ ap (λ (b : Bool). b && not (is_some (s.parents m))) (sym (holds_none capacity piece m fits (omega (arith, past, at))));
}

both_tests : (low holds free : Bool) → (low ≡ false → holds ≡ false) → ((low && holds) && (low && free)) ≡ (holds && free)
both_tests low holds free none = grind (arith, nat_tests)

-- the capacity leaves none out
pub all_parents : (capacity group want mask : ℕ) (piece : Piece) (s : State) → length_of piece ≤ 1024 * capacity
    → IsMaskOf group want (λ m. nat_lt m capacity && holds_parent piece m)
    → IsMaskOf group mask (λ m. has_bit want (m % 64) && (nat_lt m capacity && not (is_some (s.parents m))))
    → IsMaskOf group mask (λ m. holds_parent piece m && not (is_some (s.parents m)))
all_parents capacity group want mask piece s fits wants is = record {
  small = is.small;
  bits = λ m at.
      is.bits m at
      ∙ ap (λ (b : Bool). b && (nat_lt m capacity && not (is_some (s.parents m)))) (wants.bits m at)
      ∙ both_tests (nat_lt m capacity) (holds_parent piece m) (not (is_some (s.parents m))) (λ past. holds_none capacity piece m fits (ltb-false m capacity past));
}

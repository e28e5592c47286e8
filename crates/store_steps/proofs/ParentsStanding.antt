-- Parents that are held or being stored, where a word of another kind is written.
use Rattle.std.proofs.Common.{◌≡◌, ℕ, ◌+◌, ◌*◌, ◌/◌, ◌%◌, ◌<◌, ◌≤◌, List, Option, Some, set, slice_index, sym, ap, ◌∙◌, arith, [], true}
use Rattle.std.proofs.lemmas.List.{set-get_or}
use Rattle.holders.specs.declared.fixed.Fixed.{Fixed}
use Rattle.store_core.specs.declared.view.Boundaries.{Boundaries}
use Rattle.store_core.specs.declared.view.SeatView.{SeatView}
use Rattle.store_core.specs.declared.view.StoredWord.{StoredWord}
use Rattle.store_core.specs.Masks.{has_bit}
use Rattle.store_core.specs.Views.{is_boundary, is_storing, stored}
use Rattle.store_steps.specs.Layout.{parents_place, parent_claim_place, parent_held_place, parent_word_place}
use Rattle.store_steps.specs.Rule.{FitsParents, StandForParents}
use Rattle.store_steps.proofs.WrittenWords.{left}
use Rattle.std.proofs.lemmas.Option.{none-some, same_Some}
use Rattle.std.proofs.lemmas.Bool.{false≢true}

-- the words of parents are as they were
abbrev pub LeavesParents : Fixed → List ℕ → List ℕ → Type 0
LeavesParents fixed words later = (place : ℕ) → parents_place fixed ≤ place → slice_index later place ≡ slice_index words place

-- where a word before them is written, and where none is
pub leaves_low : (fixed : Fixed) (words : List ℕ) (i n : ℕ) → i < parents_place fixed → LeavesParents fixed words (set words i n)
leaves_low fixed words i n low place high = left words i n place (λ e. omega (arith, e, low, high))

pub leaves_same : (fixed : Fixed) (words : List ℕ) (i : ℕ) → LeavesParents fixed words (set words i (slice_index words i))
leaves_same fixed words i place high = ap (λ (ws : List ℕ). slice_index ws place) (set-get_or words i 0)

pub parents_left : (fixed : Fixed) (words later : List ℕ) (parents : ℕ → Option (List ℕ)) (storer : ℕ → Option (ℕ × ℕ)) → LeavesParents fixed words later
    → StandForParents fixed words parents storer → StandForParents fixed later parents storer
parents_left fixed words later parents storer leaves h = record {
  held = λ m below. ap (λ (w : ℕ). has_bit w (m % 64)) (leaves (parent_held_place fixed (m / 64)) (omega arith)) ∙ h.held m below;
  claimed = λ m below. ap (λ (w : ℕ). has_bit w (m % 64)) (leaves (parent_claim_place fixed (m / 64)) (omega arith)) ∙ h.claimed m below;
  cells = λ m w bytes held below. leaves (parent_word_place fixed (8 * m + w)) (omega arith) ∙ h.cells m w bytes held below;
  apart = h.apart;
}

pub fits_left : (fixed : Fixed) (words later : List ℕ) (storer : ℕ → Option (ℕ × ℕ)) (seat part : ℕ) (view : SeatView) → LeavesParents fixed words later
    → FitsParents fixed words storer seat part view → FitsParents fixed later storer seat part view
fits_left fixed words later storer seat part view leaves h = record {
  low = h.low;
  owned = h.owned;
  written = λ number value is. let w = h.written number value is in (w.0, leaves (parent_word_place fixed number) (omega arith) ∙ w.1);
}

-- a view that is storing the same
pub fits_same : (fixed : Fixed) (words : List ℕ) (storer : ℕ → Option (ℕ × ℕ)) (seat part : ℕ) (view new : SeatView) → new.storing ≡ view.storing → new.parent_words ≡ view.parent_words
    → FitsParents fixed words storer seat part view → FitsParents fixed words storer seat part new
fits_same fixed words storer seat part view new storing parent_words h =
    let same : (m : ℕ) → is_storing new m ≡ is_storing view m = λ m. ap (λ (bs : List Boundaries). is_boundary bs m) storing in
    record {
      low = λ m is. h.low m (sym (same m) ∙ is);
      owned = λ m is. h.owned m (sym (same m) ∙ is);
      written = λ number value is.
          let w = h.written number value (sym (ap (λ (ws : List StoredWord). stored ws number) parent_words) ∙ is) in (same (number / 8) ∙ w.0, w.1);
    }

-- one that is storing none
pub fits_none : (fixed : Fixed) (words : List ℕ) (storer : ℕ → Option (ℕ × ℕ)) (seat part : ℕ) (view : SeatView) → view.storing ≡ [] → view.parent_words ≡ []
    → FitsParents fixed words storer seat part view
fits_none fixed words storer seat part view none empty =
    let never : (m : ℕ) → is_storing view m ≡ true → ⊥ = λ m is. false≢true (sym (ap (λ (bs : List Boundaries). is_boundary bs m) none) ∙ is) in
    record {
      low = λ m is. absurd (never m is);
      owned = λ m is. absurd (never m is);
      written = λ number value is. absurd (none-some value (sym (ap (λ (ws : List StoredWord). stored ws number) empty) ∙ is));
    }

-- one place is one seat
pub same_seat : (i j id part : ℕ) → ◌≡◌ {A = Option (ℕ × ℕ)} (Some (i, j)) (Some (id, part)) → i ≡ id
same_seat i j id part e = ap (λ (p : ℕ × ℕ). p.0) (same_Some {A = ℕ × ℕ} (i, j) (id, part) e)

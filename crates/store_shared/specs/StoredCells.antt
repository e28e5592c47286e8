-- Storing words: which words a seat has stored since a view, while nothing else that it knows changed.
use Rattle.std.specs.Prelude.{◌≡◌, ℕ, ◌+◌, ◌*◌, ◌%◌, ◌<◌, true, List, length, Some, is_some}
use Rattle.holders.specs.declared.piece.Piece.{Piece}
use Rattle.store_core.specs.declared.view.SeatView.{SeatView}
use Rattle.store_core.specs.Masks.{in_mask}
use Rattle.store_core.specs.Views.{stored}
use Rattle.store_steps.specs.Kinds.{Kind, Owns, bytes_in, chunk_kind, parent_kind, width, with_words, word_of, words_of}

-- bytes that an item can have
abbrev pub Fits : Kind → List ℕ → Type 0
Fits chunk_kind bytes = Unit {0}
Fits parent_kind bytes = length bytes ≡ 64

-- the seat may store each item in the mask, and the slice has it
pub record AreOwnItems (kind : Kind) (view : SeatView) (group mask : ℕ) (piece : Piece) : Type 0 where
  pub own : (n : ℕ) → in_mask group mask n ≡ true → Owns kind view n
  pub has : (n : ℕ) → in_mask group mask n ≡ true → is_some (bytes_in kind piece n) ≡ true

-- the item's words below `end` are stored with these bytes, and the words of other items are unchanged
pub record HasWords (kind : Kind) (item : ℕ) (bytes : List ℕ) (end : ℕ) (old new : SeatView) : Type 0 where
  pub rest : new ≡ with_words kind old (words_of kind new)
  pub words : (w : ℕ) → w < end → stored (words_of kind new) (width kind * item + w) ≡ Some (word_of kind bytes w)
  pub others : (number : ℕ) → ((w : ℕ) → w < width kind → number ≡ width kind * item + w → ⊥) → stored (words_of kind new) number ≡ stored (words_of kind old) number

-- all words of each item in the mask whose bit is below `end` are stored with the slice's bytes
pub record HaveWords (kind : Kind) (group mask : ℕ) (piece : Piece) (end : ℕ) (old new : SeatView) : Type 0 where
  pub rest : new ≡ with_words kind old (words_of kind new)
  pub words : (n w : ℕ) (bytes : List ℕ) → in_mask group mask n ≡ true → n % 64 < end → bytes_in kind piece n ≡ Some bytes → w < width kind
      → stored (words_of kind new) (width kind * n + w) ≡ Some (word_of kind bytes w)

-- The kinds of items that are stored word by word, and whose stored words a view counts.
use Rattle.std.specs.Prelude.{◌≡◌, ℕ, ◌<◌, true, List, Option}
use Rattle.holders.specs.declared.fixed.Fixed.{Fixed}
use Rattle.holders.specs.declared.piece.Piece.{Piece}
use Rattle.store_core.specs.declared.view.SeatView.{SeatView}
use Rattle.store_core.specs.declared.view.StoredWord.{StoredWord}
use Rattle.store_core.specs.Cells.{cell_word}
use Rattle.holders.specs.Pieces.{chunk_bytes, parent_bytes}
use Rattle.store_core.specs.States.{State}
use Rattle.store_core.specs.Views.{is_storing, seat_claims}
use Rattle.store_steps.specs.Layout.{cell_place, parent_word, parent_word_place}

-- an item is a chunk, or a boundary with its parent
pub data Kind : Type 0 where
  chunk_kind : Kind
  parent_kind : Kind

-- how many words an item has: word w of item n has the number width * n + w
abbrev pub width : Kind → ℕ
width chunk_kind = 129
width parent_kind = 8

-- where the word with a number is
abbrev pub word_place : Kind → Fixed → ℕ → ℕ
word_place chunk_kind fixed number = cell_place fixed number
word_place parent_kind fixed number = parent_word_place fixed number

-- word w of an item with these bytes
abbrev pub word_of : Kind → List ℕ → ℕ → ℕ
word_of chunk_kind bytes w = cell_word bytes w
word_of parent_kind bytes w = parent_word bytes w

-- the bytes of an item in a slice, and those held
abbrev pub bytes_in : Kind → Piece → ℕ → Option (List ℕ)
bytes_in chunk_kind piece n = chunk_bytes piece n
bytes_in parent_kind piece n = parent_bytes piece n

abbrev pub held_in : Kind → State → ℕ → Option (List ℕ)
held_in chunk_kind s n = s.held n
held_in parent_kind s n = s.parents n

-- the words that a view counts as stored, and the view with others in their place
abbrev pub words_of : Kind → SeatView → List StoredWord
words_of chunk_kind view = view.written
words_of parent_kind view = view.parent_words

abbrev pub with_words : Kind → SeatView → List StoredWord → SeatView
with_words chunk_kind view words = record view { written = words }
with_words parent_kind view words = record view { parent_words = words }

-- the seat may store the item's words: it is a chunk that the seat claims, or an existing boundary whose parent
-- it is storing
abbrev pub Owns : Kind → SeatView → ℕ → Type 0
Owns chunk_kind view c = seat_claims view c ≡ true
Owns parent_kind view m = (is_storing view m ≡ true) × (m < view.fixed.capacity)

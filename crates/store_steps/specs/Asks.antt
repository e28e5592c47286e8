-- What steps require of their caller.
use Rattle.std.specs.Prelude.{◌≡◌, ℕ, ◌+◌, ◌*◌, ◌%◌, ◌<◌, true, ◌&&◌, List, [], ◌∷◌, Some}
use Rattle.holders.specs.declared.piece.Piece.{Piece}
use Rattle.store_core.specs.declared.view.SeatView.{SeatView}
use Rattle.store_core.specs.Masks.{IsMaskOf, has_bit, in_mask}
use Rattle.holders.specs.Pieces.{holds_chunk, holds_parent}
use Rattle.store_core.specs.Views.{seat_claims, stored}
use Rattle.store_steps.specs.Kinds.{Kind, bytes_in, parent_kind, width, word_of, words_of}

-- the chunks of a mask that the seat claims
abbrev pub AreClaimed : SeatView → ℕ → ℕ → ℕ → Type 0
AreClaimed view group mask given = IsMaskOf group given (λ c. has_bit mask (c % 64) && seat_claims view c)

-- the chunks of the group that the seat claims and the slice has
abbrev pub AreHeldClaims : SeatView → ℕ → Piece → ℕ → Type 0
AreHeldClaims view group piece mask = IsMaskOf group mask (λ c. seat_claims view c && holds_chunk piece c)

-- all words of each item in the mask were stored, with the slice's bytes
abbrev pub AreWordsStored : Kind → SeatView → ℕ → ℕ → Piece → Type 0
AreWordsStored kind view group mask piece = (n w : ℕ) (bytes : List ℕ) → in_mask group mask n ≡ true → bytes_in kind piece n ≡ Some bytes → w < width kind
    → stored (words_of kind view) (width kind * n + w) ≡ Some (word_of kind bytes w)

-- the seat is storing the parents at these boundaries of the group, the slice has them, and all 8 words of each
-- were stored
pub record AreParentsWritten (view : SeatView) (group mask : ℕ) (piece : Piece) : Type 0 where
  pub only : view.storing ≡ record { group = group; mask = mask } ∷ []
  pub held : (m : ℕ) → in_mask group mask m ≡ true → holds_parent piece m ≡ true
  pub words : AreWordsStored parent_kind view group mask piece

-- What a step establishes about its seat besides the call: which words it stored, and what it found.
use Rattle.std.specs.Prelude.{◌≡◌, ℕ, ◌+◌, ◌*◌, ◌/◌, ◌%◌, List, [], ◌∷◌, Some}
use Rattle.store_core.specs.declared.view.SeatView.{SeatView}
use Rattle.store_core.specs.Histories.{state_after}
use Rattle.store_core.specs.Masks.{has_bit}
use Rattle.store_core.specs.States.{is_held}
use Rattle.store_steps.specs.Kinds.{Kind, held_in, width, with_words, word_of, words_of}

-- word w of the item counts as stored, and nothing else changes
abbrev pub Stores : Kind → ℕ → ℕ → ℕ → SeatView → SeatView → Type 0
Stores kind item w value old new = new ≡ with_words kind old (record { number = width kind * item + w; value = value } ∷ words_of kind old)

-- The seat is storing the parents at this mask of the group's boundaries, and nothing else changes.
abbrev pub IsStoringNow : ℕ → ℕ → SeatView → SeatView → Type 0
IsStoringNow group mask old new = new ≡ record old { storing = record { group = group; mask = mask } ∷ [] }

-- the word found shows which chunks of the group are held
abbrev pub FindsHeld : ℕ → ℕ → SeatView → Type 0
FindsHeld group found view = (c : ℕ) → c / 64 ≡ group → has_bit found (c % 64) ≡ is_held (state_after view.seen) c

-- where the seat has seen the item held, the word found is word w of it
abbrev pub FindsWord : Kind → ℕ → ℕ → ℕ → SeatView → Type 0
FindsWord kind item w found view = (bytes : List ℕ) → held_in kind (state_after view.seen) item ≡ Some bytes → found ≡ word_of kind bytes w

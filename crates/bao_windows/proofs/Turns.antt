-- Sources that are asked in turn.
use Rattle.std.proofs.Common.{◌≡◌, ℕ, ◌+◌, ◌-◌, ◌<◌, arith, inl, inr, subst}
use Rattle.bao_windows.proofs.Bytes.{place_of}
use Rattle.bao_windows.specs.Windows.{IsInTurn}

-- each source has its turn
pub each_turn : (P : ℕ → Type 0) (first count : ℕ) → first < count → ((turn place : ℕ) → turn < count → IsInTurn first count turn place → P place) → (place : ℕ) → place < count → P place
each_turn P first count begun refused place below = elim (place_of place first) [
  | inl before ↦
      let turn : ℕ = place + count - first in
      refused turn place (omega (arith, before, begun)) (record { up = λ low. absurd (omega (arith, low, before, begun)); over = λ high. omega (arith, before, begun) })
  | inr after ↦
      let turn : ℕ = place - first in
      refused turn place (omega (arith, below, after)) (record { up = λ low. omega (arith, after); over = λ high. absurd (omega (arith, high, below, after)) })
]

-- in each turn one source has it
pub one_place : (first count turn a b : ℕ) → IsInTurn first count turn a → IsInTurn first count turn b → a ≡ b
one_place first count turn a b one other = elim (place_of (first + turn) count) [
  | inl low ↦ omega (arith, one.up low, other.up low)
  | inr high ↦ omega (arith, one.over high, other.over high)
]

-- what is so of the sources whose turn was before, and of the one whose turn is now
pub next_turn : (P : ℕ → Type 0) (first count now here : ℕ) → ((turn place : ℕ) → turn < now → IsInTurn first count turn place → P place) → IsInTurn first count now here → P here
    → (turn place : ℕ) → turn < now + 1 → IsInTurn first count turn place → P place
next_turn P first count now here before is it turn place less in_turn = elim (place_of turn now) [
  | inl low ↦ before turn place low in_turn
  | inr high ↦
      let same : turn ≡ now = omega (arith, less, high) in
      subst P (one_place first count now here place is (subst (λ (t : ℕ). IsInTurn first count t place) same in_turn)) it
]

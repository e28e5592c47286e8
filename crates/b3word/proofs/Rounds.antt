-- The states and the message words of the rounds, one after the other.
use Rattle.std.proofs.Common.{◌≡◌, ℕ, suc, List, ◌∙◌, ap}
use Rattle.b3word.specs.Compression.{permuted, round, round_words, rounds}

pub next_state : (v w m : List ℕ) (start words : List ℕ) (k : ℕ) → w ≡ round v m → v ≡ rounds start words k → m ≡ round_words words k → w ≡ rounds start words (suc k)
unfolding rounds
next_state v w m start words k e ev em = e ∙ (λ i. round (ev i) (em i))

pub next_words : (m n words : List ℕ) (k : ℕ) → n ≡ permuted m → m ≡ round_words words k → n ≡ round_words words (suc k)
unfolding round_words
next_words m n words k e em = e ∙ ap permuted em

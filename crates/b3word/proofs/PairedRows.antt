-- A message is the words of its four rows.
use Rattle.std.proofs.Common.{◌≡◌, ◌<◌, ℕ, ◌+◌, ◌-◌, List, [], ◌∷◌, length, slice_index, refl, sym, subst, arith, inl, inr}
use Rattle.std.proofs.lemmas.Bool.{cases_lt}
use Rattle.std.proofs.lemmas.List.{ext_get_or}
use Rattle.b3word.specs.Lanes.{paired_rows}
use Rattle.b3word.proofs.EightLanes.{below_eight}

-- the words of a message, from its rows
abbrev words : List ℕ → List ℕ
words m = paired_rows
    (slice_index m 0 ∷ slice_index m 2 ∷ slice_index m 4 ∷ slice_index m 6 ∷ [])
    (slice_index m 1 ∷ slice_index m 3 ∷ slice_index m 5 ∷ slice_index m 7 ∷ [])
    (slice_index m 8 ∷ slice_index m 10 ∷ slice_index m 12 ∷ slice_index m 14 ∷ [])
    (slice_index m 9 ∷ slice_index m 11 ∷ slice_index m 13 ∷ slice_index m 15 ∷ [])

words-front : (m : List ℕ) (j : ℕ) → j < 8 → slice_index (words m) j ≡ slice_index m j
words-front m = below_eight _ refl refl refl refl refl refl refl refl

words-back : (m : List ℕ) (j : ℕ) → j < 8 → slice_index (words m) (8 + j) ≡ slice_index m (8 + j)
words-back m = below_eight (λ j. slice_index (words m) (8 + j) ≡ slice_index m (8 + j)) refl refl refl refl refl refl refl refl

pub words-all : (m : List ℕ) → length m ≡ 16 → words m ≡ m
words-all m size =
    ext_get_or 0 (words m) m (sym size) (λ j l. let within : j < 16 = l in elim (cases_lt j 8) [
      | inl lt ↦ words-front m j lt
      | inr ge ↦
          let on : 8 + (j - 8) ≡ j = omega arith in
          subst (λ (k : ℕ). slice_index (words m) k ≡ slice_index m k) on (words-back m (j - 8) (omega arith))
    ])

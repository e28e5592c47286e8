-- Lists of numbers are one, or they are different.
use Rattle.std.proofs.Common.{◌≡◌, ◌≢◌, ◌⊎◌, ◌∙◌, ℕ, List, bytes_eq, inl, inr, sym}
use Rattle.std.proofs.lemmas.Bool.{cases_Bool, true≢false}
use Rattle.std.proofs.lemmas.Slice.Eq.{bytes_eq-Decides}

-- two lists of numbers are the same, or aren't
pub same_or_apart : (xs ys : List ℕ) → (xs ≡ ys) ⊎ (xs ≢ ys)
same_or_apart xs ys = elim (cases_Bool (bytes_eq xs ys)) [
  | inl is ↦ inl ((bytes_eq-Decides xs ys).0 is)
  | inr differs ↦ inr (λ same. true≢false (sym ((bytes_eq-Decides xs ys).1 same) ∙ differs))
]

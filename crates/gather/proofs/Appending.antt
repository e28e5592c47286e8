-- What is known of a text that follows.
use Rattle.gather.proofs.Common.{◌≡◌, ℕ, List, [], ◌++◌, sym, ap, subst, ◌∙◌}
use Rattle.holders.specs.Holders.{Appends}

-- what follows nothing is all
pub appended_all : (P : List ℕ → Type 0) (old new : List ℕ) → old ≡ [] → Appends P old new → P new
appended_all P old new none it = subst P (sym (it.is ∙ ap (λ (xs : List ℕ). xs ++ it.text) none)) it.given

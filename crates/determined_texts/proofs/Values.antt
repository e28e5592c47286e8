-- Values known by their words.
use Rattle.std.proofs.Common.{◌≡◌, ℕ, suc, List, [], ◌∷◌, length, Some, slice_get, refl, sym, ap, ◌∙◌}
use Rattle.b3tree.specs.declared.values.Cv.{Cv}
use Rattle.b3tree.specs.declared.values.Hash.{Hash}

pub same_hash : (a b : Hash) → a.0 ≡ b.0 → a ≡ b
same_hash a b e = λ i. record { 0 = e i }

pub same_cv : (a b : Cv) → a.0 ≡ b.0 → a ≡ b
same_cv a b e = λ i. record { 0 = e i }

pub same_values : (f : ℕ → List ℕ) (xs ys : List Cv) → length xs ≡ length ys → ((j : ℕ) (v : Cv) → slice_get xs j ≡ Some v → v.0 ≡ f j)
    → ((j : ℕ) (v : Cv) → slice_get ys j ≡ Some v → v.0 ≡ f j) → xs ≡ ys
same_values f [] [] n a b = refl
same_values f [] (y ∷ ys) n a b = cc
same_values f (x ∷ xs) [] n a b = cc
same_values f (x ∷ xs) (y ∷ ys) n a b =
    let head : x ≡ y = same_cv x y (a 0 x refl ∙ sym (b 0 y refl)) in
    let size : length xs ≡ length ys = cc in
    let rest : xs ≡ ys = same_values (λ j. f (suc j)) xs ys size (λ j v e. a (suc j) v e) (λ j v e. b (suc j) v e) in
    ap (λ z. z ∷ xs) head ∙ ap (λ zs. y ∷ zs) rest

-- what is cut of nodes one after another
use Rattle.std.proofs.Common.{◌≡◌, ℕ, List, [], ◌∷◌, ◌++◌, true, false, refl, inl, inr}
use Rattle.std.proofs.lemmas.Bool.{cases_Bool}
use Rattle.std.proofs.lemmas.List.{append_assoc}
use Rattle.bao_text.specs.Cut.{cut_nodes, has, has_all}
use Rattle.bao_text.specs.Nodes.{TreeNode}

-- where the first nodes are all there, the others follow
pub has_all-append : (text : List ℕ) (xs ys : List TreeNode) → has_all text xs ≡ true → has_all text (xs ++ ys) ≡ has_all text ys
has_all-append text [] ys all = refl
has_all-append text (x ∷ xs) ys all = elim (cases_Bool (has text x)) [
  | inl there ↦ rw there (has_all-append text xs ys (rw there at all))
  | inr gone ↦ let bad : false ≡ true = rw gone at all in cc
]

pub cut_nodes-append : (text : List ℕ) (xs ys : List TreeNode) → has_all text xs ≡ true → cut_nodes text (xs ++ ys) ≡ cut_nodes text xs ++ cut_nodes text ys
cut_nodes-append text [] ys all = refl
cut_nodes-append text (x ∷ xs) ys all = elim (cases_Bool (has text x)) [
  | inl there ↦ rw (there, append_assoc, ← cut_nodes-append text xs ys (rw there at all)) refl
  | inr gone ↦ let bad : false ≡ true = rw gone at all in cc
]

-- and where they aren't, the others count for nothing
pub has_all-append_short : (text : List ℕ) (xs ys : List TreeNode) → has_all text xs ≡ false → has_all text (xs ++ ys) ≡ false
has_all-append_short text [] ys short = let bad : true ≡ false = short in cc
has_all-append_short text (x ∷ xs) ys short = elim (cases_Bool (has text x)) [
  | inl there ↦ rw there (has_all-append_short text xs ys (rw there at short))
  | inr gone ↦ rw gone refl
]

pub cut_nodes-append_short : (text : List ℕ) (xs ys : List TreeNode) → has_all text xs ≡ false → cut_nodes text (xs ++ ys) ≡ cut_nodes text xs
cut_nodes-append_short text [] ys short = let bad : true ≡ false = short in cc
cut_nodes-append_short text (x ∷ xs) ys short = elim (cases_Bool (has text x)) [
  | inl there ↦ rw (there, cut_nodes-append_short text xs ys (rw there at short)) refl
  | inr gone ↦ rw gone refl
]

-- one node
pub has_all-one : (text : List ℕ) (x : TreeNode) → has_all text (x ∷ []) ≡ has text x
has_all-one text x = elim (cases_Bool (has text x)) [ inl there ↦ rw there refl | inr gone ↦ rw gone refl ]

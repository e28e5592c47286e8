-- Members of lists of places, and what holds of all of them.
use Rattle.std.proofs.Common.{◌≡◌, ◌⊎◌, ℕ, zero, suc, ◌+◌, List, [], ◌∷◌, ◌++◌, refl, sym, ap, ◌∙◌, arith, inl, inr, sum_by}
use Rattle.std.specs.List.{AllByRecursion, Contains}
use Rattle.std.proofs.lemmas.List.Sums.{sum_by-append}
use Rattle.bao_text.specs.Nodes.{TreeNode, placed_nodes, size}

pub Contains-head : {X : Type 0} (xs : List X) (x : X) → Contains (x ∷ xs) x
Contains-head xs x = (0, omega arith, refl)

pub Contains-tail : {X : Type 0} (xs : List X) (y x : X) → Contains xs x → Contains (y ∷ xs) x
Contains-tail xs y x h = (suc h.0, omega (arith, h.1), h.2)

pub Contains-cons_cases : {X : Type 0} (xs : List X) (y x : X) → Contains (y ∷ xs) x → (x ≡ y) ⊎ Contains xs x
Contains-cons_cases xs y x (zero, within, is) = inl (sym is)
Contains-cons_cases xs y x (suc k, within, is) = inr (k, omega arith, is)

pub All-member : {X : Type 0} (P : X → Type 0) (xs : List X) → AllByRecursion P xs → (x : X) → Contains xs x → P x
All-member P [] all x (k, within, is) = absurd (omega arith)
All-member P (y ∷ xs) all x h = grind (arith, Contains-cons_cases, All-member P xs all.1 x)

pub All-from_members : {X : Type 0} (P : X → Type 0) (xs : List X) → ((x : X) → Contains xs x → P x) → AllByRecursion P xs
All-from_members P [] each = tt
All-from_members P (y ∷ xs) each = (each y (Contains-head xs y), All-from_members P xs (λ x h. each x (Contains-tail xs y x h)))

pub All-append : {X : Type 0} (P : X → Type 0) (xs ys : List X) → AllByRecursion P xs → AllByRecursion P ys → AllByRecursion P (xs ++ ys)
All-append P [] ys h k = k
All-append P (x ∷ xs) ys h k = (h.0, All-append P xs ys h.1 k)

pub All-first : {X : Type 0} (P : X → Type 0) (xs ys : List X) → AllByRecursion P (xs ++ ys) → AllByRecursion P xs
All-first P [] ys h = tt
All-first P (x ∷ xs) ys h = (h.0, All-first P xs ys h.1)

pub All-second : {X : Type 0} (P : X → Type 0) (xs ys : List X) → AllByRecursion P (xs ++ ys) → AllByRecursion P ys
All-second P [] ys h = h
All-second P (x ∷ xs) ys h = All-second P xs ys h.1

-- how long nodes are together
abbrev pub nodes_size : List TreeNode → ℕ
nodes_size nodes = sum_by size nodes

pub nodes_size-cons : (node : TreeNode) (nodes : List TreeNode) → nodes_size (node ∷ nodes) ≡ size node + nodes_size nodes
nodes_size-cons node nodes = sum_by-append size (node ∷ []) nodes ∙ omega arith

pub placed_nodes-append : (at : ℕ) (xs ys : List TreeNode) → placed_nodes at (xs ++ ys) ≡ placed_nodes at xs ++ placed_nodes (at + nodes_size xs) ys
placed_nodes-append at [] ys = let e : at ≡ at + 0 = omega arith in ap (λ (k : ℕ). placed_nodes k ys) e
placed_nodes-append at (x ∷ xs) ys = grind (arith, nodes_size-cons, placed_nodes-append (at + size x) xs ys)

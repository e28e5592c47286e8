-- The nodes of a slice with their places, put one after another.
use Rattle.std.proofs.Common.{◌≡◌, ◌∙◌, ℕ, suc, ◌+◌, ◌-◌, ◌*◌, ◌/◌, ◌<◌, ◌≤◌, List, [], ◌∷◌, ◌++◌, map, true, false, Option, Some, append_assoc, append-nil, length, ap, arith, refl, subst, sym}
use Rattle.std.specs.Option.{unwrap_or}
use Rattle.std.proofs.lemmas.List.{length-append, map-append}
use Rattle.b3tree.specs.Tree.{left_len}
use Rattle.bao_check.proofs.Parenting.{parent_place-here}
use Rattle.bao_check.proofs.Sizes.{wants_whole}
use Rattle.bao_check.proofs.EachNode.{chunk_node, leaf_nodes}
use Rattle.bao_check.specs.Parents.{parent_place}
use Rattle.bao_text.proofs.SubtreeNodes.{parent_node, subtree_nodes-parent, subtree_nodes-unwanted}
use Rattle.bao_text.proofs.SubtreeText.{Parts, left_len-Parts}
use Rattle.bao_text.specs.declared.choice.Choice.{Choice}
use Rattle.bao_text.specs.Choice.{wants}
use Rattle.bao_text.specs.Nodes.{TreeNode, Side, left, right, subtree_nodes, subtree_size}
use Rattle.berylwool.specs.declared.nodes.BwPlaced.{BwPlaced}
use Rattle.berylwool.specs.Outlines.{HasParentsAmong}
use Rattle.berylwool.specs.Placed.{outboard_places, placed_of}
use Rattle.berylwool.proofs.Beside.{far_at, near_at}

-- a parent, by its places
abbrev pub parent_at : ℕ → ℕ → ℕ → ℕ → ℕ → BwPlaced
parent_at number n l source at = record { kind = 0; size = 64; number = number + l / 1024; start = 1024 * number; len = n; combined_at = source; outboard_at = at }

-- the outboard encoding has it where its subtree's parents begin
pub parent_is : (total : ℕ) (own : Choice) (number n l : ℕ) (sides : List Side) (source at : ℕ) → 1024 < n → l ≡ left_len n → HasParentsAmong (outboard_places total) own number n sides source at
    → parent_at number n l source at ≡ placed_of total (parent_node number n sides source)
parent_is total own number n l sides source at more is_l has =
    let parts : Parts n (left_len n) = left_len-Parts n more in
    let m : ℕ = number + left_len n / 1024 in
    let wanted : wants own (1024 * number) n ≡ true = wants_whole own (1024 * number) n has.wants.start (omega (arith, has.wants.end)) in
    let place : parent_place (outboard_places total) m ≡ Some at =
    has.same m (omega (arith, parts.some)) (omega (arith, parts.whole, parts.some, parts.below)) ∙ parent_place-here own number n sides source at m wanted more refl in
    let told : unwrap_or (parent_place (outboard_places total) m) 0 ≡ at = ap (λ (o : Option ℕ). unwrap_or o 0) place in
    (λ i. parent_at number n (is_l i) source (sym told i))

-- how many nodes there are of a subtree of which none is wanted
pub none_many : (choice : Choice) (number n : ℕ) (sides : List Side) (source : ℕ) → wants choice (1024 * number) n ≡ false → length (subtree_nodes choice number n sides source) ≡ 0
none_many choice number n sides source skipped = ap (λ (ns : List TreeNode). length ns) (subtree_nodes-unwanted choice number n sides source skipped)

-- of a chunk
pub chunk_many : (choice : Choice) (number n : ℕ) (sides : List Side) (source : ℕ) → wants choice (1024 * number) n ≡ true → n ≤ 1024 → choice.chunks ≡ true
    → length (subtree_nodes choice number n sides source) ≡ 1
chunk_many choice number n sides source wanted one has = ap (λ (ns : List TreeNode). length ns) (leaf_nodes choice number n sides source wanted one has)

-- of a parent and its two parts
pub parent_many : (choice : Choice) (number n l size : ℕ) (sides : List Side) (source : ℕ) → 1024 < n → wants choice (1024 * number) n ≡ true → l ≡ left_len n → size ≡ subtree_size l
    → length (subtree_nodes choice number n sides source)
    ≡ 1 + length (subtree_nodes choice number l (sides ++ left ∷ []) (source + 64)) + length (subtree_nodes choice (number + l / 1024) (n - l) (sides ++ right ∷ []) (source + 64 + size))
parent_many choice number n l size sides source more wanted is_l is_size =
    let near : ℕ → List TreeNode = λ k. subtree_nodes choice number k (sides ++ left ∷ []) (source + 64) in
    let far : ℕ → ℕ → List TreeNode = λ k s. subtree_nodes choice (number + k / 1024) (n - k) (sides ++ right ∷ []) (source + 64 + s) in
    let ns : List TreeNode = near (left_len n) in
    let fs : List TreeNode = far (left_len n) (subtree_size (left_len n)) in
    let tree : length (subtree_nodes choice number n sides source) ≡ suc (length (ns ++ fs)) = ap (λ (xs : List TreeNode). length xs) (subtree_nodes-parent choice number n sides source wanted more) in
    let both : length (ns ++ fs) ≡ length ns + length fs = length-append ns fs in
    let sum : length (subtree_nodes choice number n sides source) ≡ 1 + length ns + length fs = omega (arith, tree, both) in
    let whole : size ≡ subtree_size (left_len n) = is_size ∙ ap (λ (k : ℕ). subtree_size k) is_l in
    sum ∙ (λ i. 1 + length (near (sym is_l i)) + length (far (sym is_l i) (sym whole i)))

-- what is put of nodes of which none is wanted
pub none_placed : (total : ℕ) (choice : Choice) (number n : ℕ) (sides : List Side) (source : ℕ) (old : List BwPlaced) → wants choice (1024 * number) n ≡ false
    → old ≡ old ++ map (placed_of total) (subtree_nodes choice number n sides source)
none_placed total choice number n sides source old skipped =
    sym (append-nil old) ∙ ap (λ (ns : List TreeNode). old ++ map (placed_of total) ns) (sym (subtree_nodes-unwanted choice number n sides source skipped))

-- of a chunk
pub chunk_placed : (total : ℕ) (choice : Choice) (number n : ℕ) (sides : List Side) (source : ℕ) (old new : List BwPlaced) (it : BwPlaced)
    → wants choice (1024 * number) n ≡ true → n ≤ 1024 → choice.chunks ≡ true → it ≡ placed_of total (chunk_node number n sides source) → new ≡ old ++ it ∷ []
    → new ≡ old ++ map (placed_of total) (subtree_nodes choice number n sides source)
chunk_placed total choice number n sides source old new it wanted one has is_it is =
    is ∙ ap (λ (x : BwPlaced). old ++ x ∷ []) is_it
    ∙ ap (λ (ns : List TreeNode). old ++ map (placed_of total) ns) (sym (leaf_nodes choice number n sides source wanted one has))

-- of a parent, and of what is wanted of its two parts
pub parent_placed : (total : ℕ) (choice own : Choice) (number n l size : ℕ) (sides : List Side) (source at : ℕ) (old top near new : List BwPlaced)
    → 1024 < n → wants choice (1024 * number) n ≡ true → l ≡ left_len n → size ≡ subtree_size l → HasParentsAmong (outboard_places total) own number n sides source at
    → top ≡ old ++ parent_at number n l source at ∷ []
    → (HasParentsAmong (outboard_places total) own number l (sides ++ left ∷ []) (source + 64) (at + 64)
    → near ≡ top ++ map (placed_of total) (subtree_nodes choice number l (sides ++ left ∷ []) (source + 64)))
    → (HasParentsAmong (outboard_places total) own (number + l / 1024) (n - l) (sides ++ right ∷ []) (source + 64 + size) (at + 64 * (l / 1024))
    → new ≡ near ++ map (placed_of total) (subtree_nodes choice (number + l / 1024) (n - l) (sides ++ right ∷ []) (source + 64 + size)))
    → new ≡ old ++ map (placed_of total) (subtree_nodes choice number n sides source)
parent_placed total choice own number n l size sides source at old top near new more wanted is_l is_size has head second third =
    let f : TreeNode → BwPlaced = placed_of total in
    let ns : List TreeNode = subtree_nodes choice number (left_len n) (sides ++ left ∷ []) (source + 64) in
    let fs : List TreeNode = subtree_nodes choice (number + left_len n / 1024) (n - left_len n) (sides ++ right ∷ []) (source + 64 + subtree_size (left_len n)) in
    let it : BwPlaced = f (parent_node number n sides source) in
    let whole : size ≡ subtree_size (left_len n) = is_size ∙ ap (λ (k : ℕ). subtree_size k) is_l in
    let is_top : top ≡ old ++ it ∷ [] = head ∙ ap (λ (x : BwPlaced). old ++ x ∷ []) (parent_is total own number n l sides source at more is_l has) in
    let is_near : near ≡ top ++ map f ns =
    subst (λ (k : ℕ). HasParentsAmong (outboard_places total) own number k (sides ++ left ∷ []) (source + 64) (at + 64)
    → near ≡ top ++ map f (subtree_nodes choice number k (sides ++ left ∷ []) (source + 64))) is_l second (near_at (outboard_places total) own number n sides source at more has) in
    let is_new : new ≡ near ++ map f fs =
    subst (λ (k : ℕ). HasParentsAmong (outboard_places total) own (number + k / 1024) (n - k) (sides ++ right ∷ []) (source + 64 + subtree_size (left_len n)) (at + 64 * (k / 1024))
    → new ≡ near ++ map f (subtree_nodes choice (number + k / 1024) (n - k) (sides ++ right ∷ []) (source + 64 + subtree_size (left_len n)))) is_l
    (subst (λ (s : ℕ). HasParentsAmong (outboard_places total) own (number + l / 1024) (n - l) (sides ++ right ∷ []) (source + 64 + s) (at + 64 * (l / 1024))
    → new ≡ near ++ map f (subtree_nodes choice (number + l / 1024) (n - l) (sides ++ right ∷ []) (source + 64 + s))) whole third)
    (far_at (outboard_places total) own number n sides source at more has) in
    let tree : map f (subtree_nodes choice number n sides source) ≡ it ∷ (map f ns ++ map f fs) =
    ap (λ (xs : List TreeNode). map f xs) (subtree_nodes-parent choice number n sides source wanted more) ∙ ap (λ (xs : List BwPlaced). it ∷ xs) (map-append f ns fs) in
    is_new ∙ ap (λ (xs : List BwPlaced). xs ++ map f fs) (is_near ∙ ap (λ (xs : List BwPlaced). xs ++ map f ns) is_top)
    ∙ append_assoc (old ++ it ∷ []) (map f ns) (map f fs) ∙ append_assoc old (it ∷ []) (map f ns ++ map f fs)
    ∙ ap (λ (xs : List BwPlaced). old ++ xs) (sym tree)

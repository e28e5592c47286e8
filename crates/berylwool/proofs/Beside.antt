-- The nodes of a slice that an outboard encoding makes with chunks beside it, one after another.
use Rattle.std.proofs.Common.{◌≡◌, ◌∙◌, ℕ, ◌+◌, ◌-◌, ◌*◌, ◌/◌, ◌^◌, ◌<◌, ◌≤◌, List, [], ◌∷◌, ◌++◌, true, false, append_assoc, append-nil, drop, length, length-drop, length-take, take, ap, arith, refl, subst, sym}
use Rattle.std.specs.List.{flat_map}
use Rattle.std.proofs.lemmas.List.{drop_all}
use Rattle.std.proofs.lemmas.List.Concat.{flat_map-append}
use Rattle.b3tree.specs.declared.mode.Mode.{Mode}
use Rattle.b3tree.specs.Tree.{left_len}
use Rattle.bao_check.proofs.BesidePlaces.{Finds, Finds-all, Finds-far, Finds-near, parent-beside}
use Rattle.bao_check.proofs.Outlines.{far-WantsParents, near-WantsParents, outboard-WantsParents}
use Rattle.bao_check.proofs.EachNode.{leaf_nodes}
use Rattle.bao_check.specs.Accepted.{outboard_nodes, places_of}
use Rattle.bao_check.specs.Bare.{AreBare, bare_part}
use Rattle.bao_check.specs.Beside.{bare_len, beside_text, node_beside}
use Rattle.bao_check.specs.declared.outline.Outline.{Outline}
use Rattle.bao_check.specs.Outline.{IsOutline, outline_mode, outline_root, outline_text}
use Rattle.bao_text.proofs.SubtreeNodes.{parent_node, subtree_nodes-parent, subtree_nodes-unwanted}
use Rattle.bao_text.specs.declared.choice.Choice.{Choice}
use Rattle.bao_text.specs.Choice.{of_outboard, wants}
use Rattle.bao_text.specs.Cut.{claimed}
use Rattle.bao_text.specs.Nodes.{TreeNode, Side, left, right, nodes, subtree_nodes, subtree_size}
use Rattle.berylwool.specs.Outlines.{HasChunks, HasParentsAmong, HasParentsAt, bare_text}
use Rattle.berylwool.specs.Placed.{outboard_places}

finds : (places : List (ℕ × TreeNode)) (own : Choice) (number n : ℕ) (sides : List Side) (source at : ℕ) → HasParentsAmong places own number n sides source at
    → Finds places own number n sides source at
finds places own number n sides source at has = record { same = has.same }

-- the left part of a subtree has its parents after its own
pub near_at : (places : List (ℕ × TreeNode)) (own : Choice) (number n : ℕ) (sides : List Side) (source at : ℕ) → 1024 < n → HasParentsAmong places own number n sides source at
    → HasParentsAmong places own number (left_len n) (sides ++ left ∷ []) (source + 64) (at + 64)
near_at places own number n sides source at more has =
    let found = Finds-near places own number n sides source at more has.wants (finds places own number n sides source at has) in
    record { wants = near-WantsParents own number n more has.wants; same = found.same }

-- and the right part after those
pub far_at : (places : List (ℕ × TreeNode)) (own : Choice) (number n : ℕ) (sides : List Side) (source at : ℕ) → 1024 < n → HasParentsAmong places own number n sides source at
    → HasParentsAmong places own (number + left_len n / 1024) (n - left_len n) (sides ++ right ∷ []) (source + 64 + subtree_size (left_len n)) (at + 64 * (left_len n / 1024))
far_at places own number n sides source at more has =
    let found = Finds-far places own number n sides source at more has.wants (finds places own number n sides source at has) in
    record { wants = far-WantsParents own number n more has.wants; same = found.same }

-- all of them are after the length
pub all_among : (total : ℕ) → HasParentsAmong (outboard_places total) (of_outboard total) 0 total [] 8 8
all_among total = record { wants = outboard-WantsParents total; same = (Finds-all total).same }

pub all_at : (text : List ℕ) → HasParentsAt text (of_outboard (claimed text)) 0 (claimed text) [] 8 8
all_at text = all_among (claimed text)

-- what is made of nodes of which none is wanted
pub beside_none : (text chunks : List ℕ) (first : ℕ) (choice : Choice) (number n : ℕ) (sides : List Side) (source : ℕ) (old new : List ℕ)
    → wants choice (1024 * number) n ≡ false → new ≡ old
    → new ≡ old ++ flat_map (node_beside text first chunks) (subtree_nodes choice number n sides source)
beside_none text chunks first choice number n sides source old new skipped same =
    same ∙ sym (append-nil old)
    ∙ ap (λ (ns : List TreeNode). old ++ flat_map (node_beside text first chunks) ns) (sym (subtree_nodes-unwanted choice number n sides source skipped))

-- of a chunk
pub beside_chunk : (text chunks : List ℕ) (first : ℕ) (choice : Choice) (number n : ℕ) (sides : List Side) (source : ℕ) (old new : List ℕ)
    → wants choice (1024 * number) n ≡ true → n ≤ 1024 → choice.chunks ≡ true → new ≡ old ++ take n (drop (1024 * (number - first)) chunks)
    → new ≡ old ++ flat_map (node_beside text first chunks) (subtree_nodes choice number n sides source)
beside_chunk text chunks first choice number n sides source old new wanted one has is =
    let bytes : List ℕ = take n (drop (1024 * (number - first)) chunks) in
    is ∙ ap (λ (xs : List ℕ). old ++ xs) (sym (append-nil bytes))
    ∙ ap (λ (ns : List TreeNode). old ++ flat_map (node_beside text first chunks) ns) (sym (leaf_nodes choice number n sides source wanted one has))

-- of a parent, and of what is wanted of its two parts
pub beside_parent : (text chunks : List ℕ) (first : ℕ) (choice own : Choice) (number n l : ℕ) (sides : List Side) (source at : ℕ) (old upper near new : List ℕ)
    → 1024 < n → wants choice (1024 * number) n ≡ true → l ≡ left_len n → HasParentsAt text own number n sides source at
    → upper ≡ old ++ take 64 (drop at text)
    → (HasParentsAt text own number l (sides ++ left ∷ []) (source + 64) (at + 64)
    → near ≡ upper ++ flat_map (node_beside text first chunks) (subtree_nodes choice number l (sides ++ left ∷ []) (source + 64)))
    → (HasParentsAt text own (number + l / 1024) (n - l) (sides ++ right ∷ []) (source + 64 + subtree_size l) (at + 64 * (l / 1024))
    → new ≡ near ++ flat_map (node_beside text first chunks) (subtree_nodes choice (number + l / 1024) (n - l) (sides ++ right ∷ []) (source + 64 + subtree_size l)))
    → new ≡ old ++ flat_map (node_beside text first chunks) (subtree_nodes choice number n sides source)
beside_parent text chunks first choice own number n l sides source at old upper near new more wanted is_l has head second third =
    let f : TreeNode → List ℕ = node_beside text first chunks in
    let ns : List TreeNode = subtree_nodes choice number (left_len n) (sides ++ left ∷ []) (source + 64) in
    let fs : List TreeNode = subtree_nodes choice (number + left_len n / 1024) (n - left_len n) (sides ++ right ∷ []) (source + 64 + subtree_size (left_len n)) in
    let top : TreeNode = parent_node number n sides source in
    let is_top : f top ≡ take 64 (drop at text) = parent-beside text chunks first own number n sides source at more has.wants (finds (places_of (outboard_nodes text)) own number n sides source at has) in
    let is_near : near ≡ upper ++ flat_map f ns =
    subst (λ (k : ℕ). HasParentsAt text own number k (sides ++ left ∷ []) (source + 64) (at + 64)
    → near ≡ upper ++ flat_map f (subtree_nodes choice number k (sides ++ left ∷ []) (source + 64))) is_l second (near_at (places_of (outboard_nodes text)) own number n sides source at more has) in
    let is_new : new ≡ near ++ flat_map f fs =
    subst (λ (k : ℕ). HasParentsAt text own (number + k / 1024) (n - k) (sides ++ right ∷ []) (source + 64 + subtree_size k) (at + 64 * (k / 1024))
    → new ≡ near ++ flat_map f (subtree_nodes choice (number + k / 1024) (n - k) (sides ++ right ∷ []) (source + 64 + subtree_size k))) is_l third
    (far_at (places_of (outboard_nodes text)) own number n sides source at more has) in
    let tree : flat_map f (subtree_nodes choice number n sides source) ≡ f top ++ (flat_map f ns ++ flat_map f fs) =
    ap (λ (xs : List TreeNode). flat_map f xs) (subtree_nodes-parent choice number n sides source wanted more) ∙ ap (λ (xs : List ℕ). f top ++ xs) (flat_map-append f ns fs) in
    is_new ∙ ap (λ (xs : List ℕ). xs ++ flat_map f fs) (is_near ∙ ap (λ (xs : List ℕ). xs ++ flat_map f ns) (head ∙ ap (λ (xs : List ℕ). old ++ xs) (sym is_top)))
    ∙ append_assoc (old ++ f top) (flat_map f ns) (flat_map f fs) ∙ append_assoc old (f top) (flat_map f ns ++ flat_map f fs)
    ∙ ap (λ (xs : List ℕ). old ++ xs) (sym tree)

-- the whole slice, of chunks that are all there
pub slice_is : (mode : Mode) (root text chunks : List ℕ) (first count : ℕ) (head new : List ℕ) → claimed text < 2 ^ 64 → HasChunks text first count → AreBare mode root text first count chunks
    → head ≡ take 8 text
    → new ≡ head ++ flat_map (node_beside text first chunks) (nodes (claimed text) (1024 * first) (bare_part count))
    → new ≡ bare_text text first count chunks
slice_is mode root text chunks first count head new small has bare is_head is =
    let f : ℕ → List ℕ = λ k. flat_map (node_beside text k chunks) (nodes (claimed text) (1024 * first) (bare_part count)) in
    let whole : 1024 * first / 1024 ≡ first = omega arith in
    let ends : length chunks ≡ bare_len (claimed text) (1024 * first) (bare_part count) = omega (arith, bare.ends, small, has.0, has.1) in
    let rest : drop (bare_len (claimed text) (1024 * first) (bare_part count)) chunks ≡ [] = drop_all (bare_len (claimed text) (1024 * first) (bare_part count)) chunks (omega (arith, ends)) in
    is ∙ ap (λ (xs : List ℕ). xs ++ f first) is_head ∙ ap (λ (xs : List ℕ). take 8 text ++ xs) (ap (λ (k : ℕ). f k) (sym whole) ∙ sym (append-nil (f (1024 * first / 1024)))
    ∙ ap (λ (xs : List ℕ). f (1024 * first / 1024) ++ xs) (sym rest))

-- No bytes are made for a chunk beside none.
pub beside_no_chunk : (text : List ℕ) (first : ℕ) (choice : Choice) (number n : ℕ) (sides : List Side) (source : ℕ) (old new : List ℕ)
    → wants choice (1024 * number) n ≡ true → n ≤ 1024 → choice.chunks ≡ true → new ≡ old
    → new ≡ old ++ flat_map (node_beside text first []) (subtree_nodes choice number n sides source)
beside_no_chunk text first choice number n sides source old new wanted one has same =
    let empty : List ℕ = [] in
    let zero : length empty ≡ 0 = refl in
    let rest : List ℕ = drop (1024 * (number - first)) empty in
    let bytes : List ℕ = take n rest in
    let none : bytes ≡ empty = drop_all 0 bytes (omega (arith, zero, length-take n rest, length-drop (1024 * (number - first)) empty)) in
    beside_chunk text [] first choice number n sides source old new wanted one has (same ∙ sym (append-nil old) ∙ ap (λ (xs : List ℕ). old ++ xs) (sym none))

-- the length and the parents of a slice
pub parents_are : (text : List ℕ) (start len : ℕ) (head new : List ℕ) → head ≡ take 8 text
    → new ≡ head ++ flat_map (node_beside text (start / 1024) []) (nodes (claimed text) start len) → new ≡ beside_text text start len []
parents_are text start len head new is_head is =
    let bytes : List ℕ = flat_map (node_beside text (start / 1024) []) (nodes (claimed text) start len) in
    let empty : List ℕ = [] in
    let zero : length empty ≡ 0 = refl in
    let rest : drop (bare_len (claimed text) start len) empty ≡ empty = drop_all (bare_len (claimed text) start len) empty (omega (arith, zero)) in
    is ∙ ap (λ (xs : List ℕ). xs ++ bytes) is_head
    ∙ ap (λ (xs : List ℕ). take 8 text ++ xs) (sym (append-nil bytes) ∙ ap (λ (xs : List ℕ). bytes ++ xs) (sym rest))

-- what is so of what an outline is kept as is so of the outline
pub kept_of : (P : Mode → List ℕ → List ℕ → Type 0) (outline : Outline) (mode : Mode) (root text : List ℕ) → IsOutline outline mode root text
    → P mode root text → P (outline_mode outline) (outline_root outline) (outline_text outline)
kept_of P outline mode root text is it =
    subst (λ (s : List ℕ). P (outline_mode outline) (outline_root outline) s) (sym is.text_is)
    (subst (λ (r : List ℕ). P (outline_mode outline) r text) (sym is.root_is) (subst (λ (m : Mode). P m root text) (sym is.mode_is) it))

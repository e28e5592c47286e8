-- What a blob has at the nodes of a slice of it.
use Rattle.std.proofs.Common.{◌≡◌, ℕ, ◌+◌, ◌-◌, ◌*◌, ◌/◌, ◌<◌, ◌≤◌, ◌==◌, min, None, Some, List, [], ◌∷◌, ◌++◌, length, take, drop, true, false, refl, sym, ap, ◌∙◌, arith, inl, inr, length-drop}
use Rattle.std.specs.List.{AllByRecursion, Contains, flat_map}
use Rattle.std.specs.Option.{option_map}
use Rattle.std.proofs.lemmas.Bool.{cases_Bool, cases_lt, eqb-true, lt-ltb}
use Rattle.std.proofs.lemmas.Bool.Decides.{eqb_tells}
use Rattle.std.proofs.lemmas.List.{take_all}
use Rattle.b3tree.specs.declared.mode.Mode.{Mode}
use Rattle.b3tree.specs.Tree.{left_len}
use Rattle.bao_text.specs.declared.choice.Choice.{Choice}
use Rattle.bao_text.specs.Choice.{chunk_count, of_combined, of_slice, wants}
use Rattle.bao_text.specs.Nodes.{TreeNode, Side, chosen_nodes, left, nodes, right, subtree_nodes, subtree_size}
use Rattle.bao_text.specs.Texts.{length_text, node_text}
use Rattle.bao_text.proofs.Everything.{wants_all}
use Rattle.bao_text.proofs.Laws.{chosen_text-nodes}
use Rattle.bao_text.proofs.SubtreeNodes.{parent_node, subtree_nodes-parent}
use Rattle.bao_text.proofs.SubtreeText.{Parts, left_len-Parts}
use Rattle.bao_check.specs.HasPart.{Inside}
use Rattle.bao_check.specs.Laws.{NodesMakeSlice, known_at}
use Rattle.bao_text.specs.NodeNames.{boundary}
use Rattle.bao_check.specs.Parents.{find_parent, is_parent_at, parent_of}
use Rattle.bao_check.specs.Pieces.{chunk_of}
use Rattle.bao_check.proofs.Lists.{All-from_members, All-member, Contains-head, Contains-tail}
use Rattle.bao_check.proofs.Locating.{IsInside, boundaries_inside}
use Rattle.bao_check.proofs.Parenting.{not_parent_at}
use Rattle.bao_check.proofs.EachNode.{each_node}
use Rattle.bao_check.proofs.Sizes.{Inside-far, Inside-near, Inside-whole, chunk_size}

find_parent-first : (xs ys : List TreeNode) (m : ℕ) (node : TreeNode) → find_parent xs m ≡ Some node → find_parent (xs ++ ys) m ≡ Some node
find_parent-first [] ys m node h = let bad : None ≡ Some node = h in cc
find_parent-first (x ∷ xs) ys m node h = grind (arith, cases_Bool, find_parent-first xs ys m node)

find_parent-second : (xs ys : List TreeNode) (m : ℕ) → AllByRecursion (λ x. is_parent_at m x ≡ false) xs → find_parent (xs ++ ys) m ≡ find_parent ys m
find_parent-second [] ys m all = refl
find_parent-second (x ∷ xs) ys m all = rw all.0 (find_parent-second xs ys m all.1)

-- the parent is the one that everything has at its boundary
abbrev IsFound : Choice → ℕ → ℕ → List Side → ℕ → TreeNode → Type 0
IsFound all number n sides source node = node.is_chunk ≡ false → find_parent (subtree_nodes all number n sides source) (boundary node) ≡ Some node

module _ (all choice : Choice) (number n : ℕ) (sides : List Side) (source : ℕ) (more : 1024 < n) (wanted : wants choice (1024 * number) n ≡ true) (all_wanted : wants all (1024 * number) n ≡ true) where
  abbrev middle : ℕ
  middle = number + left_len n / 1024

  abbrev own : TreeNode
  own = parent_node number n sides source

  abbrev near_of : Choice → List TreeNode
  near_of c = subtree_nodes c number (left_len n) (sides ++ left ∷ []) (source + 64)

  abbrev far_of : Choice → List TreeNode
  far_of c = subtree_nodes c middle (n - left_len n) (sides ++ right ∷ []) (source + 64 + subtree_size (left_len n))

  abbrev everything : List TreeNode
  everything = subtree_nodes all number n sides source

  parts : Parts n (left_len n)
  parts = left_len-Parts n more

  whole : everything ≡ own ∷ (near_of all ++ far_of all)
  whole = subtree_nodes-parent all number n sides source all_wanted more

  near_count : chunk_count (left_len n) ≡ left_len n / 1024
  near_count = omega (arith, parts.whole, parts.some)

  -- another boundary is looked for further on
  past_own : (m : ℕ) → (middle ≡ m → ⊥) → find_parent everything m ≡ find_parent (near_of all ++ far_of all) m
  past_own m other = grind (arith, not_parent_at, whole)

  found_own : find_parent everything middle ≡ Some own
  found_own = grind (arith, eqb_tells, whole)

  found_near : (x : TreeNode) → Contains (near_of choice) x → IsFound all number (left_len n) (sides ++ left ∷ []) (source + 64) x → IsFound all number n sides source x
  found_near x h found parent =
      let inside = All-member (IsInside number (chunk_count (left_len n))) (near_of choice)
      (boundaries_inside choice number (left_len n) (sides ++ left ∷ []) (source + 64)) x h parent in
      let high : boundary x < number + chunk_count (left_len n) = inside.1 in
      past_own (boundary x) (λ same. omega (arith, high, same, near_count)) ∙ find_parent-first (near_of all) (far_of all) (boundary x) x (found parent)

  found_far : (x : TreeNode) → Contains (far_of choice) x → IsFound all middle (n - left_len n) (sides ++ right ∷ []) (source + 64 + subtree_size (left_len n)) x → IsFound all number n sides source x
  found_far x h found parent =
      let inside = All-member (IsInside middle (chunk_count (n - left_len n))) (far_of choice)
      (boundaries_inside choice middle (n - left_len n) (sides ++ right ∷ []) (source + 64 + subtree_size (left_len n))) x h parent in
      let low : middle < boundary x = inside.0 in
      let lacks : AllByRecursion (λ y. is_parent_at (boundary x) y ≡ false) (near_of all) =
      All-from_members (λ y. is_parent_at (boundary x) y ≡ false) (near_of all)
      (λ y there. not_parent_at (boundary x) y (λ is same.
      let w = All-member (IsInside number (chunk_count (left_len n))) (near_of all) (boundaries_inside all number (left_len n) (sides ++ left ∷ []) (source + 64)) y there is in
      let high : boundary y < number + chunk_count (left_len n) = w.1 in
      omega (arith, high, low, same, near_count))) in
      past_own (boundary x) (λ same. omega (arith, low, same)) ∙ find_parent-second (near_of all) (far_of all) (boundary x) lacks ∙ found parent

all_found : (all choice : Choice) (number n : ℕ) (sides : List Side) (source : ℕ)
    → AllByRecursion (λ node. all.start ≡ 0 → 1024 * number + n ≤ all.end → IsFound all number n sides source node) (subtree_nodes choice number n sides source)
all_found all choice = each_node choice (λ number n sides source node. all.start ≡ 0 → 1024 * number + n ≤ all.end → IsFound all number n sides source node)
    (λ number n sides source wanted one kept start fits e. let bad : true ≡ false = e in cc)
    (λ number n sides source wanted more parts start fits parent. found_own all choice number n sides source more wanted (wants_all all (1024 * number) n start (omega (arith, fits, more))))
    (λ number n sides source wanted more parts x member h start fits.
    found_near all choice number n sides source more wanted (wants_all all (1024 * number) n start (omega (arith, fits, more))) x member (h start (omega (arith, fits, parts.below))))
    (λ number n sides source wanted more parts x member h start fits.
    found_far all choice number n sides source more wanted (wants_all all (1024 * number) n start (omega (arith, fits, more))) x member (h start (omega (arith, fits, parts.whole, parts.below))))

-- the parent of a slice of the blob is the blob's
pub parent_of-boundary : (mode : Mode) (blob : List ℕ) (choice : Choice) (node : TreeNode) → Contains (chosen_nodes choice (length blob)) node → node.is_chunk ≡ false
    → parent_of mode blob (boundary node) ≡ Some (node_text mode blob node)
parent_of-boundary mode blob choice node there parent =
    let total : ℕ = length blob in
    let all : Choice = of_combined total in
    let found : find_parent (chosen_nodes all total) (boundary node) ≡ Some node =
    All-member _ (chosen_nodes choice total) (all_found all choice 0 total [] 8) node there refl (omega arith) parent in
    ap (option_map (node_text mode blob)) found

pub parent_of-node : (mode : Mode) (blob : List ℕ) (choice : Choice) (m : ℕ) (node : TreeNode) → Contains (chosen_nodes choice (length blob)) node → is_parent_at m node ≡ true
    → parent_of mode blob m ≡ Some (node_text mode blob node)
parent_of-node mode blob choice m node there is = elim (cases_Bool node.is_chunk) [
  | inl chunk ↦ let bad : false ≡ true = rw chunk at is in cc
  | inr parent ↦
      let hit : (boundary node == m) ≡ true = rw parent at is in
      let same : boundary node ≡ m = eqb-true (boundary node) m hit in
      ap (parent_of mode blob) (sym same) ∙ parent_of-boundary mode blob choice node there parent
]

-- a chunk's node is a whole chunk or the last one
record IsChunkOf (total : ℕ) (node : TreeNode) : Type 0 where
  below : node.number < chunk_count total
  len_is : node.len ≡ min 1024 (total - 1024 * node.number)

abbrev IsChunkIn : ℕ → TreeNode → Type 0
IsChunkIn total node = node.is_chunk ≡ true → IsChunkOf total node

all_chunks : (total : ℕ) (choice : Choice) (number n : ℕ) (sides : List Side) (source : ℕ) → AllByRecursion (λ node. Inside total number n → IsChunkIn total node) (subtree_nodes choice number n sides source)
all_chunks total choice = each_node choice (λ number n sides source node. Inside total number n → IsChunkIn total node)
    (λ number n sides source wanted one kept is e. record { below = omega (arith, is.within, is.some); len_is = sym (chunk_size total number n is one) })
    (λ number n sides source wanted more parts is e. let bad : false ≡ true = e in cc)
    (λ number n sides source wanted more parts x member h is. h (Inside-near total number n more is)) (λ number n sides source wanted more parts x member h is. h (Inside-far total number n more is))

-- the chunk of a slice of the blob is the blob's
pub chunk_of-node : (mode : Mode) (blob : List ℕ) (choice : Choice) (node : TreeNode) → Contains (chosen_nodes choice (length blob)) node → node.is_chunk ≡ true
    → chunk_of blob node.number ≡ Some (node_text mode blob node)
chunk_of-node mode blob choice node there chunk =
    let total : ℕ = length blob in
    let is : IsChunkOf total node =
    All-member _ (chosen_nodes choice total) (all_chunks total choice 0 total [] 8) node there (Inside-whole total) chunk in
    let rest : List ℕ = drop (1024 * node.number) blob in
    let size : length rest ≡ total - 1024 * node.number = length-drop (1024 * node.number) blob in
    let cut : take 1024 rest ≡ take node.len rest = elim (cases_lt 1024 (length rest)) [
      | inl long ↦ let e : 1024 ≡ node.len = omega (arith, is.len_is) in ap (λ (k : ℕ). take k rest) e
      | inr short ↦ take_all 1024 rest short ∙ sym (take_all node.len rest (omega (arith, is.len_is)))
    ] in
    rw (lt-ltb node.number (chunk_count total) is.below, chunk) (ap Some cut)

-- what a blob has at each node of a slice of it
pub known-node : (mode : Mode) (blob : List ℕ) (choice : Choice) (node : TreeNode) → Contains (chosen_nodes choice (length blob)) node
    → known_at (chunk_of blob) (parent_of mode blob) node ≡ Some (node_text mode blob node)
known-node mode blob choice node there = elim (cases_Bool node.is_chunk) [
  | inl chunk ↦
      let known : known_at (chunk_of blob) (parent_of mode blob) node ≡ chunk_of blob node.number = rw chunk refl in
      known ∙ chunk_of-node mode blob choice node there chunk
  | inr parent ↦
      let known : known_at (chunk_of blob) (parent_of mode blob) node ≡ parent_of mode blob (boundary node) = rw parent refl in
      known ∙ parent_of-boundary mode blob choice node there parent
]

flat_map-same : (f g : TreeNode → List ℕ) (xs : List TreeNode) → ((x : TreeNode) → Contains xs x → f x ≡ g x) → flat_map f xs ≡ flat_map g xs
flat_map-same f g [] same = refl
flat_map-same f g (x ∷ xs) same =
    let rest : flat_map f xs ≡ flat_map g xs = flat_map-same f g xs (λ y h. same y (Contains-tail xs x y h)) in
    let here : f x ≡ g x = same x (Contains-head xs x) in
    (λ i. here i ++ rest i)

pub nodes_make_slice : NodesMakeSlice
nodes_make_slice mode blob start len bytes known =
    let choice : Choice = of_slice (length blob) start len in
    ap (λ (xs : List ℕ). length_text (length blob) ++ xs)
    (flat_map-same bytes (node_text mode blob) (nodes (length blob) start len)
    (λ x h. let e : Some (bytes x) ≡ Some (node_text mode blob x) = sym (known x h) ∙ known-node mode blob choice x h in cc))
    ∙ sym (chosen_text-nodes choice mode blob)

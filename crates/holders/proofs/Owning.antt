-- Beside a blob's own outboard encoding the blob's bytes make its slices.
use Rattle.holders.proofs.Common.{◌≡◌, ◌∙◌, ℕ, ◌+◌, ◌-◌, ◌*◌, ◌/◌, ◌≤◌, List, [], ◌∷◌, ◌++◌, append-nil, length, take, drop, Contains, Option, None, Some, IsSome, true, false, refl, sym, ap, subst, arith, inl, inr, eq-eqb, length-append, length-drop, length-take, take_at, ◌&&◌, ◌==◌, and_from, cases_Bool, cases_lt, drop_all, Mode, piece, All-member, slice_present, places_of, bare_len, chunk_of, chunk_place, of_slice, nodes, slice_text}
use Rattle.std.specs.List.{AllByRecursion, flat_map}
use Rattle.std.specs.Option.{unwrap_or}
use Rattle.b3tree.proofs.Pieces.{length-piece, piece-piece}
use Rattle.bao_check.proofs.BesidePlaces.{flat-placed_nodes, whole-chunks}
use Rattle.bao_check.proofs.BlobNodes.{chunk_of-node, nodes_make_slice, parent_of-node}
use Rattle.bao_check.proofs.Lists.{All-from_members, Contains-cons_cases, nodes_size, nodes_size-cons}
use Rattle.bao_check.proofs.Parts.{placed_nodes-All}
use Rattle.bao_check.specs.Accepted.{bytes_at, outboard_nodes, text_end}
use Rattle.bao_check.specs.Beside.{IsOfChunks, beside_text, node_beside}
use Rattle.bao_check.specs.Laws.{known_at}
use Rattle.bao_check.specs.Parents.{is_parent_at, parent_in, parent_of}
use Rattle.bao_text.proofs.Everything.{At, length-parent_text}
use Rattle.bao_text.proofs.Laws.{chosen_text-nodes}
use Rattle.bao_text.specs.declared.choice.Choice.{Choice}
use Rattle.bao_text.specs.Choice.{of_outboard}
use Rattle.bao_text.specs.Cut.{claimed}
use Rattle.bao_text.specs.NodeNames.{boundary}
use Rattle.bao_text.specs.Nodes.{TreeNode, chosen_nodes, placed_nodes, size}
use Rattle.bao_text.specs.Texts.{length_text, node_span, node_text, outboard_text}

-- lists for nodes, one after another, where none is longer than its node
most : (f : TreeNode → List ℕ) (ns : List TreeNode) → ((node : TreeNode) → length (f node) ≤ size node) → length (flat_map f ns) ≤ nodes_size ns
most f [] each = omega arith
most f (node ∷ ns) each =
    let rest : length (flat_map f ns) ≤ nodes_size ns = most f ns each in
    omega (arith, each node, rest, length-append (f node) (flat_map f ns), nodes_size-cons node ns)

-- each is as long as its node, where all together are
exact : (f : TreeNode → List ℕ) (ns : List TreeNode) → ((node : TreeNode) → length (f node) ≤ size node) → nodes_size ns ≤ length (flat_map f ns)
    → AllByRecursion (λ node. length (f node) ≡ size node) ns
exact f [] each enough = tt
exact f (node ∷ ns) each enough =
    let rest : length (flat_map f ns) ≤ nodes_size ns = most f ns each in
    let both : length (f node ++ flat_map f ns) ≡ length (f node) + length (flat_map f ns) = length-append (f node) (flat_map f ns) in
    let sum : nodes_size (node ∷ ns) ≡ size node + nodes_size ns = nodes_size-cons node ns in
    (omega (arith, each node, rest, both, sum, enough), exact f ns each (omega (arith, each node, both, sum, enough)))

-- a node's bytes are no more than it has
node_most : (mode : Mode) (blob : List ℕ) (node : TreeNode) → length (node_text mode blob node) ≤ size node
node_most mode blob node = elim (cases_Bool node.is_chunk) [
  | inl chunk ↦ rw chunk (omega (arith, length-take node.len (drop (1024 * node.number) blob)))
  | inr parent ↦ rw parent (omega (arith, length-parent_text mode node.number (node_span blob node)))
]

-- what stands at a place is its node's of the blob, and where that is a parent, so is the blob's parent
abbrev IsBlobs : Mode → List ℕ → List ℕ → ℕ → ℕ × TreeNode → Type 0
IsBlobs mode blob text m place =
    (bytes_at text place ≡ node_text mode blob place.1) × (is_parent_at m place.1 ≡ true → parent_of mode blob m ≡ Some (node_text mode blob place.1))

found_parent : (mode : Mode) (blob text : List ℕ) (m : ℕ) (places : List (ℕ × TreeNode)) (bytes : List ℕ) → AllByRecursion (IsBlobs mode blob text m) places → parent_in text places m ≡ Some bytes
    → parent_of mode blob m ≡ Some bytes
found_parent mode blob text m [] bytes all is = let none : None ≡ Some bytes = is in cc
found_parent mode blob text m (place ∷ places) bytes all is = elim (cases_Bool (is_parent_at m place.1)) [
  | inl here ↦
      let found : Some (bytes_at text place) ≡ Some bytes = rw here at is in
      all.0.1 here ∙ ap (λ (xs : List ℕ). Some xs) (sym all.0.0) ∙ found
  | inr other ↦ found_parent mode blob text m places bytes all.1 (rw other at is)
]

-- each parent that a blob's outboard encoding has is the blob's
own_parents : (mode : Mode) (blob : List ℕ) (m : ℕ) (bytes : List ℕ) → claimed (outboard_text mode blob) ≡ length blob
    → length (outboard_text mode blob) ≡ text_end (outboard_nodes (outboard_text mode blob))
    → parent_in (outboard_text mode blob) (places_of (outboard_nodes (outboard_text mode blob))) m ≡ Some bytes → parent_of mode blob m ≡ Some bytes
own_parents mode blob m bytes claims all_there is =
    let n : ℕ = length blob in
    let choice : Choice = of_outboard n in
    let text : List ℕ = outboard_text mode blob in
    let ns : List TreeNode = chosen_nodes choice n in
    let f : TreeNode → List ℕ = node_text mode blob in
    let whole : text ≡ length_text n ++ flat_map f ns = chosen_text-nodes choice mode blob in
    let ends : length text ≡ text_end ns = all_there ∙ ap (λ (total : ℕ). text_end (chosen_nodes (of_outboard total) total)) claims in
    let head : length (length_text n) ≡ 8 = refl in
    let sizes : AllByRecursion (λ node. length (f node) ≡ size node) ns =
    exact f ns (node_most mode blob) (omega (arith, ends, head, ap (λ (xs : List ℕ). length xs) whole, length-append (length_text n) (flat_map f ns))) in
    let here : At text 8 (flat_map f ns) = record {
      before = length_text n;
      after = [];
      whole = whole ∙ ap (λ (xs : List ℕ). length_text n ++ xs) (sym (append-nil (flat_map f ns)));
      place = refl;
    } in
    let parents : AllByRecursion (λ place. is_parent_at m place.1 ≡ true → parent_of mode blob m ≡ Some (f place.1)) (placed_nodes 8 ns) =
    placed_nodes-All (λ node. is_parent_at m node ≡ true → parent_of mode blob m ≡ Some (f node)) 8 ns
    (All-from_members (λ node. is_parent_at m node ≡ true → parent_of mode blob m ≡ Some (f node)) ns (λ node there hit. parent_of-node mode blob choice m node there hit)) in
    let all : AllByRecursion (IsBlobs mode blob text m) (placed_nodes 8 ns) =
    All-from_members (IsBlobs mode blob text m) (placed_nodes 8 ns)
    (λ place there. (
      flat-placed_nodes f text 8 ns sizes here place there,
      All-member (λ p. is_parent_at m p.1 ≡ true → parent_of mode blob m ≡ Some (f p.1)) (placed_nodes 8 ns) parents place there,
    )) in
    found_parent mode blob text m (placed_nodes 8 ns) bytes all
    (subst (λ (total : ℕ). parent_in text (placed_nodes 8 (chosen_nodes (of_outboard total) total)) m ≡ Some bytes) claims is)

-- the chunk of a node is among the places of the nodes
chunk_among : (ns : List TreeNode) (at : ℕ) (node : TreeNode) → Contains ns node → node.is_chunk ≡ true → IsSome (chunk_place (placed_nodes at ns) node.number)
chunk_among [] at node there chunk = absurd (omega (arith, there.1))
chunk_among (x ∷ xs) at node there chunk = elim (Contains-cons_cases xs x node there) [
  | inl same ↦
      let hit : (x.is_chunk && (x.number == node.number)) ≡ true =
      subst (λ (y : TreeNode). (y.is_chunk && (y.number == node.number)) ≡ true) same (and_from _ _ chunk (eq-eqb node.number node.number refl)) in
      rw hit refl
  | inr rest ↦ elim (cases_Bool (x.is_chunk && (x.number == node.number))) [
    | inl hit ↦ rw hit refl
    | inr miss ↦ rw miss (chunk_among xs (at + size x) node rest chunk)
  ]
]

-- a parent that is there is the blob's
parent_there : (known found : Option (List ℕ)) → length (unwrap_or found []) ≡ 64 → ((bytes : List ℕ) → found ≡ Some bytes → known ≡ Some bytes) → known ≡ Some (unwrap_or found [])
parent_there known None long each = absurd (omega (arith, long))
parent_there known (Some bytes) long each = each bytes refl

module _ (mode : Mode) (blob outline : List ℕ) (start len : ℕ) (of_chunks : IsOfChunks (length blob) start len) (claims : claimed outline ≡ length blob)
    (begins : take 8 outline ≡ length_text (length blob)) (all_there : text_end (outboard_nodes outline) ≤ length outline)
    (parents : (m : ℕ) (bytes : List ℕ) → parent_in outline (places_of (outboard_nodes outline)) m ≡ Some bytes → parent_of mode blob m ≡ Some bytes) where
  abbrev bare : ℕ
  bare = bare_len (length blob) start len

  abbrev bytes_of : List ℕ
  bytes_of = piece blob start bare

  abbrev made : TreeNode → List ℕ
  made = node_beside outline (start / 1024) bytes_of

  abbrev ns : List TreeNode
  ns = nodes (length blob) start len

  count : length bytes_of ≡ bare
  count = length-piece blob start bare (omega (arith, of_chunks.within))

  sizes : AllByRecursion (λ node. length (made node) ≡ size node) ns
  sizes =
      subst (λ (total : ℕ). AllByRecursion (λ node. length (made node) ≡ size node) (nodes total start len)) claims
      (whole-chunks outline start len bytes_of (record { of_chunks = subst (λ (total : ℕ). IsOfChunks total start len) (sym claims) of_chunks; parents = all_there })
      (count ∙ ap (λ (total : ℕ). bare_len total start len) (sym claims))).sizes

  chunk_known : (node : TreeNode) → Contains ns node → node.is_chunk ≡ true → chunk_of blob node.number ≡ Some (made node)
  chunk_known node there chunk =
      let k : ℕ = 1024 * (node.number - start / 1024) in
      let long : length (made node) ≡ size node = All-member (λ (x : TreeNode). length (made x) ≡ size x) ns sizes node there in
      let beside : made node ≡ piece bytes_of k node.len = rw chunk refl in
      let size_is : size node ≡ node.len = rw chunk refl in
      let after = ((slice_present (length blob) start len 8 node.number).0 (chunk_among ns 8 node there chunk)).0 in
      let since : start / 1024 ≤ node.number = omega (arith, after, of_chunks.within) in
      let text : node_text mode blob node ≡ piece blob (1024 * node.number) node.len = rw chunk refl in
      let at : start + k ≡ 1024 * node.number = omega (arith, since, of_chunks.starts) in
      let part : piece bytes_of k node.len ≡ piece blob (1024 * node.number) node.len = elim (cases_lt 0 node.len) [
        | inr none ↦
            let empty : node.len ≡ 0 = omega (arith, none) in
            ap (λ (l : ℕ). take l (drop k bytes_of)) empty ∙ sym (ap (λ (l : ℕ). take l (drop (1024 * node.number) blob)) empty)
        | inl more ↦
            let within : k + node.len ≤ bare = omega (arith, more, ap length beside, length-take node.len (drop k bytes_of), length-drop k bytes_of, count, long, size_is) in
            piece-piece blob start bare k node.len within ∙ ap (λ (p : ℕ). piece blob p node.len) at
      ] in
      chunk_of-node mode blob (of_slice (length blob) start len) node there chunk ∙ ap (λ (xs : List ℕ). Some xs) (text ∙ sym part ∙ sym beside)

  parent_known : (node : TreeNode) → Contains ns node → node.is_chunk ≡ false → parent_of mode blob (boundary node) ≡ Some (made node)
  parent_known node there parent =
      let found : Option (List ℕ) = parent_in outline (places_of (outboard_nodes outline)) (boundary node) in
      let beside : made node ≡ unwrap_or found [] = rw parent refl in
      let size_is : size node ≡ 64 = rw parent refl in
      let long : length (made node) ≡ size node = All-member (λ (x : TreeNode). length (made x) ≡ size x) ns sizes node there in
      parent_there (parent_of mode blob (boundary node)) found (sym (ap length beside) ∙ long ∙ size_is) (parents (boundary node)) ∙ ap (λ (xs : List ℕ). Some xs) (sym beside)

  known : (node : TreeNode) → Contains ns node → known_at (chunk_of blob) (parent_of mode blob) node ≡ Some (made node)
  known node there = elim (cases_Bool node.is_chunk) [
    | inl chunk ↦
        let is : known_at (chunk_of blob) (parent_of mode blob) node ≡ chunk_of blob node.number = rw chunk refl in
        is ∙ chunk_known node there chunk
    | inr parent ↦
        let is : known_at (chunk_of blob) (parent_of mode blob) node ≡ parent_of mode blob (boundary node) = rw parent refl in
        is ∙ parent_known node there parent
  ]

  -- an outline's parents, where they are the blob's, and the blob's bytes make the blob's slice
  makes_slice : beside_text outline start len bytes_of ≡ slice_text mode blob start len
  makes_slice =
      (λ i. begins i ++ (flat_map made (nodes (claims i) start len) ++ drop (bare_len (claims i) start len) bytes_of))
      ∙ ap (λ (xs : List ℕ). length_text (length blob) ++ (flat_map made ns ++ xs)) (drop_all bare bytes_of (omega (arith, count)))
      ∙ ap (λ (xs : List ℕ). length_text (length blob) ++ xs) (append-nil (flat_map made ns))
      ∙ nodes_make_slice mode blob start len made known

-- so do the blob's own, in an encoding that is as long as it has to be
pub own_makes : (mode : Mode) (blob : List ℕ) (start len : ℕ) → claimed (outboard_text mode blob) ≡ length blob
    → length (outboard_text mode blob) ≡ text_end (outboard_nodes (outboard_text mode blob)) → IsOfChunks (length blob) start len
    → beside_text (outboard_text mode blob) start len (piece blob start (bare_len (length blob) start len)) ≡ slice_text mode blob start len
own_makes mode blob start len claims ends of_chunks =
    let n : ℕ = length blob in
    let choice : Choice = of_outboard n in
    let text : List ℕ = outboard_text mode blob in
    let whole : text ≡ length_text n ++ flat_map (node_text mode blob) (chosen_nodes choice n) = chosen_text-nodes choice mode blob in
    let begins : take 8 text ≡ length_text n =
    ap (λ (xs : List ℕ). take 8 xs) whole ∙ take_at (length_text n) (flat_map (node_text mode blob) (chosen_nodes choice n)) 8 refl in
    makes_slice mode blob text start len of_chunks claims begins (omega (arith, ends)) (λ m bytes is. own_parents mode blob m bytes claims ends is)

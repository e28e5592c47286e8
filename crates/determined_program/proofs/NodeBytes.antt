-- Bytes for the nodes of an encoding, one after another.
use Rattle.std.proofs.Common.{◌≡◌, ◌∙◌, ℕ, ◌+◌, ◌*◌, ◌^◌, ◌<◌, ◌≤◌, List, [], ◌∷◌, ◌++◌, append-nil, length, take, drop, inl, inr, arith, refl, sym, ap, length-append, length-take}
use Rattle.std.specs.List.{AllByRecursion, Contains, flat_map}
use Rattle.std.proofs.lemmas.Bool.{cases_Bool}
use Rattle.std.proofs.lemmas.List.{drop-drop, drop_all, drop_at, take-append-drop, take_at}
use Rattle.b3tree.specs.declared.mode.Mode.{Mode}
use Rattle.b3tree.specs.Valid.{IsKeyed}
use Rattle.bao_text.specs.declared.choice.Choice.{Choice}
use Rattle.bao_text.specs.Choice.{of_slice}
use Rattle.bao_text.specs.Nodes.{TreeNode, chosen_nodes, placed_nodes, size}
use Rattle.bao_text.specs.Texts.{length_text, node_span, node_text, slice_text}
use Rattle.bao_text.proofs.Everything.{length-parent_text}
use Rattle.bao_text.proofs.Laws.{chosen_text-nodes}
use Rattle.bao_check.specs.Accepted.{bytes_at, places_of}
use Rattle.bao_check.proofs.BesidePlaces.{flat-placed_nodes}
use Rattle.bao_check.proofs.Lists.{nodes_size, nodes_size-cons}
use Rattle.bao_check.proofs.Written.{claimed-chosen_text, slice_accepted}

-- each list is as long as its node, where none is longer, and all together are as long
module _ (g : TreeNode → List ℕ) (fits : (node : TreeNode) → length (g node) ≤ size node) where
  most : (ns : List TreeNode) → length (flat_map g ns) ≤ nodes_size ns
  most [] = omega arith
  most (node ∷ ns) = omega (arith, fits node, most ns, length-append (g node) (flat_map g ns), nodes_size-cons node ns)

  pub exact : (ns : List TreeNode) → nodes_size ns ≤ length (flat_map g ns) → AllByRecursion (λ node. length (g node) ≡ size node) ns
  exact [] enough = tt
  exact (node ∷ ns) enough =
      let both : length (g node ++ flat_map g ns) ≡ length (g node) + length (flat_map g ns) = length-append (g node) (flat_map g ns) in
      let sum : nodes_size (node ∷ ns) ≡ size node + nodes_size ns = nodes_size-cons node ns in
      (omega (arith, fits node, most ns, both, sum, enough), exact ns (omega (arith, fits node, both, sum, enough)))

-- two lists for each node
module _ (f g : TreeNode → List ℕ) where
  pub each_same : (ns : List TreeNode) → AllByRecursion (λ node. length (f node) ≡ size node) ns → AllByRecursion (λ node. length (g node) ≡ size node) ns → flat_map f ns ≡ flat_map g ns
      → AllByRecursion (λ node. f node ≡ g node) ns
  each_same [] ours theirs same = tt
  each_same (node ∷ ns) ours theirs same =
      let here : f node ≡ g node =
      sym (take_at (f node) (flat_map f ns) (size node) ours.0) ∙ ap (λ (xs : List ℕ). take (size node) xs) same ∙ take_at (g node) (flat_map g ns) (size node) theirs.0 in
      let rest : flat_map f ns ≡ flat_map g ns =
      sym (drop_at (f node) (flat_map f ns) (size node) ours.0) ∙ ap (λ (xs : List ℕ). drop (size node) xs) same ∙ drop_at (g node) (flat_map g ns) (size node) theirs.0 in
      (here, each_same ns ours.1 theirs.1 rest)

  pub all_same : (ns : List TreeNode) → AllByRecursion (λ node. f node ≡ g node) ns → flat_map f ns ≡ flat_map g ns
  all_same [] each = refl
  all_same (node ∷ ns) each = let rest = all_same ns each.1 in (λ i. each.0 i ++ rest i)

-- the bytes from an offset on are those of the nodes, where each place has its node's
pub placed_bytes : (f : TreeNode → List ℕ) (text : List ℕ) (at : ℕ) (ns : List TreeNode) → AllByRecursion (λ place. bytes_at text place ≡ f place.1) (placed_nodes at ns)
    → length text ≡ at + nodes_size ns → drop at text ≡ flat_map f ns
placed_bytes f text at [] own ends = drop_all at text (omega (arith, ends))
placed_bytes f text at (node ∷ ns) own ends =
    let rest = placed_bytes f text (at + size node) ns own.1 (omega (arith, ends, nodes_size-cons node ns)) in
    sym (take-append-drop (size node) (drop at text)) ∙ (λ i. own.0 i ++ (drop-drop (size node) at text ∙ rest) i)

-- a blob has no more bytes at a node than that has
pub node_most : (mode : Mode) (blob : List ℕ) (node : TreeNode) → length (node_text mode blob node) ≤ size node
node_most mode blob node = elim (cases_Bool node.is_chunk) [
  | inl chunk ↦ rw chunk (omega (arith, length-take node.len (drop (1024 * node.number) blob)))
  | inr parent ↦ rw parent (omega (arith, length-parent_text mode node.number (node_span blob node)))
]

-- what its slice has at each place
pub own_places : (mode : Mode) (blob : List ℕ) (start len : ℕ) → IsKeyed mode → length blob < 2 ^ 64 → (place : ℕ × TreeNode)
    → Contains (places_of (chosen_nodes (of_slice (length blob) start len) (length blob))) place → bytes_at (slice_text mode blob start len) place ≡ node_text mode blob place.1
own_places mode blob start len keyed short =
    let n : ℕ = length blob in
    let choice : Choice = of_slice n start len in
    let ns : List TreeNode = chosen_nodes choice n in
    let f : TreeNode → List ℕ = node_text mode blob in
    let whole : slice_text mode blob start len ≡ length_text n ++ flat_map f ns = chosen_text-nodes choice mode blob in
    let claims = claimed-chosen_text choice mode blob short in
    let ends : length (slice_text mode blob start len) ≡ 8 + nodes_size ns = (slice_accepted mode blob start len keyed short).ends ∙ ap (λ (total : ℕ). 8 + nodes_size (chosen_nodes (of_slice total start len) total)) claims in
    let head : length (length_text n) ≡ 8 = refl in
    flat-placed_nodes f (slice_text mode blob start len) 8 ns
    (exact f (node_most mode blob) ns (omega (arith, ends, head, ap (λ (xs : List ℕ). length xs) whole, length-append (length_text n) (flat_map f ns))))
    (record { before = length_text n; after = []; whole = whole ∙ ap (λ (xs : List ℕ). length_text n ++ xs) (sym (append-nil (flat_map f ns))); place = refl })

-- The bytes of an encoding that an outline and chunks make stand at their places.
use Rattle.std.proofs.Common.{◌≡◌, ℕ, ◌+◌, ◌-◌, ◌*◌, ◌/◌, ◌^◌, ◌<◌, ◌≤◌, max, min, List, [], ◌∷◌, ◌++◌, length, take, drop, true, Some, refl, sym, ap, subst, ◌∙◌, arith, inl, inr, length-append, length-drop, length-take}
use Rattle.std.specs.List.{AllByRecursion, Contains, flat_map}
use Rattle.std.proofs.lemmas.Bool.{cases_lt}
use Rattle.std.proofs.lemmas.List.{length-take-le, take_at}
use Rattle.b3tree.specs.Tree.{left_len}
use Rattle.bao_text.specs.declared.choice.Choice.{Choice}
use Rattle.bao_text.specs.Choice.{chunk_count, of_outboard, of_slice, wants}
use Rattle.bao_text.specs.Cut.{claimed}
use Rattle.bao_text.specs.Nodes.{TreeNode, Side, left, nodes, placed_nodes, right, size, subtree_nodes, subtree_size}
use Rattle.bao_text.proofs.Everything.{At, At_first, At_rest}
use Rattle.bao_text.proofs.SubtreeNodes.{parent_node}
use Rattle.bao_text.proofs.SubtreeText.{Parts, left_len-Parts}
use Rattle.bao_check.specs.Accepted.{bytes_at, outboard_nodes, places_of, text_end}
use Rattle.bao_check.specs.Bare.{bare_part}
use Rattle.bao_check.specs.Beside.{IsOfChunks, bare_len, beside_text, node_beside}
use Rattle.bao_check.specs.Leaves.{WantsParents}
use Rattle.bao_check.specs.Parents.{parent_in, parent_place}
use Rattle.bao_check.proofs.Lists.{All-from_members, All-member, Contains-cons_cases, nodes_size, nodes_size-cons}
use Rattle.bao_check.proofs.Outlines.{far-WantsParents, near-WantsParents, near-size, outboard-WantsParents}
use Rattle.bao_check.proofs.Parenting.{parent_in-place, parent_place-far, parent_place-here, parent_place-near}
use Rattle.bao_check.proofs.Parts.{placed_nodes-All}
use Rattle.bao_check.proofs.Presence.{Meets, Meets-from_wants}
use Rattle.bao_check.proofs.Sizes.{nodes_size-without_chunks, wants_whole}
use Rattle.bao_check.proofs.EachNode.{chunk_node, each_node}
use Rattle.bao_check.proofs.NodesAsEncoding.{At_bytes}

-- The parents of a subtree are found among all places as they are among the subtree's own.
pub record Finds (all : List (ℕ × TreeNode)) (choice : Choice) (number n : ℕ) (sides : List Side) (source at : ℕ) : Type 0 where
  pub same : (m : ℕ) → number < m → m < number + chunk_count n → parent_place all m ≡ parent_place (placed_nodes at (subtree_nodes choice number n sides source)) m

module _ (all : List (ℕ × TreeNode)) (choice : Choice) (number n : ℕ) (sides : List Side) (source at : ℕ) (more : 1024 < n) (has : WantsParents choice number n) (finds : Finds all choice number n sides source at) where
  wanted : wants choice (1024 * number) n ≡ true
  wanted = wants_whole choice (1024 * number) n has.start (omega (arith, has.end))

  pub Finds-near : Finds all choice number (left_len n) (sides ++ left ∷ []) (source + 64) (at + 64)
  Finds-near =
      let parts : Parts n (left_len n) = left_len-Parts n more in
      record {
        same = λ m low high.
            finds.same m low (omega (arith, parts.whole, parts.some, parts.below))
            ∙ parent_place-near choice number n sides source at m wanted more (omega (arith, parts.whole, parts.some));
      }

  pub Finds-far : Finds all choice (number + left_len n / 1024) (n - left_len n) (sides ++ right ∷ []) (source + 64 + subtree_size (left_len n)) (at + 64 * (left_len n / 1024))
  Finds-far =
      let parts : Parts n (left_len n) = left_len-Parts n more in
      let near : List TreeNode = subtree_nodes choice number (left_len n) (sides ++ left ∷ []) (source + 64) in
      let far : List TreeNode = subtree_nodes choice (number + left_len n / 1024) (n - left_len n) (sides ++ right ∷ []) (source + 64 + subtree_size (left_len n)) in
      let len : nodes_size near + 64 ≡ 64 * (left_len n / 1024) = near-size choice number n sides source more has in
      let e : at + 64 + nodes_size near ≡ at + 64 * (left_len n / 1024) = omega arith in
      record {
        same = λ m low high.
            finds.same m (omega arith) (omega (arith, parts.whole, parts.some, parts.below))
            ∙ parent_place-far choice number n sides source at m wanted more low
            ∙ ap (λ (k : ℕ). parent_place (placed_nodes k far) m) e;
      }

  -- the subtree's own parent
  pub Finds-here : (text : List ℕ) → parent_in text all (number + left_len n / 1024) ≡ Some (take 64 (drop at text))
  Finds-here text = grind (arith, left_len-Parts, parent_in-place, parent_place-here, wanted)

-- so is each parent of an outline
pub Finds-all : (total : ℕ) → Finds (placed_nodes 8 (subtree_nodes (of_outboard total) 0 total [] 8)) (of_outboard total) 0 total [] 8 8
Finds-all total = record { same = λ m low high. refl }

-- what a choice wants lies in the chunks, of which there are to be `len` bytes from chunk `first` on
pub record Covers (total first len : ℕ) (choice : Choice) : Type 0 where
  pub start : choice.start ≡ 1024 * first
  pub end : (k : ℕ) → 1024 * k < choice.end → min (1024 * k + 1024) total ≤ 1024 * first + len
  pub chunks : choice.chunks ≡ true

-- the bytes made for a node are no more than it has, and as many where no chunk is missing
pub record Fits (outline : List ℕ) (first len : ℕ) (chunks : List ℕ) (node : TreeNode) : Type 0 where
  pub most : length (node_beside outline first chunks node) ≤ size node
  pub whole : len ≤ length chunks → length (node_beside outline first chunks node) ≡ size node

-- a parent has the 64 bytes that the outline has for it
pub parent-beside : (outline chunks : List ℕ) (first : ℕ) (own : Choice) (number n : ℕ) (sides : List Side) (source at : ℕ) → 1024 < n → WantsParents own number n
    → Finds (places_of (outboard_nodes outline)) own number n sides source at
    → node_beside outline first chunks (parent_node number n sides source) ≡ take 64 (drop at outline)
parent-beside outline chunks first own number n sides source at more has finds = grind (arith, Finds-here)

module _ (outline chunks : List ℕ) (own choice : Choice) (total first len : ℕ) (covers : Covers total first len choice) where
  abbrev all_places : List (ℕ × TreeNode)
  all_places = places_of (outboard_nodes outline)

  fits_chunk : (number n : ℕ) (sides : List Side) (source : ℕ) → wants choice (1024 * number) n ≡ true → n ≤ 1024 → 1024 * number + n ≤ total
      → Fits outline first len chunks (chunk_node number n sides source)
  fits_chunk number n sides source wanted one within =
      let meets : Meets choice (1024 * number) n = Meets-from_wants choice (1024 * number) n wanted in
      let rest : List ℕ = drop (1024 * (number - first)) chunks in
      let rest_len : length rest ≡ length chunks - 1024 * (number - first) = length-drop (1024 * (number - first)) chunks in
      let taken : length (take n rest) ≡ min n (length rest) = length-take n rest in
      let end : min (1024 * number + 1024) total ≤ 1024 * first + len = covers.end number meets.before in
      let after : choice.start < 1024 * number + max n 1 = meets.after in
      let start : choice.start ≡ 1024 * first = covers.start in
      record { most = omega arith; whole = λ enough. omega arith }

  -- all nodes' bytes do
  abbrev AllFit : ℕ → ℕ → List Side → ℕ → TreeNode → Type 0
  AllFit number n sides source node =
      (at : ℕ) → 1024 * number + n ≤ total → WantsParents own number n → Finds all_places own number n sides source at → at + 64 * (chunk_count n - 1) ≤ length outline → Fits outline first len chunks node

  fits_parent : (number n : ℕ) (sides : List Side) (source : ℕ) → 1024 < n → AllFit number n sides source (parent_node number n sides source)
  fits_parent number n sides source more at within has finds there =
      let rest : length (drop at outline) ≡ length outline - at = length-drop at outline in
      let all : length (node_beside outline first chunks (parent_node number n sides source)) ≡ 64 =
      ap length (parent-beside outline chunks first own number n sides source at more has finds) ∙ length-take-le 64 (drop at outline) (omega arith) in
      record { most = omega arith; whole = λ _. all }

  fits : (number n : ℕ) (sides : List Side) (source : ℕ) → AllByRecursion (AllFit number n sides source) (subtree_nodes choice number n sides source)
  fits = each_node choice AllFit
      (λ number n sides source wanted one kept at within has finds there. fits_chunk number n sides source wanted one within)
      (λ number n sides source wanted more parts. fits_parent number n sides source more)
      (λ number n sides source wanted more parts x member h at within has finds there.
      h (at + 64) (omega (arith, within, parts.below)) (near-WantsParents own number n more has) (Finds-near all_places own number n sides source at more has finds)
      (omega (arith, there, parts.whole, parts.some, parts.below)))
      (λ number n sides source wanted more parts x member h at within has finds there.
      h (at + 64 * (left_len n / 1024)) (omega (arith, within, parts.whole, parts.below)) (far-WantsParents own number n more has) (Finds-far all_places own number n sides source at more has finds)
      (omega (arith, there, parts.whole, parts.some, parts.below)))

-- lists for nodes, one after another, where none is longer than its node
flat-most : (f : TreeNode → List ℕ) (nodes : List TreeNode) → AllByRecursion (λ node. length (f node) ≤ size node) nodes → length (flat_map f nodes) ≤ nodes_size nodes
flat-most f [] all = omega arith
flat-most f (node ∷ nodes) all =
    let rest : length (flat_map f nodes) ≤ nodes_size nodes = flat-most f nodes all.1 in
    omega (arith, all.0, length-append (f node) (flat_map f nodes), nodes_size-cons node nodes)

-- each is as long as its node, where all together are
flat-whole : (f : TreeNode → List ℕ) (nodes : List TreeNode) → AllByRecursion (λ node. length (f node) ≤ size node) nodes → nodes_size nodes ≤ length (flat_map f nodes)
    → AllByRecursion (λ node. length (f node) ≡ size node) nodes
flat-whole f [] all enough = tt
flat-whole f (node ∷ nodes) all enough =
    let rest : length (flat_map f nodes) ≤ nodes_size nodes = flat-most f nodes all.1 in
    let both : length (f node ++ flat_map f nodes) ≡ length (f node) + length (flat_map f nodes) = length-append (f node) (flat_map f nodes) in
    let sum : nodes_size (node ∷ nodes) ≡ size node + nodes_size nodes = nodes_size-cons node nodes in
    (omega (arith, all.0), flat-whole f nodes all.1 (omega (arith, all.0)))

pub flat-size : (f : TreeNode → List ℕ) (nodes : List TreeNode) → AllByRecursion (λ node. length (f node) ≡ size node) nodes → length (flat_map f nodes) ≡ nodes_size nodes
flat-size f [] all = refl
flat-size f (node ∷ nodes) all =
    let rest : length (flat_map f nodes) ≡ nodes_size nodes = flat-size f nodes all.1 in
    omega (arith, all.0, length-append (f node) (flat_map f nodes), nodes_size-cons node nodes)

-- then each stands at its node's place
pub flat-placed_nodes : (f : TreeNode → List ℕ) (text : List ℕ) (at : ℕ) (nodes : List TreeNode) → AllByRecursion (λ node. length (f node) ≡ size node) nodes → At text at (flat_map f nodes)
    → (place : ℕ × TreeNode) → Contains (placed_nodes at nodes) place → bytes_at text place ≡ f place.1
flat-placed_nodes f text at [] all here place none = absurd (omega (arith, none.1))
flat-placed_nodes f text at (node ∷ nodes) all here place there = elim (Contains-cons_cases (placed_nodes (at + size node) nodes) (at, node) place there) [
  | inl same ↦
      subst (λ (p : ℕ × TreeNode). bytes_at text p ≡ f p.1) (sym same) (At_bytes text at (size node) (f node) all.0 (At_first text at (f node) (flat_map f nodes) here))
  | inr rest ↦ flat-placed_nodes f text (at + size node) nodes all.1 (At_rest text at (size node) (f node) (flat_map f nodes) all.0 here) place rest
]

All-map : (P Q : TreeNode → Type 0) (nodes : List TreeNode) → ((node : TreeNode) → P node → Q node) → AllByRecursion P nodes → AllByRecursion Q nodes
All-map P Q [] each all = tt
All-map P Q (node ∷ nodes) each all = (each node all.0, All-map P Q nodes each all.1)

-- so many chunks, as many as there are
pub IsOfChunks-counted : (total first count : ℕ) → total < 2 ^ 64 → 1 ≤ count → first + count ≤ chunk_count total → IsOfChunks total (1024 * first) (bare_part count)
IsOfChunks-counted total first count small some within = record { starts = omega arith; within = omega arith; ends = omega arith }

pub covers_chunks : (total start len : ℕ) → IsOfChunks total start len → Covers total (start / 1024) (bare_len total start len) (of_slice total start len)
covers_chunks total start len is = record {
  start = omega (arith, is.starts, is.within);
  end = λ k before. omega (arith, is.starts, is.within, is.ends);
  chunks = refl;
}

-- an encoding of an outline that has all its parents, and of chunks
pub record IsMade (outline : List ℕ) (start len : ℕ) (chunks : List ℕ) : Type 0 where
  pub of_chunks : IsOfChunks (claimed outline) start len
  pub parents : text_end (outboard_nodes outline) ≤ length outline

made_fits : (outline : List ℕ) (start len : ℕ) (chunks : List ℕ) → IsMade outline start len chunks
    → AllByRecursion (Fits outline (start / 1024) (bare_len (claimed outline) start len) chunks) (nodes (claimed outline) start len)
made_fits outline start len chunks made =
    let total : ℕ = claimed outline in
    let sizes : nodes_size (outboard_nodes outline) ≡ 64 * (chunk_count total - 1) =
    nodes_size-without_chunks (of_outboard total) 0 total [] 8 (omega arith) (omega arith) refl in
    let there : 8 + 64 * (chunk_count total - 1) ≤ length outline = omega (arith, made.parents) in
    let each = fits outline chunks (of_outboard total) (of_slice total start len) total (start / 1024) (bare_len total start len) (covers_chunks total start len made.of_chunks) 0 total [] 8 in
    All-from_members (Fits outline (start / 1024) (bare_len total start len) chunks) (nodes total start len)
    (λ x h. All-member _ (nodes total start len) each x h 8 (omega arith) (outboard-WantsParents total) (Finds-all total) there)

-- how long the encoding is
made_length : (outline : List ℕ) (start len : ℕ) (chunks : List ℕ) → 8 ≤ length outline
    → length (beside_text outline start len chunks)
    ≡ 8 + (length (flat_map (node_beside outline (start / 1024) chunks) (nodes (claimed outline) start len)) + length (drop (bare_len (claimed outline) start len) chunks))
made_length outline start len chunks long = grind (arith, length-append, length-take-le)

-- no node's bytes are short where the encoding is as long as it is to be, and nothing follows
pub record IsWhole (outline : List ℕ) (start len : ℕ) (chunks : List ℕ) : Type 0 where
  pub sizes : AllByRecursion (λ node. length (node_beside outline (start / 1024) chunks node) ≡ size node) (nodes (claimed outline) start len)
  pub none : length (drop (bare_len (claimed outline) start len) chunks) ≡ 0

-- nor where the chunks are
pub whole-chunks : (outline : List ℕ) (start len : ℕ) (chunks : List ℕ) → IsMade outline start len chunks → length chunks ≡ bare_len (claimed outline) start len
    → IsWhole outline start len chunks
whole-chunks outline start len chunks made exact =
    let f : TreeNode → List ℕ = node_beside outline (start / 1024) chunks in
    let bare : ℕ = bare_len (claimed outline) start len in
    record {
      sizes = All-map (Fits outline (start / 1024) bare chunks) (λ node. length (f node) ≡ size node) (nodes (claimed outline) start len)
          (λ node fits. fits.whole (omega arith)) (made_fits outline start len chunks made);
      none = omega (arith, length-drop bare chunks);
    }

pub whole-text : (outline : List ℕ) (start len : ℕ) (chunks : List ℕ) → IsMade outline start len chunks
    → length (beside_text outline start len chunks) ≡ text_end (nodes (claimed outline) start len) → IsWhole outline start len chunks
whole-text outline start len chunks made ends =
    let f : TreeNode → List ℕ = node_beside outline (start / 1024) chunks in
    let ns : List TreeNode = nodes (claimed outline) start len in
    let bare : ℕ = bare_len (claimed outline) start len in
    let fits : AllByRecursion (Fits outline (start / 1024) bare chunks) ns = made_fits outline start len chunks made in
    let rest : length (drop bare chunks) ≡ length chunks - bare = length-drop bare chunks in
    let long : 8 ≤ length outline = omega (arith, made.parents) in
    let all : length (beside_text outline start len chunks) ≡ 8 + (length (flat_map f ns) + length (drop bare chunks)) = made_length outline start len chunks long in
    let sum : 8 + nodes_size ns ≡ 8 + (length (flat_map f ns) + length (drop bare chunks)) = sym ends ∙ all in
    elim (cases_lt (length chunks) bare) [
      | inl short ↦ record {
        sizes = flat-whole f ns (All-map (Fits outline (start / 1024) bare chunks) (λ node. length (f node) ≤ size node) ns (λ node fit. fit.most) fits) (omega arith);
        none = omega arith;
      }
      | inr enough ↦
          let sizes : AllByRecursion (λ node. length (f node) ≡ size node) ns =
          All-map (Fits outline (start / 1024) bare chunks) (λ node. length (f node) ≡ size node) ns (λ node fit. fit.whole enough) fits in
          record { sizes = sizes; none = omega (arith, flat-size f ns sizes) }
    ]

-- Then the encoding has at each place the bytes that are made for its node, and ends as it is to.
pub made-At : (outline : List ℕ) (start len : ℕ) (chunks : List ℕ) → 8 ≤ length outline
    → At (beside_text outline start len chunks) 8 (flat_map (node_beside outline (start / 1024) chunks) (nodes (claimed outline) start len))
made-At outline start len chunks long =
    record { before = take 8 outline; after = drop (bare_len (claimed outline) start len) chunks; whole = refl; place = length-take-le 8 outline long }

pub made-ends : (outline : List ℕ) (start len : ℕ) (chunks : List ℕ) → 8 ≤ length outline → IsWhole outline start len chunks
    → length (beside_text outline start len chunks) ≡ text_end (nodes (claimed outline) start len)
made-ends outline start len chunks long whole = search (arith, start, chunks, made_length, flat-size)

-- it claims the outline's length
pub made-claimed : (outline : List ℕ) (start len : ℕ) (chunks : List ℕ) → 8 ≤ length outline → claimed (beside_text outline start len chunks) ≡ claimed outline
made-claimed outline start len chunks long = grind (arith, take_at, length-take-le)

-- what stands at a place of such an encoding
pub record Stands (outline : List ℕ) (start len : ℕ) (chunks : List ℕ) (place : ℕ × TreeNode) : Type 0 where
  pub bytes : bytes_at (beside_text outline start len chunks) place ≡ node_beside outline (start / 1024) chunks place.1
  pub size_is : length (node_beside outline (start / 1024) chunks place.1) ≡ size place.1

pub whole-stands : (outline : List ℕ) (start len : ℕ) (chunks : List ℕ) → 8 ≤ length outline → IsWhole outline start len chunks
    → (place : ℕ × TreeNode) → Contains (places_of (nodes (claimed outline) start len)) place → Stands outline start len chunks place
whole-stands outline start len chunks long whole place there =
    let f : TreeNode → List ℕ = node_beside outline (start / 1024) chunks in
    let ns : List TreeNode = nodes (claimed outline) start len in
    record {
      bytes = flat-placed_nodes f (beside_text outline start len chunks) 8 ns whole.sizes (made-At outline start len chunks long) place there;
      size_is = All-member (λ p. length (f p.1) ≡ size p.1) (placed_nodes 8 ns) (placed_nodes-All (λ node. length (f node) ≡ size node) 8 ns whole.sizes) place there;
    }

pub beside-bytes : (outline : List ℕ) (start len : ℕ) (chunks : List ℕ) → IsMade outline start len chunks
    → length (beside_text outline start len chunks) ≡ text_end (nodes (claimed outline) start len)
    → (place : ℕ × TreeNode) → Contains (places_of (nodes (claimed outline) start len)) place → Stands outline start len chunks place
beside-bytes outline start len chunks made ends place there =
    whole-stands outline start len chunks (omega (arith, made.parents)) (whole-text outline start len chunks made ends) place there

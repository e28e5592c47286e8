-- Which nodes a piece has: those of the slice that it is of, and all of them where it is of the whole blob.
use Rattle.std.proofs.Common.{◌≡◌, ℕ, ◌+◌, ◌<◌, ◌≤◌, ◌==◌, ◌&&◌, true, List, [], ◌∷◌, map, Option, IsSome, None, Some, is_some, option_map, inl, inr, refl, sym, subst, ◌∙◌, arith, eq-eqb}
use Rattle.std.specs.Prelude.{Contains}
use Rattle.std.proofs.lemmas.Bool.{cases_Bool}
use Rattle.bao_text.specs.declared.choice.Choice.{Choice}
use Rattle.bao_text.specs.declared.walk.Node.{Node}
use Rattle.bao_text.specs.declared.walk.Node.TheVariants.{Chunk, Parent}
use Rattle.bao_text.specs.Choice.{chunk_count, of_slice}
use Rattle.bao_text.specs.NodeNames.{boundary, name, slice_names}
use Rattle.bao_text.specs.Nodes.{TreeNode, nodes, placed_nodes, size}
use Rattle.bao_check.specs.Parents.{is_parent_at, parent_in}
use Rattle.bao_check.specs.Pieces.{chunk_in}
use Rattle.bao_check.proofs.Descents.{parent_wanted}
use Rattle.bao_check.proofs.Lists.{All-member, Contains-cons_cases, Contains-head, Contains-tail}
use Rattle.bao_check.proofs.Locating.{IsInside, IsWithin, boundaries_inside, chunk_in-place, numbers_within}
use Rattle.bao_check.proofs.Parenting.{parent_in-some}
use Rattle.bao_check.proofs.Presence.{slice_present}
use Rattle.holders.specs.declared.piece.Piece.{Piece}
use Rattle.holders.specs.Pieces.{length_of, nodes_of, places_in}
use Rattle.determined_stores.specs.Serves.{HasNode, HasSliceOf}

-- an encoding has the node of this name among its nodes
abbrev HasIn : List ℕ → ℕ → List TreeNode → Node → Type 0
HasIn text at some (Chunk c) = is_some (chunk_in text (placed_nodes at some) c) ≡ true
HasIn text at some (Parent m) = is_some (parent_in text (placed_nodes at some) m) ≡ true

first_named : (text : List ℕ) (at : ℕ) (node : TreeNode) (rest : List TreeNode) → HasIn text at (node ∷ rest) (name node)
first_named text at node rest = elim (cases_Bool node.is_chunk) [
  | inl chunk ↦ rw chunk (rw (eq-eqb node.number node.number refl) refl)
  | inr parent ↦ rw parent (rw (eq-eqb (boundary node) (boundary node) refl) refl)
]

later_named : (text : List ℕ) (at : ℕ) (node : TreeNode) (rest : List TreeNode) (x : Node) → HasIn text (at + size node) rest x → HasIn text at (node ∷ rest) x
later_named text at node rest (Chunk c) has = elim (cases_Bool (node.is_chunk && (node.number == c))) [
  | inl it ↦ rw it refl
  | inr other ↦ rw other has
]
later_named text at node rest (Parent m) has = elim (cases_Bool (is_parent_at m node)) [
  | inl it ↦ rw it refl
  | inr other ↦ rw other has
]

named_there : (text : List ℕ) (at : ℕ) (some : List TreeNode) (x : Node) → Contains (map name some) x → HasIn text at some x
named_there text at [] x there = absurd (omega (arith, there.1))
named_there text at (node ∷ rest) x there = elim (Contains-cons_cases (map name rest) (name node) x there) [
  | inl same ↦ subst (λ (y : Node). HasIn text at (node ∷ rest) y) (sym same) (first_named text at node rest)
  | inr inner ↦ later_named text at node rest x (named_there text (at + size node) rest x inner)
]

-- a piece for a store that begins with the blob's first chunk
has_node : (piece : Piece) → piece.base ≡ 0 → (x : Node) → HasIn piece.text 8 (nodes_of piece) x → HasNode piece x
has_node piece first (Chunk c) has =
    let at : c ≡ piece.base + c = omega (arith, first) in
    subst (λ (n : ℕ). is_some (chunk_in piece.text (places_in piece) n) ≡ true) at has
has_node piece first (Parent m) has = has

-- the slice that it is of
pub own_slice : (piece : Piece) → piece.base ≡ 0 → HasSliceOf piece piece.start piece.len
own_slice piece first x there = has_node piece first x (named_there piece.text 8 (nodes_of piece) x there)

-- a name among names is a node's
unnamed : (some : List TreeNode) (x : Node) → Contains (map name some) x → (node : TreeNode) × (Contains some node × (x ≡ name node))
unnamed [] x there = absurd (omega (arith, there.1))
unnamed (node ∷ rest) x there = elim (Contains-cons_cases (map name rest) (name node) x there) [
  | inl same ↦ (node, (Contains-head rest node, same))
  | inr inner ↦ let found = unnamed rest x inner in (found.0, (Contains-tail rest node found.0 found.1.0, found.1.1))
]

-- the nodes of a slice of a blob: chunks of the blob, and parents at boundaries within it
pub each_node : (n start len : ℕ) (P : Node → Type 0) → ((c : ℕ) → c < chunk_count n → P (Chunk c)) → ((m : ℕ) → 0 < m → m < chunk_count n → P (Parent m))
    → (x : Node) → Contains (slice_names n start len) x → P x
each_node n start len P chunk parent x there =
    let found = unnamed (nodes n start len) x there in
    let node = found.0 in
    let within : IsWithin 0 (chunk_count n) node = All-member (IsWithin 0 (chunk_count n)) (nodes n start len) (numbers_within (of_slice n start len) 0 n [] 8) node found.1.0 in
    let named : P (name node) = elim (cases_Bool node.is_chunk) [
      | inl it ↦ rw it (chunk node.number (omega (arith, within.1)))
      | inr other ↦
          let inside = All-member (IsInside 0 (chunk_count n)) (nodes n start len) (boundaries_inside (of_slice n start len) 0 n [] 8) node found.1.0 other in
          rw other (parent (boundary node) (omega (arith, inside.0)) (omega (arith, inside.1)))
    ] in
    subst P (sym found.1.1) named

some_mapped : {X Y : Type 0} (f : X → Y) (o : Option X) → IsSome o → is_some (option_map f o) ≡ true
some_mapped f None is = is
some_mapped f (Some x) is = refl

-- all of a blob's nodes are of the slice of everything
module _ (text : List ℕ) (n len : ℕ) (all : n ≤ len) where
  abbrev whole : Choice
  whole = of_slice n 0 len

  chunk_of_whole : (c : ℕ) → c < chunk_count n → is_some (chunk_in text (placed_nodes 8 (nodes n 0 len)) c) ≡ true
  chunk_of_whole c below =
      subst (λ (o : Option (List ℕ)). is_some o ≡ true) (sym (chunk_in-place text (placed_nodes 8 (nodes n 0 len)) c))
      (some_mapped _ _ ((slice_present n 0 len 8 c).1 (omega arith, omega (arith, below, all))))

  parent_of_whole : (m : ℕ) → 0 < m → m < chunk_count n → is_some (parent_in text (placed_nodes 8 (nodes n 0 len)) m) ≡ true
  parent_of_whole m low high =
      parent_in-some text (placed_nodes 8 (nodes n 0 len)) m
      ∙ parent_wanted whole m (record { before = omega (arith, low, high, all); after = omega arith }) 0 n [] 8 8 low (omega (arith, high))

-- each slice
pub every_slice : (piece : Piece) → piece.base ≡ 0 → piece.start ≡ 0 → length_of piece ≤ piece.len → (start len : ℕ) → HasSliceOf piece start len
every_slice piece first begin all start len x there =
    let n : ℕ = length_of piece in
    has_node piece first x
    (subst (λ (from : ℕ). HasIn piece.text 8 (nodes n from piece.len) x) (sym begin)
    (each_node n start len (HasIn piece.text 8 (nodes n 0 piece.len)) (chunk_of_whole piece.text n piece.len all) (parent_of_whole piece.text n piece.len all) x there))

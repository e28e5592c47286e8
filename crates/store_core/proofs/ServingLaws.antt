-- A parent that a store holds is the blob's, and an encoding that it serves is the blob's slice, or a collision is exhibited.
use Rattle.std.proofs.lemmas.Bool.Decides.{nat_tests}
use Rattle.std.proofs.Common.{◌≡◌, ◌⊎◌, ℕ, ◌+◌, List, [], ◌∷◌, ◌++◌, length, map, Option, None, Some, refl, sym, ap, subst, ◌∙◌, arith, inl, inr}
use Rattle.std.specs.Prelude.{Contains}
use Rattle.std.specs.List.{flat_map}
use Rattle.std.proofs.lemmas.Bool.{cases_Bool}
use Rattle.b3tree.specs.Valid.{IsKeyed}
use Rattle.bao_text.specs.declared.walk.Node.{Node}
use Rattle.bao_text.specs.declared.walk.Node.TheVariants.{Chunk, Parent}
use Rattle.bao_text.specs.Choice.{of_slice}
use Rattle.bao_text.specs.NodeNames.{boundary, name, slice_names}
use Rattle.bao_text.specs.Nodes.{TreeNode, nodes}
use Rattle.bao_text.specs.Texts.{length_text, node_text, slice_text}
use Rattle.bao_text.proofs.Laws.{chosen_text-nodes}
use Rattle.bao_check.specs.Parents.{parent_of}
use Rattle.bao_check.specs.Pieces.{chunk_of}
use Rattle.bao_check.proofs.BlobNodes.{chunk_of-node, parent_of-boundary}
use Rattle.bao_check.proofs.Lists.{Contains-cons_cases, Contains-head, Contains-tail}
use Rattle.bao_check.proofs.NodeBinding.{parent_binds}
use Rattle.holders.specs.declared.fixed.Fixed.{Fixed}
use Rattle.store_core.specs.declared.history.Event.{Event}
use Rattle.holders.specs.declared.piece.Piece.{Piece}
use Rattle.store_core.specs.declared.history.Serving.{Serving}
use Rattle.store_core.specs.declared.history.Serving.TheVariants.{Text}
use Rattle.store_core.specs.Histories.{IsLegal, state_after}
use Rattle.store_core.specs.Laws.{CollisionOf, IsServed, IsSettled, IsStored, IsUsed, ParentHeldBinds, ServedBinds}
use Rattle.holders.specs.Blobs.{CollidesWith, IsBlob}
use Rattle.store_core.specs.Laws.IsUsed.{of_chunk, of_length, of_parent}
use Rattle.holders.specs.Pieces.{length_of}
use Rattle.store_core.specs.Serves.{after_bytes, node_and, node_held, served, serving_of}
use Rattle.store_core.specs.States.{State}
use Rattle.store_core.proofs.Bound.{held_binds, record_binds}
use Rattle.store_core.proofs.HasRoom.{base_recorded}
use Rattle.store_core.proofs.ParentOrigins.{parent_is_stored}

-- a piece that is used for some nodes is used for others
pub used_for : (fixed : Fixed) (history : List Event) (P Q : Node → Type 0) (piece : Piece) → ((node : Node) → P node → Q node) → IsUsed fixed history P piece → IsUsed fixed history Q piece
used_for fixed history P Q piece next (of_chunk c bytes from among is) = of_chunk c bytes from (next (Chunk c) among) is
used_for fixed history P Q piece next (of_length l from recorded is) = of_length l from recorded is
used_for fixed history P Q piece next (of_parent m bytes from among is) = of_parent m bytes from (next (Parent m) among) is

pub collision_for : (fixed : Fixed) (history : List Event) (blob : List ℕ) (P Q : Node → Type 0) → ((node : Node) → P node → Q node)
    → CollisionOf fixed history blob P → CollisionOf fixed history blob Q
collision_for fixed history blob P Q next k = record { piece = k.piece; used = used_for fixed history P Q k.piece next k.used; pair = k.pair }

-- from the piece by which the length was settled
by_length : (fixed : Fixed) (history : List Event) (blob : List ℕ) (P : Node → Type 0) (l : ℕ) → (state_after history).recorded ≡ Some l
    → (from : IsSettled fixed history l) → CollidesWith fixed blob from.piece → CollisionOf fixed history blob P
by_length fixed history blob P l recorded from pair = record { piece = from.piece; used = of_length l from recorded refl; pair = pair }

pub held_parent_binds : ParentHeldBinds
held_parent_binds fixed history blob m bytes keyed is legal h =
    let k : IsStored fixed history m bytes = parent_is_stored fixed history m bytes legal h in
    elim (record_binds fixed history blob (length_of k.piece) keyed is legal k.length_is) [
      | inr settled ↦ inr (by_length fixed history blob (λ node. node ≡ Parent m) (length_of k.piece) k.length_is settled.0 settled.1)
      | inl whole ↦
          elim (parent_binds fixed.mode fixed.root.0 k.piece.text blob k.piece.start k.piece.len m bytes keyed is.bytes k.accepted.bytes is.root k.accepted.accepted whole k.has) [
            | inl same ↦ inl same
            | inr named ↦ inr (record { piece = k.piece; used = of_parent m bytes k refl refl; pair = named })
          ]
    ]

-- what an encoding is put together of
pub after_text : (bytes text : List ℕ) (rest : Serving) → after_bytes bytes rest ≡ Text text → (more : List ℕ) × ((rest ≡ Text more) × (text ≡ bytes ++ more))
after_text bytes text rest h = grind (arith, nat_tests)

-- the node is held
module _ (fixed : Fixed) (history : List Event) (blob : List ℕ) (keyed : IsKeyed fixed.mode) (is : IsBlob fixed blob) (legal : IsLegal fixed history)
    (Among : Node → Type 0) where
  abbrev s : State
  s = state_after history

  -- what is held of a node is the blob's
  node_binds : fixed.base ≡ 0 → (start len : ℕ) (node : TreeNode) (bytes : List ℕ) → Contains (nodes (length blob) start len) node → Among (name node) → node_held s (name node) ≡ Some bytes
      → (bytes ≡ node_text fixed.mode blob node) ⊎ CollisionOf fixed history blob Among
  node_binds whole start len node bytes there among h = elim (cases_Bool node.is_chunk) [
    | inl chunk ↦
        let held : s.held node.number ≡ Some bytes = rw chunk at h in
        let own : chunk_of blob node.number ≡ Some (node_text fixed.mode blob node) = chunk_of-node fixed.mode blob (of_slice (length blob) start len) node there chunk in
        elim (held_binds fixed history blob node.number bytes keyed is legal held) [
          | inl same ↦
              let place : fixed.base + node.number ≡ node.number = omega (arith, whole) in
              let here : chunk_of blob node.number ≡ Some bytes = subst (λ (n : ℕ). chunk_of blob n ≡ Some bytes) place same in
              let e : Some bytes ≡ Some (node_text fixed.mode blob node) = sym here ∙ own in inl (cc)
          | inr named ↦ inr (record { piece = named.0.piece; used = of_chunk node.number bytes named.0 (rw chunk at among) refl; pair = named.1 })
        ]
    | inr parent ↦
        let held : s.parents (boundary node) ≡ Some bytes = rw parent at h in
        let own : parent_of fixed.mode blob (boundary node) ≡ Some (node_text fixed.mode blob node) =
        parent_of-boundary fixed.mode blob (of_slice (length blob) start len) node there parent in
        let own_among : Among (Parent (boundary node)) = rw parent at among in
        elim (held_parent_binds fixed history blob (boundary node) bytes keyed is legal held) [
          | inl same ↦ let e : Some bytes ≡ Some (node_text fixed.mode blob node) = sym same ∙ own in inl (cc)
          | inr named ↦ inr (collision_for fixed history blob (λ other. other ≡ Parent (boundary node)) Among (λ other same. subst Among (sym same) own_among) named)
        ]
  ]

  -- and so are the bytes of several
  one_binds : fixed.base ≡ 0 → (start len : ℕ) (node : TreeNode) (rest : List TreeNode) (text : List ℕ) (o : Option (List ℕ)) → Contains (nodes (length blob) start len) node → Among (name node)
      → ((more : List ℕ) → served s (map name rest) ≡ Text more → (more ≡ flat_map (node_text fixed.mode blob) rest) ⊎ CollisionOf fixed history blob Among)
      → node_held s (name node) ≡ o → node_and (name node) o (served s (map name rest)) ≡ Text text
      → (text ≡ flat_map (node_text fixed.mode blob) (node ∷ rest)) ⊎ CollisionOf fixed history blob Among
  one_binds whole start len node rest text None there among further e got = cc
  one_binds whole start len node rest text (Some bytes) there among further e got =
      let w = after_text bytes text (served s (map name rest)) got in
      elim (node_binds whole start len node bytes there among e) [
        | inr named ↦ inr named
        | inl same ↦
            elim (further w.0 w.1.0) [
              | inr named ↦ inr named
              | inl more ↦ inl (w.1.1 ∙ (λ i. same i ++ more i))
            ]
      ]

  nodes_bind : fixed.base ≡ 0 → (start len : ℕ) (some : List TreeNode) (text : List ℕ) → ((node : TreeNode) → Contains some node → Contains (nodes (length blob) start len) node)
      → ((node : TreeNode) → Contains some node → Among (name node)) → served s (map name some) ≡ Text text → (text ≡ flat_map (node_text fixed.mode blob) some) ⊎ CollisionOf fixed history blob Among
  nodes_bind whole start len [] text within among h = inl (cc)
  nodes_bind whole start len (node ∷ rest) text within among h =
      one_binds whole start len node rest text (node_held s (name node)) (within node (Contains-head rest node)) (among node (Contains-head rest node))
      (λ more got. nodes_bind whole start len rest more (λ x there. within x (Contains-tail rest node x there)) (λ x there. among x (Contains-tail rest node x there)) got) refl h

-- a node of the slice, by name
pub name_there : (some : List TreeNode) (node : TreeNode) → Contains some node → Contains (map name some) (name node)
name_there [] node there = absurd (omega (arith, there.1))
name_there (x ∷ rest) node there = elim (Contains-cons_cases rest x node there) [
  | inl same ↦ subst (λ (y : TreeNode). Contains (map name (x ∷ rest)) (name y)) (sym same) (Contains-head (map name rest) (name x))
  | inr inner ↦ Contains-tail (map name rest) (name x) (name node) (name_there rest node inner)
]

slice_binds : (fixed : Fixed) (history : List Event) (blob : List ℕ) (keyed : IsKeyed fixed.mode) (is : IsBlob fixed blob) (legal : IsLegal fixed history)
    (o : Option ℕ) → (state_after history).recorded ≡ o → (start len : ℕ) (text : List ℕ) → serving_of o (state_after history) start len ≡ Text text
    → (text ≡ slice_text fixed.mode blob start len) ⊎ CollisionOf fixed history blob (IsServed (state_after history) start len)
slice_binds fixed history blob keyed is legal None e start len text h = cc
slice_binds fixed history blob keyed is legal (Some l) e start len text h = elim (record_binds fixed history blob l keyed is legal e) [
  | inr settled ↦ inr (by_length fixed history blob (IsServed (state_after history) start len) l e settled.0 settled.1)
  | inl whole ↦
      let s : State = state_after history in
      let own : List TreeNode = nodes (length blob) start len in
      let w = after_text (length_text l) text (served s (slice_names l start len)) h in
      let got : served s (map name own) ≡ Text w.0 = subst (λ (n : ℕ). served s (slice_names n start len) ≡ Text w.0) whole w.1.0 in
      let among : (node : TreeNode) → Contains own node → IsServed s start len (name node) =
      (λ node there. (length blob, (e ∙ ap Some whole, name_there own node there))) in
      elim (nodes_bind fixed history blob keyed is legal (IsServed s start len) (base_recorded fixed history l legal e) start len own w.0 (λ x h. h) among got) [
        | inr named ↦ inr named
        | inl same ↦
            inl (w.1.1 ∙ (λ i. length_text (whole i) ++ same i) ∙ sym (chosen_text-nodes (of_slice (length blob) start len) fixed.mode blob))
      ]
]

pub served_nodes_bind : ServedBinds
served_nodes_bind fixed history blob start len text keyed is legal h = slice_binds fixed history blob keyed is legal (state_after history).recorded refl start len text h

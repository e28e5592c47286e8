-- An encoding that a store serves is accepted under its root, or two pieces that it is made of clash.
use Rattle.std.proofs.lemmas.Bool.Decides.{nat_tests, eqb_tells}
use Rattle.std.proofs.Common.{◌≡◌, ◌⊎◌, ℕ, ◌+◌, ◌-◌, ◌*◌, ◌/◌, ◌^◌, ◌<◌, ◌≤◌, Bool, true, false, List, [], ◌∷◌, ◌++◌, length, map, take, drop, Option, None, Some, refl, sym, ap, subst, ◌∙◌, arith, inl, inr}
use Rattle.std.specs.Prelude.{Contains}
use Rattle.std.specs.Int.{w64, from_le_bytes}
use Rattle.std.specs.List.{flat_map}
use Rattle.std.proofs.lemmas.List.{drop_at, take_at}
use Rattle.std.proofs.lemmas.List.Elements.{Contains-append_left, Contains-append_right}
use Rattle.std.proofs.lemmas.Nat.{from_le_bytes-to_le_bytes_8}
use Rattle.b3word.proofs.SameInput.{same_input}
use Rattle.b3tree.specs.declared.mode.Mode.{Mode}
use Rattle.b3tree.specs.Bytes.{words_of}
use Rattle.b3tree.specs.Tree.{left_len}
use Rattle.bao_text.specs.declared.choice.Choice.{Choice}
use Rattle.bao_text.specs.declared.walk.Node.{Node}
use Rattle.bao_text.specs.declared.walk.Node.TheVariants.{Parent}
use Rattle.bao_text.specs.Choice.{of_slice, wants}
use Rattle.bao_text.specs.Cut.{claimed}
use Rattle.bao_text.specs.NodeNames.{name, slice_names}
use Rattle.bao_text.specs.Nodes.{TreeNode, Side, left, nodes, right, subtree_nodes}
use Rattle.bao_text.specs.Texts.{length_text}
use Rattle.bao_text.proofs.Halves.{Far, Near, far_nodes, near_nodes}
use Rattle.bao_text.proofs.SubtreeNodes.{parent_node, subtree_nodes-parent}
use Rattle.bao_text.proofs.SubtreeText.{Parts}
use Rattle.bao_check.specs.Accepted.{IsAccepted, part_value, slice_nodes}
use Rattle.bao_check.specs.declared.asked.Asked.{Asked}
use Rattle.bao_check.specs.HasPart.{HasPart}
use Rattle.bao_check.specs.Inputs.{marked}
use Rattle.bao_check.specs.Parents.{parent_in}
use Rattle.bao_check.specs.Pieces.{chunk_in}
use Rattle.bao_check.proofs.BareFound.{claimed-small}
use Rattle.bao_check.proofs.Binding.{length-part_value}
use Rattle.bao_check.proofs.Forks.{Fork, Leaf, NoFork, fork_of, input_of, leaf_of, no_fork, part_whole}
use Rattle.bao_check.proofs.Lists.{Contains-cons_cases, Contains-head, Contains-tail}
use Rattle.bao_check.proofs.Marked.{SameParts, same_parts}
use Rattle.bao_check.proofs.EachNode.{chunk_node, leaf_nodes}
use Rattle.bao_check.proofs.NodesAsEncoding.{IsChunkMade, IsParentMade, made_accepted}
use Rattle.holders.specs.declared.fixed.Fixed.{Fixed}
use Rattle.store_core.specs.declared.history.Event.{Event}
use Rattle.holders.specs.declared.piece.Piece.{Piece}
use Rattle.store_core.specs.declared.history.Serving.TheVariants.{Text}
use Rattle.store_core.specs.Histories.{IsLegal, state_after}
use Rattle.store_core.specs.Laws.{IsCommitted, IsServed, IsSettled, IsStored, IsUsed, PiecesClash, ServedAccepted}
use Rattle.store_core.specs.Laws.IsUsed.{of_chunk, of_parent}
use Rattle.store_core.specs.Laws.PiecesClash.{of_lengths, of_parents}
use Rattle.holders.specs.Pieces.{IsAcceptedPiece, length_of, places_in}
use Rattle.store_core.specs.Serves.{node_and, node_held, served, serving_of}
use Rattle.store_core.specs.States.{State}
use Rattle.store_core.proofs.HasRoom.{base_recorded}
use Rattle.store_core.proofs.Origins.{held_is_committed, record_is_settled}
use Rattle.store_core.proofs.ParentOrigins.{parent_is_stored}
use Rattle.store_core.proofs.ServingLaws.{after_text, name_there}

-- a piece that a history used is accepted
used_accepted : (fixed : Fixed) (history : List Event) (P : Node → Type 0) (piece : Piece) → IsUsed fixed history P piece → IsAcceptedPiece fixed piece
used_accepted fixed history P piece h = grind (arith, nat_tests)

-- parents with one input have the same two values
record SameHalves (one other : List ℕ) : Type 0 where
  near : part_value left one ≡ part_value left other
  far : part_value right one ≡ part_value right other

same_halves : (top : Bool) (mode : Mode) (one other : List ℕ) → marked top (input_of mode one) ≡ marked top (input_of mode other) → SameHalves one other
same_halves top mode one other equal =
    let same : SameParts (input_of mode one) (input_of mode other) = same_parts top (input_of mode one) (input_of mode other) equal in
    let eight : length (part_value left one) ≡ 8 = length-part_value left one in
    let eight_other : length (part_value left other) ≡ 8 = length-part_value left other in
    record {
      near = sym (take_at (part_value left one) (part_value right one) 8 eight) ∙ ap (take 8) same.m ∙ take_at (part_value left other) (part_value right other) 8 eight_other;
      far = sym (drop_at (part_value left one) (part_value right one) 8 eight) ∙ ap (drop 8) same.m ∙ drop_at (part_value left other) (part_value right other) 8 eight_other;
    }

-- what is there, or nothing
abbrev bytes_or : Option (List ℕ) → List ℕ
bytes_or None = []
bytes_or (Some bytes) = bytes

module _ (s : State) where
  -- the bytes that are held of a node
  abbrev bytes : TreeNode → List ℕ
  bytes node = bytes_or (node_held s (name node))

  -- all of these are held
  abbrev AreHeld : List TreeNode → Type 0
  AreHeld some = (node : TreeNode) → Contains some node → node_held s (name node) ≡ Some (bytes node)

  -- what is served are the bytes of its nodes
  record Holds (some : List TreeNode) (text : List ℕ) : Type 0 where
    text_is : text ≡ flat_map bytes some
    held : AreHeld some

  one_held : (node : TreeNode) (rest : List TreeNode) (text : List ℕ) (o : Option (List ℕ)) → node_held s (name node) ≡ o
      → ((more : List ℕ) → served s (map name rest) ≡ Text more → Holds rest more) → node_and (name node) o (served s (map name rest)) ≡ Text text → Holds (node ∷ rest) text
  one_held node rest text o e further h = grind (arith, nat_tests, after_text, Contains-cons_cases)

  all_held : (some : List TreeNode) (text : List ℕ) → served s (map name some) ≡ Text text → Holds some text
  all_held [] text h = record { text_is = cc; held = λ node there. absurd (omega (arith, there.1)) }
  all_held (node ∷ rest) text h = one_held node rest text (node_held s (name node)) refl (λ more got. all_held rest more got) h

module _ (fixed : Fixed) (history : List Event) (legal : IsLegal fixed history) (l : ℕ) (recorded : (state_after history).recorded ≡ Some l) (start len : ℕ) where
  abbrev s : State
  s = state_after history

  abbrev choice : Choice
  choice = of_slice l start len

  abbrev Among : Node → Type 0
  Among = IsServed (state_after history) start len

  abbrev Clash : Type 0
  Clash = PiecesClash fixed history (IsServed (state_after history) start len)

  abbrev Used : Piece → Type 0
  Used piece = IsUsed fixed history (IsServed (state_after history) start len) piece

  abbrev Part : Bool → List ℕ → ℕ → ℕ → Piece → Type 0
  Part top value first n piece = HasPart fixed.mode (of_slice (length_of piece) piece.start piece.len) piece.text (places_in piece) top value first n

  settled : IsSettled fixed history l
  settled = record_is_settled fixed history l legal recorded

  -- each used piece that claims the length has the subtree under this value, or two clash
  abbrev AllHave : Bool → List ℕ → ℕ → ℕ → Type 0
  AllHave top value first n = (piece : Piece) → Used piece → length_of piece ≡ l → Part top value first n piece ⊎ Clash

  all_have_top : AllHave true (words_of 8 fixed.root.0) 0 l
  all_have_top = λ piece used claims.
      inl (subst (λ (n : ℕ). Part true (words_of 8 fixed.root.0) 0 n piece) claims
      (part_whole fixed.mode fixed.root.0 piece.text piece.start piece.len (used_accepted fixed history Among piece used).accepted))

  -- below a parent that is held
  module _ (top : Bool) (value : List ℕ) (first n : ℕ) (more : 1024 < n) (have : AllHave top value first n)
      (parent : List ℕ) (from : IsStored fixed history (first + left_len n / 1024) parent) (among : Among (Parent (first + left_len n / 1024)))
      (part : Part top value first n from.piece) where
    abbrev piece : Piece
    piece = from.piece

    fork : Fork part parent
    fork = fork_of fixed.mode (of_slice (length_of piece) piece.start piece.len) piece.text (places_in piece) top value first n part more parent from.has

    record BothParts (other : Piece) : Type 0 where
      near : Part false (part_value left parent) first (left_len n) other
      far : Part false (part_value right parent) (first + left_len n / 1024) (n - left_len n) other

    compared : (other : Piece) → Used other → (own : Part top value first n other) (o : Option (List ℕ)) → parent_in other.text (places_in other) (first + left_len n / 1024) ≡ o
        → BothParts other ⊎ Clash
    compared other other_used own None e =
        let gone : NoFork own = no_fork fixed.mode (of_slice (length_of other) other.start other.len) other.text (places_in other) top value first n own more e in
        inl (record { near = gone.near (part_value left parent); far = gone.far (part_value right parent) })
    compared other other_used own (Some its) e =
        let at : Fork own its = fork_of fixed.mode (of_slice (length_of other) other.start other.len) other.text (places_in other) top value first n own more its e in
        elim (same_input (marked top (input_of fixed.mode parent)) (marked top (input_of fixed.mode its))) [
          | inr differ ↦ inr (of_parents (first + left_len n / 1024) other among other_used (record {
            bytes = parent;
            from = from;
            its = its;
            has = e;
            top = top;
            pair = record { our = fork.input_there; their = at.input_there; differ = differ; same = fork.meets ∙ sym at.meets };
          }))
          | inl equal ↦
              let same : SameHalves parent its = same_halves top fixed.mode parent its equal in
              inl (record {
                near = subst (λ (v : List ℕ). Part false v first (left_len n) other) (sym same.near) at.near;
                far = subst (λ (v : List ℕ). Part false v (first + left_len n / 1024) (n - left_len n) other) (sym same.far) at.far;
              })
        ]

    all_have_near : AllHave false (part_value left parent) first (left_len n)
    all_have_near = λ other other_used claims. elim (have other other_used claims) [
      | inr clash ↦ inr clash
      | inl own ↦
          elim (compared other other_used own (parent_in other.text (places_in other) (first + left_len n / 1024)) refl) [ inl both ↦ inl both.near | inr clash ↦ inr clash ]
    ]

    all_have_far : AllHave false (part_value right parent) (first + left_len n / 1024) (n - left_len n)
    all_have_far = λ other other_used claims. elim (have other other_used claims) [
      | inr clash ↦ inr clash
      | inl own ↦
          elim (compared other other_used own (parent_in other.text (places_in other) (first + left_len n / 1024)) refl) [ inl both ↦ inl both.far | inr clash ↦ inr clash ]
    ]

  -- what is known of a subtree: each used piece has it, and its nodes are held and served
  record IsServedPart (asked : Asked) (first n : ℕ) (sides : List Side) (source : ℕ) : Type 0 where
    have : AllHave asked.top asked.value.0 first n
    held : AreHeld s (subtree_nodes choice first n sides source)
    among : (node : TreeNode) → Contains (subtree_nodes choice first n sides source) node → Among (name node)

  chunk_held : (asked : Asked) (first n : ℕ) (sides : List Side) (source : ℕ) → IsServedPart asked first n sides source → wants choice (1024 * first) n ≡ true → n ≤ 1024 → choice.chunks ≡ true
      → IsChunkMade (bytes s (chunk_node first n sides source)) asked fixed.mode first n ⊎ Clash
  chunk_held asked first n sides source is wanted one kept =
      let node : TreeNode = chunk_node first n sides source in
      let own : List ℕ = bytes s node in
      let there_node : Contains (subtree_nodes choice first n sides source) node =
      subst (λ (xs : List TreeNode). Contains xs node) (sym (leaf_nodes choice first n sides source wanted one kept)) (Contains-head [] node) in
      let from : IsCommitted fixed history first own = held_is_committed fixed history first own legal (is.held node there_node) in
      let piece : Piece = from.piece in
      let place : piece.base + first ≡ first = omega (arith, from.accepted.base, base_recorded fixed history l legal recorded) in
      let there : chunk_in piece.text (places_in piece) first ≡ Some own = subst (λ (k : ℕ). chunk_in piece.text (places_in piece) k ≡ Some own) place from.has in
      elim (eqb_tells (length_of piece) l) [
        | inr other ↦ inr (of_lengths first l own from settled (is.among node there_node) recorded (λ same. other.1 (same ∙ settled.is)))
        | inl claims ↦
            elim (is.have piece (of_chunk first own from (is.among node there_node) refl) claims.1) [
              | inr clash ↦ inr clash
              | inl part ↦
                  let leaf : Leaf fixed.mode asked.top asked.value.0 first n own =
                  leaf_of fixed.mode (of_slice (length_of piece) piece.start piece.len) piece.text (places_in piece) asked.top asked.value.0 first n part one own there in
                  inl (record { size = leaf.size; meets = leaf.meets })
            ]
      ]

  parent_held : (asked : Asked) (first n : ℕ) (sides : List Side) (source : ℕ) → IsServedPart asked first n sides source → wants choice (1024 * first) n ≡ true → 1024 < n → Parts n (left_len n)
      → IsParentMade (bytes s (parent_node first n sides source)) asked fixed.mode (λ a. Near (IsServedPart a) first n sides source) (λ a. Far (IsServedPart a) first n sides source) ⊎ Clash
  parent_held asked first n sides source is wanted more parts =
      let middle : ℕ = first + left_len n / 1024 in
      let near : List TreeNode = near_nodes choice first n sides source in
      let far : List TreeNode = far_nodes choice first n sides source in
      let own : TreeNode = parent_node first n sides source in
      let within : (node : TreeNode) → Contains (own ∷ (near ++ far)) node → Contains (subtree_nodes choice first n sides source) node =
      (λ node there. subst (λ (xs : List TreeNode). Contains xs node) (sym (subtree_nodes-parent choice first n sides source wanted more)) there) in
      let own_there : Contains (subtree_nodes choice first n sides source) own = within own (Contains-head (near ++ far) own) in
      let near_within : (node : TreeNode) → Contains near node → Contains (subtree_nodes choice first n sides source) node =
      (λ node there. within node (Contains-tail (near ++ far) own node (Contains-append_left near far node there))) in
      let far_within : (node : TreeNode) → Contains far node → Contains (subtree_nodes choice first n sides source) node =
      (λ node there. within node (Contains-tail (near ++ far) own node (Contains-append_right near far node there))) in
      let parent : List ℕ = bytes s own in
      let from : IsStored fixed history middle parent = parent_is_stored fixed history middle parent legal (is.held own own_there) in
      let own_among : Among (Parent middle) = is.among own own_there in
      let same_record : Some (length_of from.piece) ≡ Some l = sym from.length_is ∙ recorded in
      let claims : length_of from.piece ≡ l = cc in
      elim (is.have from.piece (of_parent middle parent from own_among refl) claims) [
        | inr clash ↦ inr clash
        | inl part ↦
            let at_parent : Fork part parent = fork asked.top asked.value.0 first n more is.have parent from own_among part in
            inl (record {
              size = at_parent.size;
              meets = at_parent.meets;
              in_near = record {
                have = all_have_near asked.top asked.value.0 first n more is.have parent from own_among part;
                held = λ node there. is.held node (near_within node there);
                among = λ node there. is.among node (near_within node there);
              };
              in_far = record {
                have = all_have_far asked.top asked.value.0 first n more is.have parent from own_among part;
                held = λ node there. is.held node (far_within node there);
                among = λ node there. is.among node (far_within node there);
              };
            })
      ]

  bound : l < 2 ^ 64
  bound = omega (arith, claimed-small settled.piece.text settled.accepted.bytes, settled.is)

  pub accepted_slice : (text more : List ℕ) → served s (slice_names l start len) ≡ Text more → text ≡ length_text l ++ more
      → IsAccepted fixed.mode fixed.root.0 text (slice_nodes text start len) ⊎ Clash
  accepted_slice text more got text_is =
      let own : List TreeNode = nodes l start len in
      let holds : Holds s own more = all_held s own more got in
      let rest : List ℕ = flat_map (bytes s) own in
      let whole : text ≡ length_text l ++ rest = text_is ∙ ap (λ (xs : List ℕ). length_text l ++ xs) holds.text_is in
      let claims : claimed text ≡ l =
      ap claimed whole ∙ ap (from_le_bytes w64) (take_at (length_text l) rest 8 refl) ∙ from_le_bytes-to_le_bytes_8 l bound in
      elim (made_accepted (bytes s) choice fixed.mode text Clash IsServedPart chunk_held parent_held fixed.root.0 (length_text l) l refl whole
      (record { have = all_have_top; held = holds.held; among = λ node there. (l, (recorded, name_there own node there)) })) [
        | inr clash ↦ inr clash
        | inl is ↦ inl (subst (λ (total : ℕ). IsAccepted fixed.mode fixed.root.0 text (nodes total start len)) (sym claims) is)
      ]

-- where a length is recorded
accepted_by : (fixed : Fixed) (history : List Event) (start len : ℕ) (text : List ℕ) → IsLegal fixed history → (o : Option ℕ) → (state_after history).recorded ≡ o
    → serving_of o (state_after history) start len ≡ Text text
    → IsAccepted fixed.mode fixed.root.0 text (slice_nodes text start len) ⊎ PiecesClash fixed history (IsServed (state_after history) start len)
accepted_by fixed history start len text legal None e h = cc
accepted_by fixed history start len text legal (Some l) e h =
    let w = after_text (length_text l) text (served (state_after history) (slice_names l start len)) h in
    accepted_slice fixed history legal l e start len text w.0 w.1.0 w.1.1

pub served_accepted : ServedAccepted
served_accepted fixed history start len text legal h = accepted_by fixed history start len text legal (state_after history).recorded refl h

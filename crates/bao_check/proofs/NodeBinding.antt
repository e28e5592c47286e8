-- An accepted encoding of a blob's length binds its nodes: each is the blob's, or a collision is exhibited.
use Rattle.std.proofs.Common.{◌≡◌, ◌⊎◌, ℕ, ◌+◌, ◌-◌, ◌*◌, ◌/◌, ◌<◌, ◌≤◌, None, Some, Bool, List, [], ◌∷◌, ◌++◌, length, take, drop, true, false, refl, sym, ap, subst, ◌∙◌, arith, inl, inr, length-drop}
use Rattle.std.specs.List.{AllByRecursion, Contains}
use Rattle.std.proofs.lemmas.Bool.{cases_Bool}
use Rattle.std.proofs.lemmas.List.{drop_at, length-take-le, take_all, take_at}
use Rattle.std.proofs.lemmas.List.Elements.{Contains-append_left}
use Rattle.b3word.specs.declared.input.Input.{Input}
use Rattle.b3word.specs.Compression.{cv}
use Rattle.b3word.proofs.Ranges.{length-cv}
use Rattle.b3tree.specs.declared.mode.Mode.{Mode}
use Rattle.b3tree.specs.Bytes.{bytes_of, words_of}
use Rattle.b3tree.specs.Chunk.{last_chunk_input}
use Rattle.b3tree.specs.Hashing.{hash, rooted}
use Rattle.b3tree.specs.Tree.{left_len, parent_input, subtree_cv, top_input}
use Rattle.b3tree.specs.Valid.{AreBytes, IsKeyed}
use Rattle.b3tree.proofs.BlockWords.{AreBytes-drop, AreBytes-take}
use Rattle.b3tree.proofs.Ranges.{words_of-hash}
use Rattle.b3tree.proofs.TopInput.{top_input-chunk}
use Rattle.bao_text.specs.declared.choice.Choice.{Choice}
use Rattle.bao_text.specs.Choice.{of_slice, wants}
use Rattle.bao_text.specs.Cut.{claimed}
use Rattle.bao_text.specs.Nodes.{TreeNode, Side, chosen_nodes, left, placed_nodes, right, subtree_nodes, subtree_size}
use Rattle.bao_text.specs.Texts.{node_text, parent_text}
use Rattle.bao_text.proofs.Halves.{Far, Near, by_halves}
use Rattle.bao_text.proofs.SubtreeNodes.{parent_node, subtree_nodes-unwanted}
use Rattle.bao_text.proofs.SubtreeText.{Parts}
use Rattle.bao_text.proofs.TextNodes.{length-span, span, span-left, span-right}
use Rattle.bao_check.specs.Accepted.{IsAccepted, bytes_at, part_value, places_of, slice_nodes}
use Rattle.bao_check.specs.HasPart.{asked_of}
use Rattle.bao_check.specs.Inputs.{NamesCollision, is_top, marked, text_inputs, whole_chunk}
use Rattle.bao_check.specs.Laws.{ParentBinds}
use Rattle.bao_check.specs.Parents.{is_parent_at, parent_in}
use Rattle.bao_check.specs.Walk.{AreGood}
use Rattle.bao_check.proofs.Binding.{left_there, length-part_value, parent_there, right_there, top_parent}
use Rattle.bao_check.proofs.BlobNodes.{parent_of-node}
use Rattle.bao_check.proofs.Certified.{is_top-below, text_inputs-far, text_inputs-near}
use Rattle.bao_check.proofs.ChunkBinding.{chunk_binds}
use Rattle.bao_check.proofs.Lists.{All-append, All-from_members, All-member, Contains-head, Contains-tail, nodes_size}
use Rattle.bao_check.proofs.Marked.{SameParts, same_parts}
use Rattle.bao_check.proofs.Naming.{Named, Named-within, same_or_named}
use Rattle.bao_check.proofs.ParentBytes.{parent_bytes}
use Rattle.bao_check.proofs.Parts.{AreGood-split, PartsGood, placed_nodes-All, placed_nodes-parent}
use Rattle.bao_check.proofs.SubtreeInputs.{blob_inputs-subtree, subtree_inputs, subtree_inputs-chunk, subtree_parent}
use Rattle.bao_check.proofs.EachNode.{chunk_node, leaf_nodes, leaf_without}

-- the bytes at each place are the blob's at its node
abbrev pub AreBlobs : Mode → List ℕ → List ℕ → List (ℕ × TreeNode) → Type 0
AreBlobs mode blob text places = AllByRecursion (λ place. bytes_at text place ≡ node_text mode blob place.1) places

-- or a collision is exhibited, from the subtree over s
abbrev pub Bound : Bool → Mode → List ℕ → List ℕ → ℕ → List ℕ → List (ℕ × TreeNode) → Type 0
Bound top mode blob s number text places = AreBlobs mode blob text places ⊎ Named (subtree_inputs top mode number s) (text_inputs mode text places)

-- a subtree's places are good under the value of the blob's subtree
abbrev pub Good : Bool → Mode → Choice → List ℕ → List ℕ → ℕ → ℕ → ℕ → List Side → ℕ → Type 0
Good top mode choice blob text at number n sides source =
    AreGood (asked_of top (cv (marked top (top_input mode number (span blob number n))))) sides mode text at (subtree_nodes choice number n sides source)

bound_none : (top : Bool) (mode : Mode) (choice : Choice) (blob s text : List ℕ) (at number n : ℕ) (sides : List Side) (source : ℕ) → subtree_nodes choice number n sides source ≡ []
    → Bound top mode blob s number text (placed_nodes at (subtree_nodes choice number n sides source))
bound_none top mode choice blob s text at number n sides source none = grind arith

-- a chunk alone
bound_chunk : (top : Bool) (mode : Mode) (blob text : List ℕ) (at number n : ℕ) (sides : List Side) (source : ℕ) → top ≡ is_top sides → AreBytes blob → AreBytes text
    → n ≤ 1024 → 1024 * number + n ≤ length blob
    → AreGood (asked_of top (cv (marked top (top_input mode number (span blob number n))))) sides mode text at (chunk_node number n sides source ∷ [])
    → Bound top mode blob (span blob number n) number text (placed_nodes at (chunk_node number n sides source ∷ []))
bound_chunk top mode blob text at number n sides source top_is hb ht one fits good =
    let s : List ℕ = span blob number n in
    let bytes : List ℕ = take n (drop at text) in
    let e : length s ≡ n = length-span blob number n fits in
    let small : length s ≤ 1024 = omega arith in
    let meets : cv (marked top (last_chunk_input mode number bytes)) ≡ cv (marked top (top_input mode number s)) = good.0.1.0 refl in
    let chunk : cv (marked top (top_input mode number s)) ≡ cv (marked top (last_chunk_input mode number s)) =
    ap (λ (x : Input). cv (marked top x)) (top_input-chunk mode number s small) in
    elim (chunk_binds top mode number number s bytes (AreBytes-take n (drop (1024 * number) blob) (AreBytes-drop (1024 * number) blob hb)) (AreBytes-take n (drop at text) (AreBytes-drop at text ht))
    (sym (meets ∙ chunk))) [
      | inl same ↦ inl (sym same.1, tt)
      | inr named ↦
          inr (rw (subtree_inputs-chunk top mode number s small)
          (Named-within (whole_chunk top mode number s) (whole_chunk top mode number bytes) (whole_chunk top mode number s) (text_inputs mode text (placed_nodes at (chunk_node number n sides source ∷ [])))
          (λ x h. h)
          (λ x h. Contains-append_left (whole_chunk (is_top sides) mode number bytes) [] x
          (subst (λ (t : Bool). Contains (whole_chunk t mode number bytes) x) top_is h))
          named))
    ]

bound_small : (top : Bool) (mode : Mode) (choice : Choice) (blob text : List ℕ) (at number n : ℕ) (sides : List Side) (source : ℕ) → top ≡ is_top sides → (choice.chunks ≡ true → AreBytes blob)
    → AreBytes text
    → n ≤ 1024 → 1024 * number + n ≤ length blob → Good top mode choice blob text at number n sides source
    → Bound top mode blob (span blob number n) number text (placed_nodes at (subtree_nodes choice number n sides source))
bound_small top mode choice blob text at number n sides source top_is hb ht one fits good =
    let s : List ℕ = span blob number n in
    elim (cases_Bool (wants choice (1024 * number) n)) [
      | inr skipped ↦ bound_none top mode choice blob s text at number n sides source (subtree_nodes-unwanted choice number n sides source skipped)
      | inl wanted ↦
          elim (cases_Bool choice.chunks) [
            | inr without ↦ bound_none top mode choice blob s text at number n sides source (leaf_without choice number n sides source wanted one without)
            | inl there ↦
                let node : subtree_nodes choice number n sides source ≡ chunk_node number n sides source ∷ [] = leaf_nodes choice number n sides source wanted one there in
                subst (λ (nodes : List TreeNode). Bound top mode blob s number text (placed_nodes at nodes)) (sym node)
                (bound_chunk top mode blob text at number n sides source top_is (hb there) ht one fits
                (subst (λ (nodes : List TreeNode). AreGood (asked_of top (cv (marked top (top_input mode number s)))) sides mode text at nodes) node good))
          ]
    ]

-- where a parent's input is the blob's, so are its two values and its bytes
pub record SameParent (mode : Mode) (number : ℕ) (s parent : List ℕ) : Type 0 where
  pub near : part_value left parent ≡ subtree_cv mode number (take (left_len (length s)) s)
  pub far : part_value right parent ≡ subtree_cv mode (number + left_len (length s) / 1024) (drop (left_len (length s)) s)
  pub bytes : parent ≡ parent_text mode number s

pub same_parent : (top : Bool) (mode : Mode) (number : ℕ) (s parent : List ℕ) → AreBytes parent → length parent ≡ 64
    → marked top (subtree_parent mode number s) ≡ marked top (parent_input mode (part_value left parent) (part_value right parent)) → SameParent mode number s parent
same_parent top mode number s parent bytes whole equal =
    let l : ℕ = left_len (length s) in
    let near : List ℕ = subtree_cv mode number (take l s) in
    let far : List ℕ = subtree_cv mode (number + l / 1024) (drop l s) in
    let same : SameParts (subtree_parent mode number s) (parent_input mode (part_value left parent) (part_value right parent)) =
    same_parts top (subtree_parent mode number s) (parent_input mode (part_value left parent) (part_value right parent)) equal in
    let ours : length near ≡ 8 = length-cv (top_input mode number (take l s)) in
    let theirs : length (part_value left parent) ≡ 8 = length-part_value left parent in
    let near_same : near ≡ part_value left parent = sym (take_at near far 8 ours) ∙ ap (take 8) same.m ∙ take_at (part_value left parent) (part_value right parent) 8 theirs in
    let far_same : far ≡ part_value right parent = sym (drop_at near far 8 ours) ∙ ap (drop 8) same.m ∙ drop_at (part_value left parent) (part_value right parent) 8 theirs in
    record {
      near = sym near_same;
      far = sym far_same;
      bytes = sym (parent_bytes parent bytes whole) ∙ (λ i. bytes_of (sym near_same i) ++ bytes_of (sym far_same i));
    }

-- Each subtree of an encoding whose places are good under the value of the blob's subtree has the blob's nodes, or a collision is exhibited.
module _ (mode : Mode) (choice : Choice) (blob text : List ℕ) (hb : choice.chunks ≡ true → AreBytes blob) (ht : AreBytes text) where
  abbrev Binds : ℕ → ℕ → List Side → ℕ → Type 0
  Binds number n sides source =
      (top : Bool) (at : ℕ) → top ≡ is_top sides → 1024 * number + n ≤ length blob → Good top mode choice blob text at number n sides source
      → Bound top mode blob (span blob number n) number text (placed_nodes at (subtree_nodes choice number n sides source))

  bind_parent : (number n : ℕ) (sides : List Side) (source : ℕ) → 1024 < n → Parts n (left_len n) → Near Binds number n sides source → Far Binds number n sides source
      → Binds number n sides source
  bind_parent number n sides source more parts in_near in_far top at top_is fits good = elim (cases_Bool (wants choice (1024 * number) n)) [
    | inr skipped ↦ bound_none top mode choice blob (span blob number n) text at number n sides source (subtree_nodes-unwanted choice number n sides source skipped)
    | inl wanted ↦
        let s : List ℕ = span blob number n in
        let e : length s ≡ n = length-span blob number n fits in
        let more_s : 1024 < length s = omega arith in
        let l : ℕ = left_len n in
        let le : left_len (length s) ≡ l = ap left_len e in
        let parent : List ℕ = take 64 (drop at text) in
        let near_nodes : List TreeNode = subtree_nodes choice number l (sides ++ left ∷ []) (source + 64) in
        let far_nodes : List TreeNode = subtree_nodes choice (number + l / 1024) (n - l) (sides ++ right ∷ []) (source + 64 + subtree_size l) in
        let near : List (ℕ × TreeNode) = placed_nodes (at + 64) near_nodes in
        let far : List (ℕ × TreeNode) = placed_nodes (at + 64 + nodes_size near_nodes) far_nodes in
        let here : ℕ × TreeNode = (at, parent_node number n sides source) in
        let asked = asked_of top (cv (marked top (top_input mode number s))) in
        let split : PartsGood asked sides mode text at near_nodes far_nodes = AreGood-split asked choice mode text at number n sides source wanted more good in
        let x : Input = subtree_parent mode number s in
        let y : Input = parent_input mode (part_value left parent) (part_value right parent) in
        let ours : List Input = subtree_inputs top mode number s in
        let theirs : List Input = text_inputs mode text (here ∷ (near ++ far)) in
        let meets : cv (marked top y) ≡ cv (marked top (top_input mode number s)) = split.meets in
        let own : cv (marked top (top_input mode number s)) ≡ cv (marked top x) = ap (λ (z : Input). cv (marked top z)) (top_parent mode number s more_s) in
        let y_there : Contains theirs (marked top y) =
        subst (λ (t : Bool). Contains theirs (marked t y)) (sym top_is) (Contains-head (text_inputs mode text (near ++ far)) (marked (is_top sides) y)) in
        let further : (z : Input) → Contains (text_inputs mode text (near ++ far)) z → Contains theirs z =
        (λ z h. Contains-tail (text_inputs mode text (near ++ far)) (marked (is_top sides) y) z h) in
        subst (λ (places : List (ℕ × TreeNode)). Bound top mode blob s number text places) (sym (placed_nodes-parent choice number n sides source at wanted more))
        (elim (same_or_named ours theirs (marked top x) (marked top y) (parent_there top mode number s more_s) y_there (sym (meets ∙ own))) [
          | inr named ↦ inr named
          | inl equal ↦
              let whole : length parent ≡ 64 = length-take-le 64 (drop at text) (omega (arith, split.there, length-drop at text)) in
              let same : SameParent mode number s parent = same_parent top mode number s parent (AreBytes-take 64 (drop at text) (AreBytes-drop at text ht)) whole equal in
              let near_cut : take (left_len (length s)) s ≡ span blob number l = ap (λ (k : ℕ). take k s) le ∙ span-left blob number n l (omega (arith, parts.below)) in
              let far_cut : drop (left_len (length s)) s ≡ span blob (number + l / 1024) (n - l) =
              ap (λ (k : ℕ). drop k s) le ∙ span-right blob number n l (omega (arith, parts.below)) parts.whole in
              let near_value : part_value left parent ≡ cv (top_input mode number (span blob number l)) = same.near ∙ ap (subtree_cv mode number) near_cut in
              let far_value : part_value right parent ≡ cv (top_input mode (number + l / 1024) (span blob (number + l / 1024) (n - l))) =
              same.far ∙ (λ i. subtree_cv mode (number + le i / 1024) (far_cut i)) in
              let near_bound = in_near false (at + 64) (is_top-below sides left) (omega (arith, parts.below))
              (subst (λ (v : List ℕ). AreGood (asked_of false v) (sides ++ left ∷ []) mode text (at + 64) near_nodes) near_value split.near_good) in
              let far_bound = in_far false (at + 64 + nodes_size near_nodes) (is_top-below sides right) (omega (arith, parts.whole, parts.below))
              (subst (λ (v : List ℕ). AreGood (asked_of false v) (sides ++ right ∷ []) mode text (at + 64 + nodes_size near_nodes) far_nodes) far_value split.far_good) in
              elim near_bound [
                | inr named ↦
                    inr (Named-within (subtree_inputs false mode number (span blob number l)) (text_inputs mode text near) ours theirs
                    (λ z h. left_there top mode number s more_s z (subst (λ (t : List ℕ). Contains (subtree_inputs false mode number t) z) (sym near_cut) h))
                    (λ z h. further z (text_inputs-near mode text near far z h)) named)
                | inl near_all ↦
                    elim far_bound [
                      | inr named ↦
                          inr (Named-within (subtree_inputs false mode (number + l / 1024) (span blob (number + l / 1024) (n - l))) (text_inputs mode text far) ours theirs
                          (λ z h. right_there top mode number s more_s z
                          (subst (λ (xs : List Input). Contains xs z) (λ i. subtree_inputs false mode (number + sym le i / 1024) (sym far_cut i)) h))
                          (λ z h. further z (text_inputs-far mode text near far z h)) named)
                      | inl far_all ↦ inl (same.bytes, All-append (λ place. bytes_at text place ≡ node_text mode blob place.1) near far near_all far_all)
                    ]
              ]
        ])
  ]

  pub binds : (number n : ℕ) (sides : List Side) (source : ℕ) → Binds number n sides source
  binds = by_halves Binds (λ number n sides source one top at top_is fits good. bound_small top mode choice blob text at number n sides source top_is hb ht one fits good) bind_parent

pub nodes_bind : (mode : Mode) (root text blob : List ℕ) (start len : ℕ) → IsKeyed mode → AreBytes blob → AreBytes text → hash mode blob ≡ root
    → IsAccepted mode root text (slice_nodes text start len) → claimed text ≡ length blob
    → AreBlobs mode blob text (places_of (slice_nodes text start len)) ⊎ NamesCollision mode blob text (places_of (slice_nodes text start len))
nodes_bind mode root text blob start len keyed hb ht is accepted whole =
    let all : span blob 0 (length blob) ≡ blob = take_all (length blob) blob (omega arith) in
    let words : words_of 8 root ≡ cv (rooted (top_input mode 0 (span blob 0 (length blob)))) =
    ap (words_of 8) (sym is) ∙ words_of-hash mode blob keyed ∙ ap (λ (s : List ℕ). cv (rooted (top_input mode 0 s))) (sym all) in
    let choice : Choice = of_slice (claimed text) start len in
    let good : AreGood (asked_of true (cv (rooted (top_input mode 0 (span blob 0 (length blob)))))) [] mode text 8 (subtree_nodes choice 0 (claimed text) [] 8) =
    subst (λ (v : List ℕ). AreGood (asked_of true v) [] mode text 8 (subtree_nodes choice 0 (claimed text) [] 8)) words accepted.good in
    let bound : Bound true mode blob (span blob 0 (length blob)) 0 text (placed_nodes 8 (subtree_nodes choice 0 (length blob) [] 8)) =
    binds mode choice blob text (λ _. hb) ht 0 (length blob) [] 8 true 8 refl (omega arith)
    (subst (λ (n : ℕ). AreGood (asked_of true (cv (rooted (top_input mode 0 (span blob 0 (length blob)))))) [] mode text 8 (subtree_nodes choice 0 n [] 8)) whole good) in
    elim (subst (λ (n : ℕ). Bound true mode blob (span blob 0 (length blob)) 0 text (placed_nodes 8 (subtree_nodes choice 0 n [] 8))) (sym whole) bound) [
      | inl same ↦ inl same
      | inr named ↦
          inr (rw (blob_inputs-subtree mode blob) (subst (λ (s : List ℕ). Named (subtree_inputs true mode 0 s) (text_inputs mode text (places_of (slice_nodes text start len)))) all named))
    ]

-- what an encoding has as a parent it has at the place of a node
record AtNode (mode : Mode) (blob text : List ℕ) (places : List (ℕ × TreeNode)) (m : ℕ) (bytes : List ℕ) : Type 0 where
  place : ℕ × TreeNode
  there : Contains places place
  is_parent : is_parent_at m place.1 ≡ true
  bytes_are : bytes ≡ node_text mode blob place.1

at_node : (mode : Mode) (blob text : List ℕ) (places : List (ℕ × TreeNode)) (m : ℕ) (bytes : List ℕ) → AreBlobs mode blob text places → parent_in text places m ≡ Some bytes
    → AtNode mode blob text places m bytes
at_node mode blob text [] m bytes all there = let none : None ≡ Some bytes = there in cc
at_node mode blob text (place ∷ places) m bytes all there = elim (cases_Bool (is_parent_at m place.1)) [
  | inl hit ↦
      let found : Some (bytes_at text place) ≡ Some bytes = rw hit at there in
      let same : bytes_at text place ≡ bytes = cc in
      record { place = place; there = Contains-head places place; is_parent = hit; bytes_are = sym same ∙ all.0 }
  | inr miss ↦
      let w : AtNode mode blob text places m bytes = at_node mode blob text places m bytes all.1 (rw miss at there) in
      record { place = w.place; there = Contains-tail places place w.place w.there; is_parent = w.is_parent; bytes_are = w.bytes_are }
]

-- a place is of a node
pub node_there : (at : ℕ) (nodes : List TreeNode) (place : ℕ × TreeNode) → Contains (placed_nodes at nodes) place → Contains nodes place.1
node_there at nodes place there =
    All-member (λ place. Contains nodes place.1) (placed_nodes at nodes) (placed_nodes-All (λ node. Contains nodes node) at nodes (All-from_members (λ node. Contains nodes node) nodes (λ x h. h))) place there

pub parent_binds : ParentBinds
parent_binds mode root text blob start len m bytes keyed hb ht is accepted whole there =
    let places : List (ℕ × TreeNode) = places_of (slice_nodes text start len) in
    elim (nodes_bind mode root text blob start len keyed hb ht is accepted whole) [
      | inr named ↦ inr named
      | inl all ↦
          let w : AtNode mode blob text places m bytes = at_node mode blob text places m bytes all there in
          let choice : Choice = of_slice (claimed text) start len in
          let member : Contains (chosen_nodes choice (claimed text)) w.place.1 = node_there 8 (slice_nodes text start len) w.place w.there in
          inl (parent_of-node mode blob choice m w.place.1 (subst (λ (n : ℕ). Contains (chosen_nodes choice n) w.place.1) whole member) w.is_parent ∙ ap Some (sym w.bytes_are))
    ]

-- A plain copy that is accepted beside an outboard encoding is the blob with the root, and the encoding is the blob's own.
use Rattle.std.proofs.Common.{◌≡◌, ◌∙◌, ℕ, ◌+◌, ◌-◌, ◌*◌, ◌/◌, ◌^◌, ◌<◌, ◌≤◌, max, min, List, [], ◌∷◌, ◌++◌, length, take, drop, true, false, None, Some, inl, inr, arith, refl, sym, subst, ap, length-append, length-drop, take-add}
use Rattle.std.specs.List.{AllByRecursion, Contains, flat_map}
use Rattle.std.proofs.lemmas.Bool.{cases_Bool}
use Rattle.std.proofs.lemmas.List.{drop-drop, drop_at, length-take-le, take-append-drop, take_all, take_at}
use Rattle.std.proofs.lemmas.List.Concat.{flat_map-append}
use Rattle.std.proofs.lemmas.List.Elements.{Contains-append_left, Contains-append_right}
use Rattle.std.proofs.lemmas.Nat.{le_bytes_8}
use Rattle.b3tree.specs.declared.mode.Mode.{Mode}
use Rattle.b3tree.specs.Hashing.{hash}
use Rattle.b3tree.specs.Pieces.{piece}
use Rattle.b3tree.specs.Tree.{left_len}
use Rattle.b3tree.specs.Valid.{AreBytes, IsKeyed}
use Rattle.b3tree.proofs.BlockWords.{AreBytes-take}
use Rattle.bao_text.specs.declared.choice.Choice.{Choice}
use Rattle.bao_text.specs.Choice.{chunk_count, of_combined, of_outboard, of_slice, slice_end, slice_start, wants}
use Rattle.bao_text.specs.Cut.{claimed}
use Rattle.bao_text.specs.Nodes.{TreeNode, Side, chosen_nodes, left, right, size, subtree_nodes, subtree_size}
use Rattle.bao_text.specs.Texts.{combined_text, length_text, node_text, outboard_text, slice_text}
use Rattle.bao_text.proofs.Everything.{wants_all}
use Rattle.bao_text.proofs.Halves.{by_halves, far_nodes, near_nodes}
use Rattle.bao_text.proofs.Laws.{chosen_text-nodes}
use Rattle.bao_text.proofs.SubtreeNodes.{parent_node, subtree_nodes-parent, subtree_nodes-unwanted}
use Rattle.bao_text.proofs.SubtreeText.{Parts}
use Rattle.bao_check.specs.Accepted.{IsAccepted, outboard_nodes, places_of, slice_nodes}
use Rattle.bao_check.specs.Bare.{bare_part}
use Rattle.bao_check.specs.Beside.{IsOfChunks, bare_len, beside_text, node_beside}
use Rattle.bao_check.specs.Decoded.{decoded}
use Rattle.bao_check.specs.Leaves.{WantsParents}
use Rattle.bao_check.specs.Pieces.{chunk_in}
use Rattle.bao_check.specs.Spans.{chunk_place}
use Rattle.bao_check.proofs.BareFound.{accepted-bare, bare-accepted, claimed-small}
use Rattle.bao_check.proofs.BesideBytes.{beside_bytes}
use Rattle.bao_check.proofs.BesidePieces.{StandBeside, chunk_beside, stand_beside}
use Rattle.bao_check.proofs.BesidePlaces.{Finds, Finds-all, Finds-far, Finds-near, IsOfChunks-counted, flat-size, made-claimed, parent-beside, whole-text}
use Rattle.bao_check.proofs.EachNode.{each_node, leaf_without}
use Rattle.bao_check.proofs.Lists.{All-from_members, All-member, Contains-head, Contains-tail, nodes_size}
use Rattle.bao_check.proofs.Locating.{chunk_in-place}
use Rattle.bao_check.proofs.Outlines.{far-WantsParents, near-WantsParents, outboard-WantsParents}
use Rattle.bao_check.proofs.Sizes.{nodes_size-without_chunks, wants_whole}
use Rattle.bao_check.proofs.Written.{claimed-chosen_text, outboard_accepted, slice_accepted}
use Rattle.bao_decode.specs.Copies.{IsCopyBeside}
use Rattle.bao_windows.proofs.Owning.{own_makes}
use Rattle.determined_texts.proofs.WholeEncodings.{blob_hash, text_is}
use Rattle.determined_program.proofs.NodeBytes.{all_same, each_same, exact, node_most}
use Rattle.determined_program.proofs.SliceBytes.{beginning, decoded_same, some_or}

-- each parent of an outboard encoding is one of the combined encoding
module _ (total : ℕ) where
  abbrev own : Choice
  own = of_outboard total

  abbrev all : Choice
  all = of_combined total

  abbrev IsThere : ℕ → ℕ → List Side → ℕ → TreeNode → Type 0
  IsThere number n sides source node = 1024 * number + n ≤ total → Contains (subtree_nodes all number n sides source) node

  abbrev nears : ℕ → ℕ → List Side → ℕ → List TreeNode
  nears number n sides source = near_nodes all number n sides source

  abbrev fars : ℕ → ℕ → List Side → ℕ → List TreeNode
  fars number n sides source = far_nodes all number n sides source

  parted : (number n : ℕ) (sides : List Side) (source : ℕ) → 1024 < n → 1024 * number + n ≤ total
      → subtree_nodes all number n sides source ≡ parent_node number n sides source ∷ (nears number n sides source ++ fars number n sides source)
  parted number n sides source more fits = subtree_nodes-parent all number n sides source (wants_all all (1024 * number) n refl (omega (arith, fits, more))) more

  each_there : AllByRecursion (IsThere 0 total [] 8) (chosen_nodes own total)
  each_there = each_node own IsThere
      (λ number n sides source wanted one kept fits. let bad : false ≡ true = kept in cc)
      (λ number n sides source wanted more parts fits.
      subst (λ (ns : List TreeNode). Contains ns (parent_node number n sides source)) (sym (parted number n sides source more fits))
      (Contains-head (nears number n sides source ++ fars number n sides source) (parent_node number n sides source)))
      (λ number n sides source wanted more parts x member h fits.
      subst (λ (ns : List TreeNode). Contains ns x) (sym (parted number n sides source more fits))
      (Contains-tail (nears number n sides source ++ fars number n sides source) (parent_node number n sides source) x
      (Contains-append_left (nears number n sides source) (fars number n sides source) x (h (omega (arith, fits, parts.below))))))
      (λ number n sides source wanted more parts x member h fits.
      subst (λ (ns : List TreeNode). Contains ns x) (sym (parted number n sides source more fits))
      (Contains-tail (nears number n sides source ++ fars number n sides source) (parent_node number n sides source) x
      (Contains-append_right (nears number n sides source) (fars number n sides source) x (h (omega (arith, fits, parts.whole, parts.below)))))) 0 total [] 8

-- an outboard encoding is its parents, one after another
module _ (outline copy : List ℕ) where
  abbrev choice : Choice
  choice = of_outboard (claimed outline)

  abbrev places : List (ℕ × TreeNode)
  places = places_of (outboard_nodes outline)

  abbrev Has : ℕ → ℕ → List Side → ℕ → Type 0
  Has number n sides source =
      (at : ℕ) → WantsParents choice number n → Finds places choice number n sides source at
      → take (64 * (chunk_count n - 1)) (drop at outline) ≡ flat_map (node_beside outline 0 copy) (subtree_nodes choice number n sides source)

  has_chunk : (number n : ℕ) (sides : List Side) (source : ℕ) → n ≤ 1024 → Has number n sides source
  has_chunk number n sides source one at has finds =
      let none : 64 * (chunk_count n - 1) ≡ 0 = omega (arith, one) in
      let empty : subtree_nodes choice number n sides source ≡ [] = elim (cases_Bool (wants choice (1024 * number) n)) [
        | inl wanted ↦ leaf_without choice number n sides source wanted one refl
        | inr skipped ↦ subtree_nodes-unwanted choice number n sides source skipped
      ] in
      ap (λ (k : ℕ). take k (drop at outline)) none ∙ sym (ap (λ (ns : List TreeNode). flat_map (node_beside outline 0 copy) ns) empty)

  has_parent : (number n : ℕ) (sides : List Side) (source : ℕ) → 1024 < n → Parts n (left_len n) → Has number (left_len n) (sides ++ left ∷ []) (source + 64)
      → Has (number + left_len n / 1024) (n - left_len n) (sides ++ right ∷ []) (source + 64 + subtree_size (left_len n)) → Has number n sides source
  has_parent number n sides source more parts near far at has finds =
      let l : ℕ = left_len n in
      let f : TreeNode → List ℕ = node_beside outline 0 copy in
      let near_count : ℕ = 64 * (chunk_count l - 1) in
      let far_count : ℕ = 64 * (chunk_count (n - l) - 1) in
      let count : 64 * (chunk_count n - 1) ≡ 64 + (near_count + far_count) = omega (arith, parts.whole, parts.some, parts.below) in
      let later : at + 64 + near_count ≡ at + 64 * (l / 1024) = omega (arith, parts.whole, parts.some) in
      let first : f (parent_node number n sides source) ≡ take 64 (drop at outline) = parent-beside outline copy 0 choice number n sides source at more has finds in
      let near_is = near (at + 64) (near-WantsParents choice number n more has) (Finds-near places choice number n sides source at more has finds) in
      let far_is = far (at + 64 * (l / 1024)) (far-WantsParents choice number n more has) (Finds-far places choice number n sides source at more has finds) in
      let cut : take (64 * (chunk_count n - 1)) (drop at outline) ≡ take 64 (drop at outline) ++ (take near_count (drop (at + 64) outline) ++ take far_count (drop (at + 64 * (l / 1024)) outline)) =
      ap (λ (k : ℕ). take k (drop at outline)) count ∙ take-add 64 (near_count + far_count) (drop at outline)
      ∙ ap (λ (xs : List ℕ). take 64 (drop at outline) ++ take (near_count + far_count) xs) (drop-drop 64 at outline)
      ∙ ap (λ (xs : List ℕ). take 64 (drop at outline) ++ xs)
      (take-add near_count far_count (drop (at + 64) outline)
      ∙ ap (λ (xs : List ℕ). take near_count (drop (at + 64) outline) ++ take far_count xs) (drop-drop near_count (at + 64) outline ∙ ap (λ (k : ℕ). drop k outline) later)) in
      cut ∙ (λ i. sym first i ++ (near_is i ++ far_is i))
      ∙ sym (ap (λ (ns : List TreeNode). flat_map f ns) (subtree_nodes-parent choice number n sides source (wants_whole choice (1024 * number) n has.start (omega (arith, has.end))) more)
      ∙ ap (λ (xs : List ℕ). f (parent_node number n sides source) ++ xs) (flat_map-append f (near_nodes choice number n sides source) (far_nodes choice number n sides source)))

  pub parents_are : take (64 * (chunk_count (claimed outline) - 1)) (drop 8 outline) ≡ flat_map (node_beside outline 0 copy) (outboard_nodes outline)
  parents_are = by_halves Has has_chunk has_parent 0 (claimed outline) [] 8 8 (outboard-WantsParents (claimed outline)) (Finds-all (claimed outline))

-- a copy with its outboard encoding
module _ (mode : Mode) (root outline copy : List ℕ) (beside : IsCopyBeside mode root outline copy) (valid : AreBytes outline) (copied : AreBytes copy) (key : AreBytes root) (length_is : length root ≡ 32) where
  abbrev sum : ℕ
  sum = claimed outline

  abbrev len : ℕ
  len = bare_part (chunk_count sum)

  abbrev text : List ℕ
  text = beside_text outline 0 len copy

  small : sum < 2 ^ 64
  small = claimed-small outline valid

  count : length copy ≡ sum
  count = omega (arith, beside.1.ends)

  slice : IsAccepted mode root text (slice_nodes text 0 len)
  slice = bare-accepted mode root outline copy 0 (chunk_count sum) beside.0 small (omega arith) (omega arith) beside.1

  claims : claimed text ≡ sum
  claims = made-claimed outline 0 len copy beside.0.long

  same_choice : (n : ℕ) → sum ≤ n → of_slice (claimed text) 0 n ≡ of_combined sum
  same_choice n enough =
      let first : slice_start (claimed text) 0 ≡ 0 = omega arith in
      let last : slice_end (claimed text) 0 n ≡ max sum 1 = omega (arith, claims, enough) in
      λ i. record { start = first i; end = last i; chunks = true }

  nodes_are : (n : ℕ) → sum ≤ n → slice_nodes text 0 n ≡ chosen_nodes (of_combined sum) sum
  nodes_are n enough = λ i. chosen_nodes (same_choice n enough i) (claims i)

  enough : sum ≤ len
  enough = omega (arith, small)

  whole : IsAccepted mode root text (slice_nodes text 0 (2 ^ 64 - 1))
  whole = subst (λ (ns : List TreeNode). IsAccepted mode root text ns) (nodes_are len enough ∙ sym (nodes_are (2 ^ 64 - 1) (omega (arith, small)))) slice

  each : AreBytes text
  each = beside_bytes outline 0 len copy valid copied

  stand : StandBeside outline 0 len copy
  stand = stand_beside mode mode root root outline 0 len copy (IsOfChunks-counted sum 0 (chunk_count sum) small (omega arith) (omega arith)) beside.0 slice

  -- its chunks are the copy's
  chunk_same : (k : ℕ) (bytes : List ℕ) → chunk_in text (places_of (slice_nodes text 0 len)) k ≡ Some bytes → bytes ≡ take (length bytes) (drop (1024 * k) copy)
  chunk_same k bytes there = elim (some_or (chunk_place (places_of (slice_nodes text 0 len)) k)) [
    | inl none ↦ let bad : None ≡ Some bytes = sym (chunk_in-place text (places_of (slice_nodes text 0 len)) k ∙ rw none refl) ∙ there in cc
    | inr found ↦
        let own : chunk_in text (places_of (slice_nodes text 0 len)) k ≡ Some (take found.0.len (drop (1024 * (k - 0 / 1024)) copy)) = chunk_beside outline 0 len copy stand k found.0 found.1 in
        let same : bytes ≡ take found.0.len (drop (1024 * (k - 0 / 1024)) copy) = cc in
        let at : 1024 * (k - 0 / 1024) ≡ 1024 * k = omega arith in
        beginning found.0.len bytes (drop (1024 * k) copy) (same ∙ ap (λ (j : ℕ). take found.0.len (drop j copy)) at)
  ]

  is_copy : decoded text 0 (2 ^ 64 - 1) ≡ copy
  is_copy =
      let low : 1024 * (slice_start (claimed text) 0 / 1024) ≡ 0 = omega arith in
      let end : slice_end (claimed text) 0 (2 ^ 64 - 1) ≡ max sum 1 = omega (arith, claims, small) in
      let size : min (claimed text) (1024 * ((slice_end (claimed text) 0 (2 ^ 64 - 1) + 1023) / 1024)) - 1024 * (slice_start (claimed text) 0 / 1024) ≡ length copy =
      omega (arith, low, end, claims, count) in
      decoded_same mode root text 0 (2 ^ 64 - 1) whole copy
      (subst (λ (ns : List TreeNode). (k : ℕ) → k < chunk_count (claimed text) → (bytes : List ℕ) → chunk_in text (places_of ns) k ≡ Some bytes → bytes ≡ take (length bytes) (drop (1024 * k) copy))
      (nodes_are len enough ∙ sym (nodes_are (2 ^ 64 - 1) (omega (arith, small)))) (λ k below. chunk_same k))
      ∙ (λ i. piece copy (low i) (size i)) ∙ take_all (length copy) copy (omega arith)

  pub copy_hash : hash mode copy ≡ root
  copy_hash = subst (λ (s : List ℕ). hash mode s ≡ root) is_copy (blob_hash mode root text each key length_is whole)

  written : text ≡ combined_text mode copy
  written = text_is mode root text each key length_is whole ∙ ap (combined_text mode) is_copy

  -- each node has the copy's own bytes
  nodes_same : AllByRecursion (λ node. node_beside outline 0 copy node ≡ node_text mode copy node) (chosen_nodes (of_combined sum) sum)
  nodes_same =
      let f : TreeNode → List ℕ = node_beside outline 0 copy in
      let g : TreeNode → List ℕ = node_text mode copy in
      let ns : List TreeNode = chosen_nodes (of_combined sum) sum in
      let choice_is : of_slice sum 0 len ≡ of_combined sum = ap (λ (n : ℕ). of_slice n 0 len) (sym claims) ∙ same_choice len enough in
      let own = whole-text outline 0 len copy (record { of_chunks = IsOfChunks-counted sum 0 (chunk_count sum) small (omega arith) (omega arith); parents = omega (arith, beside.0.ends) })
      (slice.ends ∙ ap (λ (n : ℕ). 8 + nodes_size (chosen_nodes (of_slice n 0 len) n)) claims) in
      let sizes : AllByRecursion (λ node. length (f node) ≡ size node) ns = subst (λ (c : Choice). AllByRecursion (λ node. length (f node) ≡ size node) (chosen_nodes c sum)) choice_is own.sizes in
      let eight : length (take 8 outline) ≡ 8 = length-take-le 8 outline beside.0.long in
      let ours : drop 8 text ≡ flat_map f ns ++ drop (bare_len sum 0 len) copy =
      drop_at (take 8 outline) (flat_map f (chosen_nodes (of_slice sum 0 len) sum) ++ drop (bare_len sum 0 len) copy) 8 eight
      ∙ ap (λ (c : Choice). flat_map f (chosen_nodes c sum) ++ drop (bare_len sum 0 len) copy) choice_is in
      let theirs : drop 8 text ≡ flat_map g ns =
      ap (λ (s : List ℕ). drop 8 s) (written ∙ chosen_text-nodes (of_combined (length copy)) mode copy)
      ∙ drop_at (length_text (length copy)) (flat_map g (chosen_nodes (of_combined (length copy)) (length copy))) 8 refl
      ∙ ap (λ (n : ℕ). flat_map g (chosen_nodes (of_combined n) n)) count in
      let both : flat_map f ns ++ drop (bare_len sum 0 len) copy ≡ flat_map g ns = sym ours ∙ theirs in
      let few : length (drop (bare_len sum 0 len) copy) ≡ 0 = own.none in
      let all : length (flat_map f ns) ≡ nodes_size ns = flat-size f ns sizes in
      let count : length (flat_map g ns) ≡ length (flat_map f ns) =
      omega (arith, ap (λ (xs : List ℕ). length xs) both, length-append (flat_map f ns) (drop (bare_len sum 0 len) copy), few) in
      let same : flat_map f ns ≡ flat_map g ns =
      sym (take_at (flat_map f ns) (drop (bare_len sum 0 len) copy) (length (flat_map f ns)) refl) ∙ ap (λ (xs : List ℕ). take (length (flat_map f ns)) xs) both
      ∙ take_all (length (flat_map f ns)) (flat_map g ns) (omega (arith, count)) in
      each_same f g ns sizes (exact g (node_most mode copy) ns (omega (arith, count, all))) same

  pub outline_is : outline ≡ outboard_text mode copy
  outline_is =
      let f : TreeNode → List ℕ = node_beside outline 0 copy in
      let g : TreeNode → List ℕ = node_text mode copy in
      let ns : List TreeNode = outboard_nodes outline in
      let sizes : nodes_size ns ≡ 64 * (chunk_count sum - 1) = nodes_size-without_chunks (of_outboard sum) 0 sum [] 8 (omega arith) (omega arith) refl in
      let rest : drop 8 outline ≡ flat_map f ns =
      sym (take_all (64 * (chunk_count sum - 1)) (drop 8 outline) (omega (arith, length-drop 8 outline, beside.0.ends, sizes))) ∙ parents_are outline copy in
      let same : AllByRecursion (λ node. f node ≡ g node) ns =
      All-from_members (λ node. f node ≡ g node) ns
      (λ node there. All-member (λ x. f x ≡ g x) (chosen_nodes (of_combined sum) sum) nodes_same node (All-member (IsThere sum 0 sum [] 8) ns (each_there sum) node there (omega arith))) in
      let head : take 8 outline ≡ length_text (length copy) = sym (le_bytes_8 (take 8 outline) (length copy) (length-take-le 8 outline beside.0.long) (AreBytes-take 8 outline valid).at count) in
      sym (take-append-drop 8 outline) ∙ (λ i. head i ++ (rest ∙ all_same f g ns same) i)
      ∙ ap (λ (n : ℕ). length_text (length copy) ++ flat_map g (chosen_nodes (of_outboard n) n)) (sym count) ∙ sym (chosen_text-nodes (of_outboard (length copy)) mode copy)

-- a blob is such a copy beside its own outboard encoding
pub own_copy : (mode : Mode) (blob : List ℕ) → IsKeyed mode → length blob < 2 ^ 64 → IsCopyBeside mode (hash mode blob) (outboard_text mode blob) blob
own_copy mode blob keyed short =
    let outline : List ℕ = outboard_text mode blob in
    let claims : claimed outline ≡ length blob = claimed-chosen_text (of_outboard (length blob)) mode blob short in
    let accepted : IsAccepted mode (hash mode blob) outline (outboard_nodes outline) = outboard_accepted mode blob keyed short in
    let len : ℕ = bare_part (chunk_count (claimed outline)) in
    let bare : bare_len (length blob) 0 len ≡ length blob = omega (arith, claims, short) in
    let made : beside_text outline 0 len blob ≡ slice_text mode blob 0 len =
    ap (λ (xs : List ℕ). beside_text outline 0 len xs) (sym (take_all (bare_len (length blob) 0 len) blob (omega (arith, bare))))
    ∙ own_makes mode blob 0 len keyed short (subst (λ (n : ℕ). IsOfChunks n 0 len) claims (IsOfChunks-counted (claimed outline) 0 (chunk_count (claimed outline)) (omega (arith, claims, short)) (omega arith) (omega arith))) in (
      accepted,
      accepted-bare mode (hash mode blob) outline blob 0 (chunk_count (claimed outline)) accepted (omega (arith, claims, short)) (omega arith) (omega arith)
          (subst (λ (s : List ℕ). IsAccepted mode (hash mode blob) s (slice_nodes s 0 len)) (sym made) (slice_accepted mode blob 0 len keyed short)),
    )

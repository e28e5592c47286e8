-- A slice of a blob is cut out of its outboard encoding and the blob.
use Rattle.std.proofs.Common.{◌≡◌, ℕ, ◌+◌, ◌-◌, ◌*◌, ◌/◌, ◌^◌, ◌<◌, ◌≤◌, max, List, [], ◌∷◌, ◌++◌, length, take, drop, true, Some, refl, sym, ap, subst, ◌∙◌, arith, length-append}
use Rattle.std.specs.Int.{w64, from_le_bytes}
use Rattle.std.specs.List.{flat_map}
use Rattle.std.proofs.lemmas.List.{append-nil, append_assoc, drop_at, take_all, take_at}
use Rattle.std.proofs.lemmas.List.Concat.{flat_map-append}
use Rattle.std.proofs.lemmas.Nat.{from_le_bytes-to_le_bytes_8}
use Rattle.b3tree.specs.declared.mode.Mode.{Mode}
use Rattle.b3tree.specs.Tree.{left_len}
use Rattle.bao_files.specs.Disks.{FileState, Stored, IsKnown, Puts}
use Rattle.bao_text.specs.declared.choice.Choice.{Choice}
use Rattle.bao_text.specs.Choice.{chunk_count, of_outboard, of_slice}
use Rattle.bao_text.specs.Cut.{claimed, cut_text}
use Rattle.bao_text.specs.Nodes.{Side, TreeNode, nodes, subtree_nodes, subtree_size}
use Rattle.bao_text.specs.Texts.{combined_text, length_text, node_text, outboard_text, parent_text, slice_text, subtree_text}
use Rattle.bao_text.proofs.Everything.{At, At_first, At_rest, length-parent_text, length-subtree_text, wants_all}
use Rattle.bao_text.proofs.Halves.{by_nodes, far_nodes, near_nodes}
use Rattle.bao_text.proofs.Laws.{chosen_text-nodes, cut_text-combined, length-combined_text}
use Rattle.bao_text.proofs.SubtreeNodes.{parent_node}
use Rattle.bao_text.proofs.TextNodes.{length-span, span, subtree_text-halves}
use Rattle.bao_check.proofs.EachNode.{chunk_node}
use Rattle.bao_decode.specs.Cutting.{IsCutOf}
use Rattle.bao_decode.specs.Weaving.{IsCutBeside, cut_beside, woven_nodes}
use Rattle.bao_decode.proofs.Openings.{stored_is}
use Rattle.bao_decode.proofs.Weavings.{text_long, woven_whole}

-- what is at a place is read there
at_taken : (text : List ℕ) (at k : ℕ) (x : List ℕ) → length x ≡ k → At text at x → take k (drop at text) ≡ x
at_taken text at k x size_is here =
    (λ i. take k (drop at (here.whole i))) ∙ ap (take k) (drop_at here.before (x ++ here.after) at here.place) ∙ take_at x here.after k size_is

module _ (mode : Mode) (blob outline : List ℕ) (choice : Choice) (chunks : choice.chunks ≡ true) where
  abbrev bare : Choice
  bare = of_outboard (length blob)

  -- Nodes of the subtree over n bytes from chunk `number` on, whose parents the outline has, have their own bytes of the blob's encodings.
  abbrev AreOwn : ℕ → ℕ → List Side → ℕ → List TreeNode → Type 0
  AreOwn number n sides at ns =
      1024 * number ≤ at → 1024 * number + n ≤ length blob → 1024 * number < max (length blob) 1 → At outline (at - 1024 * number) (subtree_text bare mode number (span blob number n))
      → (rest : List TreeNode) → woven_nodes outline blob (ns ++ rest) ≡ flat_map (node_text mode blob) ns ++ woven_nodes outline blob rest

  own_chunk : (number n : ℕ) (sides : List Side) (at : ℕ) → AreOwn number n sides at (chunk_node number n sides at ∷ [])
  own_chunk number n sides at low fits below here rest =
      woven_whole outline blob (chunk_node number n sides at) rest (omega (arith, length-span blob number n fits))
      ∙ ap (λ (b : List ℕ). b ++ woven_nodes outline blob rest) (sym (append-nil (span blob number n)))

  own_nodes : (number n : ℕ) (sides : List Side) (at : ℕ) → AreOwn number n sides at (subtree_nodes choice number n sides at)
  own_nodes = by_nodes choice AreOwn
      (λ number n sides at skipped low fits below here rest. refl)
      (λ number n sides at wanted one. rw chunks (own_chunk number n sides at))
      (λ number n sides at wanted more parts near far low fits below here rest.
      let l : ℕ = left_len n in
      let s : List ℕ = span blob number n in
      let e : length s ≡ n = length-span blob number n fits in
      let parent : List ℕ = parent_text mode number s in
      let a : List ℕ = subtree_text bare mode number (span blob number l) in
      let b : List ℕ = subtree_text bare mode (number + l / 1024) (span blob (number + l / 1024) (n - l)) in
      let near_fits : 1024 * number + l ≤ length blob = omega (arith, parts.below, fits) in
      let far_fits : 1024 * (number + l / 1024) + (n - l) ≤ length blob = omega (arith, parts.whole, parts.below, fits) in
      let far_below : 1024 * (number + l / 1024) < max (length blob) 1 = omega (arith, parts.whole, parts.below, fits) in
      let whole : At outline (at - 1024 * number) (parent ++ (a ++ b)) =
      subst (At outline (at - 1024 * number)) (subtree_text-halves number blob number n fits more bare mode (wants_all bare (1024 * number) n refl below)) here in
      let parent_len : length parent ≡ 64 = length-parent_text mode number s in
      let kids : At outline (at - 1024 * number + 64) (a ++ b) = At_rest outline (at - 1024 * number) 64 parent (a ++ b) parent_len whole in
      let span_len : length (span blob number l) ≡ l = length-span blob number l near_fits in
      let near_end : 1024 * number + length (span blob number l) ≤ max (length blob) 1 = omega (arith, span_len, near_fits) in
      let sized : length a ≡ 0 + 64 * (chunk_count (length (span blob number l)) - 1) =
      length-subtree_text (length (span blob number l)) bare mode number (span blob number l) (omega arith) refl below near_end in
      let count : chunk_count (length (span blob number l)) ≡ chunk_count l = ap chunk_count span_len in
      let near_len : length a ≡ 64 * (chunk_count l - 1) = omega (arith, sized, count) in
      let near_place : at - 1024 * number + 64 ≡ at + 64 - 1024 * number = omega (arith, low) in
      let far_place : at - 1024 * number + 64 + 64 * (chunk_count l - 1) ≡ at + 64 + subtree_size l - 1024 * (number + l / 1024) = omega (arith, low, parts.whole) in
      let ns : List TreeNode = near_nodes choice number n sides at in
      let fs : List TreeNode = far_nodes choice number n sides at in
      let own : List TreeNode → List ℕ = flat_map (node_text mode blob) in
      let near_is : woven_nodes outline blob (ns ++ (fs ++ rest)) ≡ own ns ++ woven_nodes outline blob (fs ++ rest) =
      near (omega (arith, low)) near_fits below (subst (λ (p : ℕ). At outline p a) near_place (At_first outline (at - 1024 * number + 64) a b kids)) (fs ++ rest) in
      let far_is : woven_nodes outline blob (fs ++ rest) ≡ own fs ++ woven_nodes outline blob rest =
      far (omega (arith, low, parts.whole)) far_fits far_below
      (subst (λ (p : ℕ). At outline p b) far_place (At_rest outline (at - 1024 * number + 64) (64 * (chunk_count l - 1)) a b near_len kids)) rest in
      let top : take 64 (drop (at - 1024 * number) outline) ≡ parent = at_taken outline (at - 1024 * number) 64 parent parent_len (At_first outline (at - 1024 * number) parent (a ++ b) whole) in
      let later : List ℕ = woven_nodes outline blob rest in
      let both : woven_nodes outline blob ((ns ++ fs) ++ rest) ≡ own (ns ++ fs) ++ later =
      ap (woven_nodes outline blob) (append_assoc ns fs rest) ∙ near_is ∙ ap (λ (x : List ℕ). own ns ++ x) far_is ∙ sym (append_assoc (own ns) (own fs) later)
      ∙ ap (λ (x : List ℕ). x ++ later) (sym (flat_map-append (node_text mode blob) ns fs)) in
      woven_whole outline blob (parent_node number n sides at) ((ns ++ fs) ++ rest) (omega (arith, ap length top, parent_len)) ∙ (λ i. top i ++ both i) ∙ sym (append_assoc parent (own (ns ++ fs)) later))

-- all of it
module _ (mode : Mode) (blob : List ℕ) where
  outline_begins : At (outboard_text mode blob) 8 (subtree_text (of_outboard (length blob)) mode 0 (span blob 0 (length blob)))
  outline_begins =
      let whole : span blob 0 (length blob) ≡ blob = take_all (length blob) blob (omega arith) in
      let first : List ℕ = length_text (length blob) in
      record {
        before = first;
        after = [];
        whole = (λ i. first ++ subtree_text (of_outboard (length blob)) mode 0 (sym whole i)) ∙ ap (λ (xs : List ℕ). first ++ xs) (sym (append-nil _));
        place = refl;
      }

  own_length : take 8 (outboard_text mode blob) ≡ length_text (length blob)
  own_length = take_at (length_text (length blob)) (subtree_text (of_outboard (length blob)) mode 0 blob) 8 refl

  pub cut_own : (start len : ℕ) → length blob < 2 ^ 64 → cut_beside (outboard_text mode blob) blob start len ≡ slice_text mode blob start len
  cut_own start len fits =
      let outline : List ℕ = outboard_text mode blob in
      let first : List ℕ = length_text (length blob) in
      let claims : claimed outline ≡ length blob = ap (from_le_bytes w64) own_length ∙ from_le_bytes-to_le_bytes_8 (length blob) fits in
      let choice : Choice = of_slice (length blob) start len in
      let ns : List TreeNode = nodes (length blob) start len in
      let long : 8 ≤ length outline = omega (arith, length-append first (subtree_text (of_outboard (length blob)) mode 0 blob)) in
      let own : woven_nodes outline blob (ns ++ []) ≡ flat_map (node_text mode blob) ns ++ [] =
      own_nodes mode blob outline choice refl 0 (length blob) [] 8 (omega arith) (omega arith) (omega arith) outline_begins [] in
      let all : woven_nodes outline blob ns ≡ flat_map (node_text mode blob) ns = ap (woven_nodes outline blob) (sym (append-nil ns)) ∙ own ∙ append-nil (flat_map (node_text mode blob) ns) in
      text_long (claimed outline) start len outline blob long
      ∙ (λ i. own_length i ++ woven_nodes outline blob (nodes (claims i) start len))
      ∙ ap (λ (xs : List ℕ). first ++ xs) all
      ∙ sym (chosen_text-nodes choice mode blob)

  -- what is written of a blob's own encodings is the blob's slice
  pub own_slice : (state : FileState) (start len : ℕ) (old new : List ℕ → FileState) (path text : List ℕ) → IsCutOf state start len text → state ≡ Stored (combined_text mode blob)
      → length (combined_text mode blob) < 2 ^ 64 → IsKnown (old path) → Puts old new path (Some text) → new path ≡ Stored (slice_text mode blob start len)
  own_slice state start len old new path text cut is fits known puts =
      let whole : cut.0 ≡ combined_text mode blob = stored_is state cut.0 (combined_text mode blob) is cut.1 in
      let small : length blob < 2 ^ 64 = omega (arith, fits, length-combined_text mode blob) in
      let short : length cut.0 < 2 ^ 64 = omega (arith, fits, ap length whole) in
      puts.put known ∙ ap Stored (cut.2 short ∙ ap (λ (s : List ℕ). cut_text s start len) whole ∙ cut_text-combined mode blob start len small)

  pub own_beside : (outboard copy : FileState) (start len : ℕ) (old new : List ℕ → FileState) (path text : List ℕ) → IsCutBeside outboard copy start len text
      → outboard ≡ Stored (outboard_text mode blob) → copy ≡ Stored blob → length (combined_text mode blob) < 2 ^ 63 → IsKnown (old path) → Puts old new path (Some text)
      → new path ≡ Stored (slice_text mode blob start len)
  own_beside outboard copy start len old new path text cut outboard_is copy_is fits known puts =
      let outline : cut.0 ≡ outboard_text mode blob = stored_is outboard cut.0 (outboard_text mode blob) outboard_is cut.2 in
      let bytes : cut.1 ≡ blob = stored_is copy cut.1 blob copy_is cut.3 in
      let small : length blob < 2 ^ 64 = omega (arith, fits, length-combined_text mode blob) in
      let both : IsKnown outboard = subst IsKnown (sym outboard_is) tt in
      let also : IsKnown copy = subst IsKnown (sym copy_is) tt in
      puts.put known ∙ ap Stored (cut.4 both also ∙ (λ i. cut_beside (outline i) (bytes i) start len) ∙ cut_own start len small)

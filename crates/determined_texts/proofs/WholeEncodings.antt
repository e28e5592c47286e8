-- An encoding that is accepted as that of a whole blob is the blob's: its bytes have the root as their hash.
use Rattle.std.proofs.Common.{◌≡◌, ℕ, ◌+◌, ◌-◌, ◌*◌, ◌/◌, ◌^◌, ◌<◌, ◌≤◌, max, List, [], ◌∷◌, ◌++◌, length, map, sum_by, take, drop, true, refl, sym, ap, subst, ◌∙◌, arith, length-append, length-drop, take-add}
use Rattle.std.proofs.lemmas.List.{drop-drop, drop_at, length-take-le, take_all, take_at, take-append-drop}
use Rattle.std.proofs.lemmas.Nat.{le_bytes_8}
use Rattle.b3word.specs.declared.input.Input.{Input}
use Rattle.b3word.specs.Compression.{cv, out}
use Rattle.b3tree.specs.declared.mode.Mode.{Mode}
use Rattle.b3tree.specs.Bytes.{bytes_of, words_of}
use Rattle.b3tree.specs.Hashing.{hash, rooted}
use Rattle.b3tree.specs.Tree.{IsLeftLen, left_len, parent_input, subtree_cv, top_input}
use Rattle.b3tree.specs.Valid.{AreBytes}
use Rattle.b3tree.proofs.Words.{bytes_of-take}
use Rattle.b3tree.proofs.BlockWords.{AreBytes-drop, AreBytes-take}
use Rattle.b3tree.proofs.LeftLen.{left_len-IsLeftLen}
use Rattle.b3tree.proofs.TopInput.{top_input-chunk, top_input-parent}
use Rattle.bao_text.specs.declared.choice.Choice.{Choice}
use Rattle.bao_text.specs.Choice.{of_combined, of_slice, wants}
use Rattle.bao_text.specs.Cut.{claimed}
use Rattle.bao_text.specs.Nodes.{Side, TreeNode, left, right, size, subtree_nodes, subtree_size}
use Rattle.bao_text.specs.Texts.{combined_text, length_text, subtree_text}
use Rattle.bao_text.proofs.Everything.{wants_all}
use Rattle.bao_text.proofs.Halves.{by_halves, far_nodes, near_nodes}
use Rattle.bao_text.proofs.SubtreeNodes.{subtree_size-parts}
use Rattle.bao_text.proofs.SubtreeText.{Parts, subtree_text-leaf, subtree_text-parent}
use Rattle.bao_check.specs.declared.asked.Asked.{Asked}
use Rattle.bao_check.specs.Accepted.{IsAccepted, part_value, slice_nodes}
use Rattle.bao_check.specs.Decoded.{Kind, chunk_bytes, decoded, kind, kinds_size, subtree_kinds}
use Rattle.bao_check.specs.Walk.{AreGood, Meets, asked_root}
use Rattle.bao_check.proofs.BareFound.{claimed-small}
use Rattle.bao_check.proofs.ChunkBytes.{chunk_bytes-chunk, chunk_bytes-parent, kinds-anywhere, kinds_size-chunk, kinds_size-nodes, kinds_size-parent}
use Rattle.bao_check.proofs.EachNode.{chunk_node, leaf_nodes}
use Rattle.bao_check.proofs.Lists.{nodes_size}
use Rattle.bao_check.proofs.ParentBytes.{bytes_of-words_of, parent_bytes}
use Rattle.bao_check.proofs.Parts.{AreGood-split, PartsGood, below}

module _ (mode : Mode) (choice : Choice) (text : List ℕ) (are : AreBytes text) (start : choice.start ≡ 0) (kept : choice.chunks ≡ true) where
  -- the bytes of the chunks of a subtree whose nodes begin at an offset
  abbrev its_bytes : ℕ → ℕ → ℕ → List ℕ
  its_bytes number n at = chunk_bytes (subtree_kinds choice number n) (drop at text)

  -- they are as many as the subtree has, have the value that is asked for, and the text has their encoding there
  pub record IsOwn (asked : Asked) (number n at : ℕ) : Type 0 where
    pub count : length (its_bytes number n at) ≡ n
    pub meets : Meets asked (top_input mode number (its_bytes number n at))
    pub encoded : take (subtree_size n) (drop at text) ≡ subtree_text choice mode number (its_bytes number n at)
    pub size : kinds_size (subtree_kinds choice number n) ≡ subtree_size n

  abbrev Owns : ℕ → ℕ → List Side → ℕ → Type 0
  Owns number n sides source =
      (asked : Asked) (at : ℕ) (way : List Side) (from : ℕ) → 1024 * number + max n 1 ≤ choice.end → AreGood asked way mode text at (subtree_nodes choice number n way from) → IsOwn asked number n at

  wanted : (number n : ℕ) → 1024 * number + max n 1 ≤ choice.end → wants choice (1024 * number) n ≡ true
  wanted number n within = wants_all choice (1024 * number) n start (omega (arith, within))

  own_chunk : (number n : ℕ) (sides : List Side) (source : ℕ) → n ≤ 1024 → Owns number n sides source
  own_chunk number n sides source one asked at way from within good =
      let want = wanted number n within in
      let own : AreGood asked way mode text at (chunk_node number n way from ∷ []) =
      subst (λ (xs : List TreeNode). AreGood asked way mode text at xs) (leaf_nodes choice number n way from want one kept) good in
      let bytes : its_bytes number n at ≡ take n (drop at text) = chunk_bytes-chunk choice number n (drop at text) want kept one in
      let count : length (take n (drop at text)) ≡ n = length-take-le n (drop at text) (omega (arith, own.0.0, length-drop at text)) in
      let size : subtree_size n ≡ n = omega (arith, one) in
      let all : length (its_bytes number n at) ≡ n = ap length bytes ∙ count in
      record {
        count = all;
        meets = subst (λ (s : List ℕ). Meets asked (top_input mode number s)) (sym bytes) (rw (top_input-chunk mode number (take n (drop at text)) (omega (arith, count, one))) (own.0.1.0 refl));
        encoded =
            ap (λ (k : ℕ). take k (drop at text)) size ∙ sym bytes
            ∙ sym (subtree_text-leaf choice mode number (its_bytes number n at) (subst (λ (k : ℕ). wants choice (1024 * number) k ≡ true) (sym all) want) (omega (arith, all, one)) ∙ rw kept refl);
        size = kinds_size-chunk choice number n want kept one ∙ sym size;
      }

  own_parent : (number n : ℕ) (sides : List Side) (source : ℕ) → 1024 < n → Parts n (left_len n) → Owns number (left_len n) (sides ++ left ∷ []) (source + 64)
      → Owns (number + left_len n / 1024) (n - left_len n) (sides ++ right ∷ []) (source + 64 + subtree_size (left_len n)) → Owns number n sides source
  own_parent number n sides source more parts near far asked at way from within good =
      let l : ℕ = left_len n in
      let middle : ℕ = number + l / 1024 in
      let want = wanted number n within in
      let split : PartsGood asked way mode text at (near_nodes choice number n way from) (far_nodes choice number n way from) = AreGood-split asked choice mode text at number n way from want more good in
      let parent : List ℕ = take 64 (drop at text) in
      let first : IsOwn (below left parent) number l (at + 64) = near (below left parent) (at + 64) (way ++ left ∷ []) (from + 64) (omega (arith, within, parts.whole, parts.below)) split.near_good in
      let near_size : nodes_size (near_nodes choice number n way from) ≡ subtree_size l =
      sym (kinds_size-nodes (near_nodes choice number n way from)) ∙ ap kinds_size (kinds-anywhere choice number l (way ++ left ∷ []) (from + 64)) ∙ first.size in
      let second : IsOwn (below right parent) middle (n - l) (at + 64 + subtree_size l) =
      far (below right parent) (at + 64 + subtree_size l) (way ++ right ∷ []) (from + 64 + subtree_size l) (omega (arith, within, parts.whole, parts.below, parts.some))
      (subst (λ (k : ℕ). AreGood (below right parent) (way ++ right ∷ []) mode text (at + 64 + k) (far_nodes choice number n way from)) near_size split.far_good) in
      let size_is : subtree_size n ≡ 64 + (subtree_size l + subtree_size (n - l)) = omega (arith, subtree_size-parts n more) in
      let s : List ℕ = its_bytes number n at in
      let near_bytes : List ℕ = its_bytes number l (at + 64) in
      let far_bytes : List ℕ = its_bytes middle (n - l) (at + 64 + subtree_size l) in
      let near_at : drop 64 (drop at text) ≡ drop (at + 64) text = drop-drop 64 at text in
      let far_at : drop (kinds_size (subtree_kinds choice number l)) (drop 64 (drop at text)) ≡ drop (at + 64 + subtree_size l) text =
      (λ i. drop (first.size i) (near_at i)) ∙ drop-drop (subtree_size l) (at + 64) text in
      let parted : s ≡ near_bytes ++ far_bytes =
      chunk_bytes-parent choice number n l (drop at text) want more refl ∙ (λ i. chunk_bytes (subtree_kinds choice number l) (near_at i) ++ chunk_bytes (subtree_kinds choice middle (n - l)) (far_at i)) in
      let count : length s ≡ n = ap length parted ∙ length-append near_bytes far_bytes ∙ omega (arith, first.count, second.count, parts.below) in
      let near_is : take l s ≡ near_bytes = ap (take l) parted ∙ take_at near_bytes far_bytes l first.count in
      let far_is : drop l s ≡ far_bytes = ap (drop l) parted ∙ drop_at near_bytes far_bytes l first.count in
      let near_value : subtree_cv mode number (take l s) ≡ part_value left parent = ap (subtree_cv mode number) near_is ∙ first.meets in
      let far_value : subtree_cv mode middle (drop l s) ≡ part_value right parent = ap (subtree_cv mode middle) far_is ∙ second.meets in
      let top : top_input mode number s ≡ parent_input mode (part_value left parent) (part_value right parent) =
      top_input-parent mode number s l (subst (λ (k : ℕ). IsLeftLen k l) (sym count) (left_len-IsLeftLen n more)) (omega (arith, count, more)) ∙ (λ i. parent_input mode (near_value i) (far_value i)) in
      let same : left_len (length s) ≡ l = ap left_len count in
      let own : bytes_of (part_value left parent) ++ bytes_of (part_value right parent) ≡ parent =
      parent_bytes parent (AreBytes-take 64 (drop at text) (AreBytes-drop at text are)) (length-take-le 64 (drop at text) (omega (arith, split.there, length-drop at text))) in
      let cut : take (subtree_size n) (drop at text) ≡ parent ++ (take (subtree_size l) (drop (at + 64) text) ++ take (subtree_size (n - l)) (drop (at + 64 + subtree_size l) text)) =
      ap (λ (k : ℕ). take k (drop at text)) size_is ∙ take-add 64 (subtree_size l + subtree_size (n - l)) (drop at text)
      ∙ ap (λ (xs : List ℕ). parent ++ take (subtree_size l + subtree_size (n - l)) xs) near_at ∙ ap (λ (xs : List ℕ). parent ++ xs) (take-add (subtree_size l) (subtree_size (n - l)) (drop (at + 64) text))
      ∙ ap (λ (xs : List ℕ). parent ++ (take (subtree_size l) (drop (at + 64) text) ++ take (subtree_size (n - l)) xs)) (drop-drop (subtree_size l) (at + 64) text) in
      let written : subtree_text choice mode number s ≡ parent ++ (take (subtree_size l) (drop (at + 64) text) ++ take (subtree_size (n - l)) (drop (at + 64 + subtree_size l) text)) =
      subtree_text-parent choice mode number s (subst (λ (k : ℕ). wants choice (1024 * number) k ≡ true) (sym count) want) (omega (arith, count, more))
      ∙ ap (λ (k : ℕ). (bytes_of (subtree_cv mode number (take k s)) ++ bytes_of (subtree_cv mode (number + k / 1024) (drop k s)))
      ++ (subtree_text choice mode number (take k s) ++ subtree_text choice mode (number + k / 1024) (drop k s))) same
      ∙ (λ i. (bytes_of (near_value i) ++ bytes_of (far_value i)) ++ (subtree_text choice mode number (near_is i) ++ subtree_text choice mode middle (far_is i)))
      ∙ (λ i. own i ++ (sym first.encoded i ++ sym second.encoded i)) in
      record {
        count = count;
        meets = subst (λ (x : Input). Meets asked x) (sym top) split.meets;
        encoded = cut ∙ sym written;
        size = kinds_size-parent choice number n l want more refl ∙ omega (arith, first.size, second.size, subtree_size-parts n more);
      }

  pub owns : (number n : ℕ) → Owns number n [] 0
  owns number n = by_halves Owns own_chunk own_parent number n [] 0

-- of a whole accepted encoding
module _ (mode : Mode) (root text : List ℕ) (are : AreBytes text) (key : AreBytes root) (length_is : length root ≡ 32)
    (accepted : IsAccepted mode root text (slice_nodes text 0 (2 ^ 64 - 1))) where
  abbrev total : ℕ
  total = claimed text

  abbrev all : Choice
  all = of_combined total

  abbrev blob : List ℕ
  blob = decoded text 0 (2 ^ 64 - 1)

  same_choice : of_slice total 0 (2 ^ 64 - 1) ≡ all
  same_choice =
      let small : total < 2 ^ 64 = claimed-small text are in
      let first : (of_slice total 0 (2 ^ 64 - 1)).start ≡ 0 = omega arith in
      let last : (of_slice total 0 (2 ^ 64 - 1)).end ≡ max total 1 = omega (arith, small) in
      λ i. record { start = first i; end = last i; chunks = true }

  good : AreGood (asked_root root) [] mode text 8 (subtree_nodes all 0 total [] 8)
  good = subst (λ (choice : Choice). AreGood (asked_root root) [] mode text 8 (subtree_nodes choice 0 total [] 8)) same_choice accepted.good

  own : IsOwn mode all text are refl refl (asked_root root) 0 total 8
  own = owns mode all text are refl refl 0 total (asked_root root) 8 [] 8 (omega arith) good

  blob_is : blob ≡ its_bytes mode all text are refl refl 0 total 8
  blob_is =
      ap (λ (choice : Choice). chunk_bytes (map kind (subtree_nodes choice 0 total [] 8)) (drop 8 text)) same_choice
      ∙ ap (λ (kinds : List Kind). chunk_bytes kinds (drop 8 text)) (kinds-anywhere all 0 total [] 8)

  pub blob_count : length blob ≡ total
  blob_count = ap length blob_is ∙ own.count

  pub blob_hash : hash mode blob ≡ root
  unfolding hash
  blob_hash =
      let meets : cv (rooted (top_input mode 0 blob)) ≡ words_of 8 root = ap (λ (s : List ℕ). cv (rooted (top_input mode 0 s))) blob_is ∙ own.meets in
      bytes_of-take 8 (out (rooted (top_input mode 0 blob))) ∙ ap bytes_of meets ∙ bytes_of-words_of 8 root key (omega (arith, length_is)) ∙ take_all 32 root (omega (arith, length_is))

  pub text_is : text ≡ combined_text mode blob
  text_is =
      let first : take 8 text ≡ length_text (length blob) = sym (le_bytes_8 (take 8 text) (length blob) (length-take-le 8 text accepted.long) (AreBytes-take 8 text are).at blob_count) in
      let nodes_are : sum_by size (slice_nodes text 0 (2 ^ 64 - 1)) ≡ subtree_size total =
      sym (kinds_size-nodes (slice_nodes text 0 (2 ^ 64 - 1))) ∙ ap (λ (choice : Choice). kinds_size (map kind (subtree_nodes choice 0 total [] 8))) same_choice
      ∙ ap kinds_size (kinds-anywhere all 0 total [] 8) ∙ own.size in
      let rest : drop 8 text ≡ subtree_text (of_combined (length blob)) mode 0 blob =
      sym (take_all (subtree_size total) (drop 8 text) (omega (arith, length-drop 8 text, accepted.ends, nodes_are))) ∙ own.encoded
      ∙ (λ i. subtree_text (of_combined (sym blob_count i)) mode 0 (sym blob_is i)) in
      sym (take-append-drop 8 text) ∙ (λ i. first i ++ rest i)

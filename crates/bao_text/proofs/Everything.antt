-- A choice of everything: the sizes of its encodings, and where a combined encoding has the bytes of each node.
use Rattle.std.proofs.Common.{◌≡◌, ℕ, zero, suc, ◌+◌, ◌-◌, ◌*◌, ◌/◌, ◌<◌, ◌≤◌, max, List, [], ◌∷◌, ◌++◌, length, take, drop, true, if◌then◌else◌, refl, sym, ap, ◌∙◌, arith, inl, inr, length-append, length-drop}
use Rattle.std.specs.List.{flat_map}
use Rattle.std.proofs.lemmas.Bool.{cases_Bool, cases_lt, le-leb}
use Rattle.std.proofs.lemmas.List.{append-nil, append_assoc, drop_at, length-take-le, take_all, take_at}
use Rattle.b3tree.specs.declared.Input.{Input}
use Rattle.b3tree.specs.declared.mode.Mode.{Mode}
use Rattle.b3tree.specs.Compression.{cv, out}
use Rattle.b3tree.specs.Tree.{left_len}
use Rattle.b3tree.proofs.HashOutput.{length-bytes_of, length-out}
use Rattle.bao_text.specs.declared.choice.Choice.{Choice}
use Rattle.bao_text.specs.Choice.{chunk_count, wants}
use Rattle.bao_text.specs.Cut.{cut_nodes, has, has_all}
use Rattle.bao_text.specs.Nodes.{TreeNode, Side, size, subtree_nodes, subtree_size}
use Rattle.bao_text.specs.Texts.{chunk_text, node_text, parent_text, subtree_text}
use Rattle.std.proofs.lemmas.List.Concat.{flat_map-append}
use Rattle.bao_text.proofs.Cutting.{cut_nodes-append, has_all-append}
use Rattle.bao_text.proofs.Halves.{by_nodes, far_nodes, near_nodes}
use Rattle.bao_text.proofs.SubtreeNodes.{parent_node, subtree_size-parts}
use Rattle.bao_text.proofs.SubtreeText.{Parts, left_len-Parts, subtree_text-leaf, subtree_text-parent, wants_from}
use Rattle.bao_text.proofs.TextNodes.{length-span, span, subtree_text-halves, subtree_text-nodes}

length-cv : (x : Input) → length (cv x) ≡ 8
length-cv x = length-take-le 8 (out x) (omega (arith, length-out x))

-- a parent's encoding has 64 bytes
pub length-parent_text : (mode : Mode) (first : ℕ) (s : List ℕ) → length (parent_text mode first s) ≡ 64
length-parent_text mode first s = omega (arith, length-append {A = ℕ}, length-bytes_of, length-cv)

-- all positions from 0 on are wanted
pub wants_all : (choice : Choice) (at n : ℕ) → choice.start ≡ 0 → at < choice.end → wants choice at n ≡ true
wants_all choice at n start below = wants_from choice at n (omega arith) below

-- the bytes of n that a choice's encoding has as chunks
abbrev pub chunk_part : Choice → ℕ → ℕ
chunk_part choice n = if choice.chunks then n else 0

chunk_part-parts : (choice : Choice) (l n : ℕ) → l ≤ n → chunk_part choice l + chunk_part choice (n - l) ≡ chunk_part choice n
chunk_part-parts choice l n le = elim (cases_Bool choice.chunks) [ inl there ↦ rw there (omega arith) | inr gone ↦ rw gone refl ]

length-chunk_text : (choice : Choice) (s : List ℕ) → length (chunk_text choice s) ≡ chunk_part choice (length s)
length-chunk_text choice s = elim (cases_Bool choice.chunks) [ inl there ↦ rw there refl | inr gone ↦ rw gone refl ]

size-small : (choice : Choice) (mode : Mode) (first : ℕ) (s : List ℕ) → length s ≤ 1024 → choice.start ≡ 0 → 1024 * first < choice.end
    → length (subtree_text choice mode first s) ≡ chunk_part choice (length s) + 64 * (chunk_count (length s) - 1)
size-small choice mode first s one start below =
    ap length (subtree_text-leaf choice mode first s (wants_all choice (1024 * first) (length s) start below) one) ∙ length-chunk_text choice s ∙ omega arith

pub length-subtree_text : (levels : ℕ) (choice : Choice) (mode : Mode) (first : ℕ) (s : List ℕ) → length s ≤ 1024 * levels + 1024
    → choice.start ≡ 0 → 1024 * first < choice.end → 1024 * first + length s ≤ choice.end
    → length (subtree_text choice mode first s) ≡ chunk_part choice (length s) + 64 * (chunk_count (length s) - 1)
length-subtree_text zero choice mode first s hs start below fits = size-small choice mode first s (omega arith) start below
length-subtree_text (suc levels) choice mode first s hs start below fits = elim (cases_lt 1024 (length s)) [
  | inr one ↦ size-small choice mode first s one start below
  | inl more ↦
      let n : ℕ = length s in
      let l : ℕ = left_len n in
      let parts : Parts n l = left_len-Parts n more in
      let near_len : length (take l s) ≡ l = length-take-le l s (omega (arith, parts.below)) in
      let far_len : length (drop l s) ≡ n - l = length-drop l s in
      let near = rw near_len at (length-subtree_text levels choice mode first (take l s) (omega (arith, parts.whole, parts.below)) start below (omega (arith, parts.below))) in
      let far_fits : 1024 * (first + l / 1024) + length (drop l s) ≤ choice.end = omega (arith, parts.whole, parts.below) in
      let far = rw far_len at (length-subtree_text levels choice mode (first + l / 1024) (drop l s) (omega (arith, parts.some)) start (omega (arith, parts.below)) far_fits) in
      let chunks = chunk_part-parts choice l n (omega (arith, parts.below)) in
      ap length (subtree_text-parent choice mode first s (wants_all choice (1024 * first) n start below) more)
      ∙ omega (arith, near, far, chunks, subtree_size-parts n more, length-append {A = ℕ}, length-parent_text mode first s)
]

-- how long the encoding of a whole blob is, for a choice of all positions
pub length-everything : (choice : Choice) (mode : Mode) (blob : List ℕ) → choice.start ≡ 0 → choice.end ≡ max (length blob) 1
    → length (subtree_text choice mode 0 blob) ≡ chunk_part choice (length blob) + 64 * (chunk_count (length blob) - 1)
length-everything choice mode blob start end = length-subtree_text (length blob) choice mode 0 blob (omega arith) start (omega arith) (omega arith)

-- the encoding has the bytes x from place `at` on
pub record At (text : List ℕ) (at : ℕ) (x : List ℕ) : Type 0 where
  pub before : List ℕ
  pub after : List ℕ
  pub whole : text ≡ before ++ (x ++ after)
  pub place : length before ≡ at

pub At_first : (text : List ℕ) (at : ℕ) (x y : List ℕ) → At text at (x ++ y) → At text at x
At_first text at x y h = record {
  before = h.before;
  after = y ++ h.after;
  whole = h.whole ∙ ap (λ (b : List ℕ). h.before ++ b) (append_assoc x y h.after);
  place = h.place;
}

pub At_rest : (text : List ℕ) (at n : ℕ) (x y : List ℕ) → length x ≡ n → At text at (x ++ y) → At text (at + n) y
At_rest text at n x y size h = record {
  before = h.before ++ x;
  after = h.after;
  whole = h.whole ∙ ap (λ (b : List ℕ). h.before ++ b) (append_assoc x y h.after) ∙ sym (append_assoc h.before x (y ++ h.after));
  place = length-append h.before x ∙ (λ i. h.place i + size i);
}

-- what is at a node's place is cut out whole
At_has : (text : List ℕ) (node : TreeNode) (x : List ℕ) → length x ≡ size node → At text node.source x → has text node ≡ true
At_has text node x len h = le-leb (node.source + size node) (length text) (omega (arith, ap length h.whole, length-append {A = ℕ}, h.place))

At_taken : (text : List ℕ) (node : TreeNode) (x : List ℕ) → length x ≡ size node → At text node.source x → take (size node) (drop node.source text) ≡ x
At_taken text node x len h = rw (h.whole, drop_at h.before (x ++ h.after) node.source h.place, take_at x h.after (size node) len) refl

-- an encoding with everything has each node of a choice at its place
module _ (all choice : Choice) (mode : Mode) (blob text : List ℕ) (start : all.start ≡ 0) (chunks : all.chunks ≡ true) (end : all.end ≡ max (length blob) 1) where
  -- of these nodes exactly their bytes are cut out
  abbrev IsCut : List TreeNode → Type 0
  IsCut nodes = (has_all text nodes ≡ true) × (cut_nodes text nodes ≡ flat_map (node_text mode blob) nodes)

  IsCut-first : (node : TreeNode) (rest : List TreeNode) → length (node_text mode blob node) ≡ size node → At text node.source (node_text mode blob node) → IsCut rest → IsCut (node ∷ rest)
  IsCut-first node rest len h is =
      let there : has text node ≡ true = At_has text node (node_text mode blob node) len h in
      (rw there is.0, rw there (λ i. At_taken text node (node_text mode blob node) len h i ++ is.1 i))

  nodes_cut : (number n : ℕ) (sides : List Side) (source : ℕ) → 1024 * number + n ≤ length blob → 1024 * number < all.end
      → At text source (subtree_text all mode number (span blob number n)) → IsCut (subtree_nodes choice number n sides source)
  nodes_cut = by_nodes choice
      (λ number n sides source nodes. 1024 * number + n ≤ length blob → 1024 * number < all.end → At text source (subtree_text all mode number (span blob number n)) → IsCut nodes)
      (λ number n sides source skipped fits below h. (refl, refl))
      (λ number n sides source wanted one fits below h.
      let s : List ℕ = span blob number n in
      let e : length s ≡ n = length-span blob number n fits in
      let leaf : subtree_text all mode number s ≡ s = subtree_text-leaf all mode number s (wants_all all (1024 * number) (length s) start below) (rw e one) ∙ rw chunks refl in
      let node : TreeNode = record { is_chunk = true; number = number; len = n; sides = sides; source = source } in
      elim (cases_Bool choice.chunks) [ inl there ↦ rw there (IsCut-first node [] e (rw leaf at h) (refl, refl)) | inr gone ↦ rw gone (refl, refl) ])
      (λ number n sides source wanted more parts in_near in_far fits below h.
      let l : ℕ = left_len n in
      let parent : List ℕ = parent_text mode number (span blob number n) in
      let a : List ℕ = subtree_text all mode number (span blob number l) in
      let b : List ℕ = subtree_text all mode (number + l / 1024) (span blob (number + l / 1024) (n - l)) in
      let near_fits : 1024 * number + l ≤ length blob = omega (arith, parts.below) in
      let here : At text source (parent ++ (a ++ b)) = rw (subtree_text-halves number blob number n fits more all mode (wants_all all (1024 * number) n start below)) at h in
      let parent_len : length parent ≡ 64 = length-parent_text mode number (span blob number n) in
      let kids : At text (source + 64) (a ++ b) = At_rest text source 64 parent (a ++ b) parent_len here in
      let span_len : length (span blob number l) ≡ l = length-span blob number l near_fits in
      let there : chunk_part all l ≡ l = rw chunks refl in
      let near_len : length a ≡ subtree_size l = length-subtree_text l all mode number (span blob number l) (omega arith) start below (omega arith) ∙ rw (span_len, there) refl in
      let near = in_near near_fits below (At_first text (source + 64) a b kids) in
      let far = in_far (omega (arith, parts.whole, parts.below)) (omega (arith, parts.whole, parts.below)) (At_rest text (source + 64) (subtree_size l) a b near_len kids) in
      let xs : List TreeNode = near_nodes choice number n sides source in
      let ys : List TreeNode = far_nodes choice number n sides source in
      IsCut-first (parent_node number n sides source) (xs ++ ys) parent_len (At_first text source parent (a ++ b) here)
      (has_all-append text xs ys near.0 ∙ far.0, cut_nodes-append text xs ys near.0 ∙ (λ i. near.1 i ++ far.1 i) ∙ sym (flat_map-append (node_text mode blob) xs ys)))

-- what is cut out of an encoding with everything is the encoding of what was chosen
pub cut_nodes-everything : (all choice : Choice) (mode : Mode) (blob before : List ℕ) → all.start ≡ 0 → all.chunks ≡ true → all.end ≡ max (length blob) 1
    → cut_nodes (before ++ subtree_text all mode 0 blob) (subtree_nodes choice 0 (length blob) [] (length before)) ≡ subtree_text choice mode 0 blob
cut_nodes-everything all choice mode blob before start chunks end =
    let text : List ℕ = before ++ subtree_text all mode 0 blob in
    let whole : span blob 0 (length blob) ≡ blob = take_all (length blob) blob (omega arith) in
    let here : At text (length before) (subtree_text all mode 0 (span blob 0 (length blob))) = record {
      before = before;
      after = [];
      whole = (λ i. before ++ subtree_text all mode 0 (sym whole i)) ∙ ap (λ (xs : List ℕ). before ++ xs) (sym (append-nil _));
      place = refl;
    } in
    (nodes_cut all choice mode blob text start chunks end 0 (length blob) [] (length before) (omega arith) (omega arith) here).1
    ∙ sym (subtree_text-nodes choice mode blob [] (length before))

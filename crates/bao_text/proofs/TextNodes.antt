-- The encodings are the bytes of their nodes, and a combined encoding has them all at their places.
use Rattle.std.proofs.Common.{true, ◌≡◌, ℕ, ◌+◌, ◌-◌, ◌*◌, ◌/◌, ◌<◌, ◌≤◌, List, ◌++◌, length, take, drop, refl, sym, ap, ◌∙◌, arith, inl, inr}
use Rattle.std.specs.List.{flat_map}
use Rattle.std.proofs.lemmas.Bool.{cases_Bool}
use Rattle.std.proofs.lemmas.List.{append-nil, drop-drop, take-take, take_all, drop-take}
use Rattle.std.proofs.lemmas.List.Concat.{flat_map-append}
use Rattle.b3tree.specs.declared.mode.Mode.{Mode}
use Rattle.b3tree.specs.Tree.{left_len}
use Rattle.b3tree.proofs.Pieces.{length-piece}
use Rattle.bao_text.specs.declared.choice.Choice.{Choice}
use Rattle.bao_text.specs.Choice.{wants}
use Rattle.bao_text.specs.Nodes.{Side, subtree_nodes}
use Rattle.bao_text.specs.Texts.{node_text, parent_text, subtree_text}
use Rattle.bao_text.proofs.Halves.{by_nodes}
use Rattle.bao_text.proofs.SubtreeText.{Parts, left_len-Parts, subtree_text-leaf, subtree_text-parent, subtree_text-unwanted}

-- the n bytes of a blob from chunk `number` on
abbrev pub span : List ℕ → ℕ → ℕ → List ℕ
span blob number n = take n (drop (1024 * number) blob)

pub length-span : (blob : List ℕ) (number n : ℕ) → 1024 * number + n ≤ length blob → length (span blob number n) ≡ n
length-span blob number n fits = length-piece blob (1024 * number) n fits

pub span-left : (blob : List ℕ) (number n l : ℕ) → l ≤ n → take l (span blob number n) ≡ span blob number l
span-left blob number n l le = take-take l n (drop (1024 * number) blob) le

pub span-right : (blob : List ℕ) (number n l : ℕ) → l ≤ n → 1024 * (l / 1024) ≡ l → drop l (span blob number n) ≡ span blob (number + l / 1024) (n - l)
span-right blob number n l le whole =
    let at : 1024 * (number + l / 1024) ≡ 1024 * number + l = omega arith in
    let back : l + (n - l) ≡ n = omega arith in
    rw (at, ← drop-drop l (1024 * number) blob, ← drop-take l (n - l) (drop (1024 * number) blob), back) refl

-- The encoding of a part of a blob, by those of its own two parts. Its chunks may be numbered from anywhere.
pub subtree_text-halves : (first : ℕ) (blob : List ℕ) (number n : ℕ) → 1024 * number + n ≤ length blob → 1024 < n → (choice : Choice) (mode : Mode) → wants choice (1024 * first) n ≡ true
    → subtree_text choice mode first (span blob number n)
    ≡ parent_text mode first (span blob number n)
    ++ (subtree_text choice mode first (span blob number (left_len n))
    ++ subtree_text choice mode (first + left_len n / 1024) (span blob (number + left_len n / 1024) (n - left_len n)))
subtree_text-halves first blob number n fits more choice mode wanted =
    let e : length (span blob number n) ≡ n = length-span blob number n fits in
    let parts : Parts n (left_len n) = left_len-Parts n more in
    let near = span-left blob number n (left_len n) (omega (arith, parts.below)) in
    let far = span-right blob number n (left_len n) (omega (arith, parts.below)) parts.whole in
    rw (subtree_text-parent choice mode first (span blob number n) (rw e wanted) (rw e more), e, near, far) refl

-- the encoding of a subtree is its nodes' bytes
text-nodes : (choice : Choice) (mode : Mode) (blob : List ℕ) (number n : ℕ) (sides : List Side) (source : ℕ) → 1024 * number + n ≤ length blob
    → subtree_text choice mode number (span blob number n) ≡ flat_map (node_text mode blob) (subtree_nodes choice number n sides source)
text-nodes choice mode blob = by_nodes choice
    (λ number n sides source nodes. 1024 * number + n ≤ length blob → subtree_text choice mode number (span blob number n) ≡ flat_map (node_text mode blob) nodes)
    (λ number n sides source skipped fits. subtree_text-unwanted choice mode number (span blob number n) (rw (length-span blob number n fits) skipped))
    (λ number n sides source wanted one fits.
    let e : length (span blob number n) ≡ n = length-span blob number n fits in
    let leaf = subtree_text-leaf choice mode number (span blob number n) (rw e wanted) (rw e one) in
    elim (cases_Bool choice.chunks) [ inl there ↦ rw (leaf, there) (sym (append-nil (span blob number n))) | inr gone ↦ rw (leaf, gone) refl ])
    (λ number n sides source wanted more parts near far fits.
    let in_near = near (omega (arith, parts.below)) in
    let in_far = far (omega (arith, parts.whole, parts.below)) in
    rw (flat_map-append (node_text mode blob))
    (subtree_text-halves number blob number n fits more choice mode wanted ∙ (λ i. parent_text mode number (span blob number n) ++ (in_near i ++ in_far i))))

pub subtree_text-nodes : (choice : Choice) (mode : Mode) (blob : List ℕ) (sides : List Side) (source : ℕ)
    → subtree_text choice mode 0 blob ≡ flat_map (node_text mode blob) (subtree_nodes choice 0 (length blob) sides source)
subtree_text-nodes choice mode blob sides source =
    let whole : span blob 0 (length blob) ≡ blob = take_all (length blob) blob (omega arith) in
    ap (subtree_text choice mode 0) (sym whole)
    ∙ text-nodes choice mode blob 0 (length blob) sides source (omega arith)

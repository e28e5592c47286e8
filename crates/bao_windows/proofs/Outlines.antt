-- An accepted outboard encoding that claims a blob's length is the blob's own, or a collision is exhibited.
use Rattle.std.proofs.Common.{◌≡◌, ℕ, ◌+◌, ◌≤◌, List, [], ◌∷◌, ◌++◌, length, take, drop, true, refl, sym, ap, subst, ◌∙◌, arith, inl, inr, length-take-le, take-append-drop}
use Rattle.std.specs.List.{AllByRecursion, flat_map}
use Rattle.std.proofs.lemmas.List.{drop-drop, drop_all, take_all}
use Rattle.std.proofs.lemmas.Nat.{le_bytes_8}
use Rattle.b3tree.specs.Compression.{cv}
use Rattle.b3tree.proofs.BlockWords.{AreBytes-take}
use Rattle.b3tree.proofs.Ranges.{words_of-hash}
use Rattle.b3tree.specs.Bytes.{words_of}
use Rattle.b3tree.specs.Hashing.{rooted}
use Rattle.b3tree.specs.Tree.{top_input}
use Rattle.b3tree.specs.Valid.{AreBytes}
use Rattle.bao_check.proofs.Lists.{nodes_size, nodes_size-cons}
use Rattle.bao_check.proofs.Naming.{Named}
use Rattle.bao_check.proofs.NodeBinding.{Bound, binds}
use Rattle.bao_check.proofs.SubtreeInputs.{blob_inputs-subtree, subtree_inputs}
use Rattle.bao_check.specs.Accepted.{IsAccepted, bytes_at, places_of}
use Rattle.bao_check.specs.HasPart.{asked_of}
use Rattle.bao_check.specs.Inputs.{NamesCollision, text_inputs}
use Rattle.bao_check.specs.Walk.{AreGood}
use Rattle.bao_text.proofs.Laws.{chosen_text-nodes}
use Rattle.bao_text.proofs.TextNodes.{span}
use Rattle.bao_text.specs.declared.choice.Choice.{Choice}
use Rattle.bao_text.specs.Choice.{of_outboard}
use Rattle.bao_text.specs.Cut.{claimed}
use Rattle.bao_text.specs.Nodes.{TreeNode, placed_nodes, size, subtree_nodes}
use Rattle.bao_text.specs.Texts.{length_text, node_text}
use Rattle.bao_windows.specs.Laws.{OutlineBinds}

-- bytes of which each place has what is made for its node are what is made for all of them
all_made : (f : TreeNode → List ℕ) (text : List ℕ) (at : ℕ) (ns : List TreeNode) → AllByRecursion (λ place. bytes_at text place ≡ f place.1) (placed_nodes at ns) → length text ≡ at + nodes_size ns
    → drop at text ≡ flat_map f ns
all_made f text at [] all ends = drop_all at text (omega (arith, ends))
all_made f text at (node ∷ ns) all ends =
    let rest : drop (at + size node) text ≡ flat_map f ns = all_made f text (at + size node) ns all.1 (omega (arith, ends, nodes_size-cons node ns)) in
    let after : drop (size node) (drop at text) ≡ flat_map f ns = drop-drop (size node) at text ∙ rest in
    sym (take-append-drop (size node) (drop at text)) ∙ (λ i. all.0 i ++ after i)

-- the first 8 bytes are the length that they claim
length_made : (text : List ℕ) (n : ℕ) → AreBytes text → 8 ≤ length text → claimed text ≡ n → take 8 text ≡ length_text n
length_made text n bytes long claims =
    sym (le_bytes_8 (take 8 text) n (length-take-le 8 text long) (λ i. (AreBytes-take 8 text bytes).at i) (sym claims))

pub outline_binds : OutlineBinds
outline_binds mode root text blob keyed hb ht is accepted whole =
    let n : ℕ = length blob in
    let choice : Choice = of_outboard n in
    let ns : List TreeNode = subtree_nodes choice 0 n [] 8 in
    let f : TreeNode → List ℕ = node_text mode blob in
    let all : span blob 0 n ≡ blob = take_all n blob (omega arith) in
    let words : words_of 8 root ≡ cv (rooted (top_input mode 0 (span blob 0 n))) =
    ap (words_of 8) (sym is) ∙ words_of-hash mode blob keyed ∙ ap (λ (s : List ℕ). cv (rooted (top_input mode 0 s))) (sym all) in
    let it : IsAccepted mode root text ns = subst (λ (total : ℕ). IsAccepted mode root text (subtree_nodes (of_outboard total) 0 total [] 8)) whole accepted in
    let good : AreGood (asked_of true (cv (rooted (top_input mode 0 (span blob 0 n))))) [] mode text 8 ns =
    subst (λ (v : List ℕ). AreGood (asked_of true v) [] mode text 8 ns) words it.good in
    let bound : Bound true mode blob (span blob 0 n) 0 text (placed_nodes 8 ns) =
    binds mode choice blob text (λ _. hb) ht 0 n [] 8 true 8 refl (omega arith) good in
    elim bound [
      | inl same ↦
          let tail : drop 8 text ≡ flat_map f ns = all_made f text 8 ns same it.ends in
          let head : take 8 text ≡ length_text n = length_made text n ht accepted.long whole in
          inl (sym (take-append-drop 8 text) ∙ (λ i. head i ++ tail i) ∙ sym (chosen_text-nodes choice mode blob))
      | inr named ↦
          inr (subst (λ (total : ℕ). NamesCollision mode blob text (places_of (subtree_nodes (of_outboard total) 0 total [] 8))) (sym whole)
          (rw (blob_inputs-subtree mode blob) (subst (λ (s : List ℕ). Named (subtree_inputs true mode 0 s) (text_inputs mode text (placed_nodes 8 ns))) all named)))
    ]

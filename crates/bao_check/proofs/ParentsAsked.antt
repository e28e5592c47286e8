-- What is asked of a parent of a subtree is asked of it in the part that has it.
use Rattle.std.proofs.Common.{◌≡◌, ℕ, ◌+◌, ◌-◌, ◌*◌, ◌/◌, ◌<◌, ◌≤◌, List, [], ◌∷◌, ◌++◌, length, take, drop, refl, sym, ap, subst, ◌∙◌, arith, length-drop}
use Rattle.std.proofs.lemmas.List.{drop-append-le, drop-take, length-take-le, take-append-le, take-take}
use Rattle.b3tree.specs.declared.mode.Mode.{Mode}
use Rattle.b3tree.specs.Tree.{left_len}
use Rattle.bao_text.specs.declared.choice.Choice.{Choice}
use Rattle.bao_text.specs.Nodes.{TreeNode, Side, left, placed_nodes, right, subtree_nodes, subtree_size}
use Rattle.bao_text.proofs.SubtreeNodes.{parent_node}
use Rattle.bao_check.specs.declared.asked.Asked.{Asked}
use Rattle.bao_check.specs.Leaves.{WantsParents}
use Rattle.bao_check.specs.Accepted.{input_at}
use Rattle.bao_check.specs.Verified.{AsksAt}
use Rattle.bao_check.specs.Walk.{IsAskedIn, IsGoodIn, Meets}
use Rattle.bao_check.proofs.Lists.{Contains-head, nodes_size}
use Rattle.bao_check.proofs.Outlines.{near-size}
use Rattle.bao_check.proofs.Parts.{IsPart, Tree, below, far_part, near_part, part_bad, part_good, placed_nodes-parent, subtree_Tree, top_bad, top_good}
use Rattle.bao_check.proofs.Sizes.{wants_whole}

-- a subtree whose parents the choice has
module _ (asked own : Asked) (mode : Mode) (text : List ℕ) (choice : Choice) (number n : ℕ) (sides : List Side) (source at k_at : ℕ)
    (more : 1024 < n) (has : WantsParents choice number n) where
  abbrev pub q : ℕ × TreeNode
  q = (at, parent_node number n sides source)

  abbrev pub near_nodes : List TreeNode
  near_nodes = subtree_nodes choice number (left_len n) (sides ++ left ∷ []) (source + 64)

  abbrev pub far_nodes : List TreeNode
  far_nodes = subtree_nodes choice (number + left_len n / 1024) (n - left_len n) (sides ++ right ∷ []) (source + 64 + subtree_size (left_len n))

  abbrev pub far_at : ℕ
  far_at = at + 64 + nodes_size near_nodes

  abbrev pub near : List (ℕ × TreeNode)
  near = placed_nodes (at + 64) near_nodes

  abbrev pub far : List (ℕ × TreeNode)
  far = placed_nodes far_at far_nodes

  tree : Tree sides q near far
  tree = subtree_Tree choice number n sides source at far_at

  places_are : placed_nodes at (subtree_nodes choice number n sides source) ≡ q ∷ (near ++ far)
  places_are = placed_nodes-parent choice number n sides source at (wants_whole choice (1024 * number) n has.start (omega (arith, has.end))) more

  whole : AsksAt asked sides mode text (q ∷ (near ++ far)) k_at own → AsksAt asked sides mode text (placed_nodes at (subtree_nodes choice number n sides source)) k_at own
  whole h = subst (λ (ps : List (ℕ × TreeNode)). AsksAt asked sides mode text ps k_at own) (sym places_are) h

  pub asks-here : k_at ≡ at → own ≡ asked → AsksAt asked sides mode text (placed_nodes at (subtree_nodes choice number n sides source)) k_at own
  asks-here here same = whole (record {
    place = q;
    there = Contains-head (near ++ far) q;
    at_is = sym here;
    is_parent = refl;
    good = λ fits meets. top_good asked sides mode text q near far tree (omega arith) (subst (λ (a : Asked). Meets a (input_at mode text q)) same meets);
    bad = λ wrong. top_bad asked sides mode text q (q ∷ (near ++ far)) tree.top (λ meets. wrong (subst (λ (a : Asked). Meets a (input_at mode text q)) (sym same) meets));
  })

  -- in a part
  asks-part : (d : Side) (places : List (ℕ × TreeNode)) → IsPart sides d (q ∷ (near ++ far)) q places → (half : Asked) → half ≡ below d (take 64 (drop at text))
      → AsksAt half (sides ++ d ∷ []) mode text places k_at own → AsksAt asked sides mode text (placed_nodes at (subtree_nodes choice number n sides source)) k_at own
  asks-part d places part half half_is h = whole (record {
    place = h.place;
    there = part.own_there h.place h.there;
    at_is = h.at_is;
    is_parent = h.is_parent;
    good = λ fits meets. part_good asked sides d mode text (q ∷ (near ++ far)) places q part h.place h.there
        (subst (λ (a : Asked). IsGoodIn a (sides ++ d ∷ []) mode text places h.place) half_is (h.good fits meets));
    bad = λ wrong. part_bad asked sides d mode text (q ∷ (near ++ far)) places q part h.place
        (λ is. h.bad wrong (subst (λ (a : Asked). IsAskedIn a (sides ++ d ∷ []) mode text places h.place) (sym half_is) is));
  })

  pub asks-near : (half : Asked) → half ≡ below left (take 64 (drop at text)) → AsksAt half (sides ++ left ∷ []) mode text near k_at own
      → AsksAt asked sides mode text (placed_nodes at (subtree_nodes choice number n sides source)) k_at own
  asks-near = asks-part left near (near_part sides q near far tree)

  pub asks-far : (half : Asked) → half ≡ below right (take 64 (drop at text))
      → AsksAt half (sides ++ right ∷ []) mode text (placed_nodes (at + 64 * (left_len n / 1024)) far_nodes) k_at own
      → AsksAt asked sides mode text (placed_nodes at (subtree_nodes choice number n sides source)) k_at own
  asks-far half half_is given =
      let e : at + 64 * (left_len n / 1024) ≡ far_at = omega (arith, near-size choice number n sides source more has) in
      asks-part right far (far_part sides q near far tree) half half_is
      (subst (λ (k : ℕ). AsksAt half (sides ++ right ∷ []) mode text (placed_nodes k far_nodes) k_at own) e given)

-- a parent's bytes are the same in an encoding that goes on otherwise after them
pub kept : (text more : List ℕ) (at end : ℕ) → at + 64 ≤ end → end ≤ length text → take 64 (drop at (take end text ++ more)) ≡ take 64 (drop at text)
kept text more at end fits there =
    let size : length (take end text) ≡ end = length-take-le end text there in
    let e : end ≡ at + (end - at) = omega arith in
    let cut : drop at (take end text) ≡ take (end - at) (drop at text) = ap (λ (n : ℕ). drop at (take n text)) e ∙ drop-take at (end - at) text in
    let cut_size : length (take (end - at) (drop at text)) ≡ end - at = length-take-le (end - at) (drop at text) (omega (arith, length-drop at text)) in
    ap (take 64) (drop-append-le at (take end text) more (omega arith) ∙ ap (λ (s : List ℕ). s ++ more) cut)
    ∙ take-append-le 64 (take (end - at) (drop at text)) more (omega arith)
    ∙ take-take 64 (end - at) (drop at text) (omega arith)

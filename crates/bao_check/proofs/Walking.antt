-- A walk through a subtree's nodes: its parent, its left part, its right part.
use Rattle.std.proofs.Common.{◌≡◌, ℕ, ◌+◌, ◌-◌, ◌*◌, ◌/◌, ◌<◌, ◌≤◌, List, [], ◌∷◌, ◌++◌, length, take, drop, true, refl, sym, ap, subst, ◌∙◌, arith}
use Rattle.std.specs.List.{Contains}
use Rattle.std.proofs.lemmas.List.Elements.{Contains-append_left}
use Rattle.std.proofs.lemmas.List.{append_assoc}
use Rattle.b3tree.specs.declared.mode.Mode.{Mode}
use Rattle.b3tree.specs.Tree.{left_len}
use Rattle.bao_text.specs.declared.choice.Choice.{Choice}
use Rattle.bao_text.specs.Choice.{wants}
use Rattle.bao_text.specs.Nodes.{TreeNode, Side, left, placed_nodes, right, subtree_nodes, subtree_size}
use Rattle.bao_text.proofs.SubtreeNodes.{parent_node}
use Rattle.bao_check.specs.declared.asked.Asked.{Asked}
use Rattle.bao_check.specs.declared.fault.CheckFault.{CheckFault}
use Rattle.bao_check.specs.declared.fault.CheckFault.TheVariants.{Short, Mismatch, Trailing, Memory, Reader}
use Rattle.bao_check.specs.Accepted.{bytes_at, end_of, input_at}
use Rattle.bao_check.specs.Walk.{AreGood, IsGoodIn, IsStop, IsTopStop, Meets, Passes, Stops, chunk_at, parent_at}
use Rattle.bao_check.proofs.EachNode.{chunk_node, leaf_nodes}
use Rattle.bao_check.proofs.Lists.{All-append, All-from_members, All-member, nodes_size, nodes_size-cons}
use Rattle.bao_check.proofs.Sizes.{nodes_size-parts}
use Rattle.bao_check.proofs.Parts.{AreGood-join, IsPart, Tree, below, far_part, near_part, part_bad, part_good, placed_nodes-parent, subtree_Tree, top_bad, top_good}

-- a walk that ends at the first place
top_stop : (asked : Asked) (sides : List Side) (mode : Mode) (text : List ℕ) (q : ℕ × TreeNode) (others : List (ℕ × TreeNode)) → q.1.sides ≡ sides
    → (fault : CheckFault) → IsTopStop asked (input_at mode text q) text q.0 (end_of q) fault → IsStop asked sides mode text (q ∷ others) q fault
top_stop asked sides mode text q others top (Short at) h = h
top_stop asked sides mode text q others top (Mismatch at) h = (h.0, h.1, top_bad asked sides mode text q (q ∷ others) top h.2)
top_stop asked sides mode text q others top (Trailing at) h = h
top_stop asked sides mode text q others top Memory h = h
top_stop asked sides mode text q others top Reader h = h

top_stops : (asked : Asked) (sides : List Side) (mode : Mode) (text : List ℕ) (q : ℕ × TreeNode) (others : List (ℕ × TreeNode)) → q.1.sides ≡ sides
    → (fault : CheckFault) → IsTopStop asked (input_at mode text q) text q.0 (end_of q) fault → Stops asked sides mode text (q ∷ others) fault (end_of q)
top_stops asked sides mode text q others top fault h = record {
  place = q;
  good = record { earlier = []; later = others; split = refl; good = tt };
  ends = refl;
  is = top_stop asked sides mode text q others top fault h;
}

-- one that ends in a part
part_stop : (asked : Asked) (sides : List Side) (d : Side) (mode : Mode) (text : List ℕ) (ps own : List (ℕ × TreeNode)) (q : ℕ × TreeNode) → IsPart sides d ps q own
    → (place : ℕ × TreeNode) (fault : CheckFault) → IsStop (below d (bytes_at text q)) (sides ++ d ∷ []) mode text own place fault → IsStop asked sides mode text ps place fault
part_stop asked sides d mode text ps own q part place (Short k) h = h
part_stop asked sides d mode text ps own q part place (Mismatch k) h = (h.0, h.1, part_bad asked sides d mode text ps own q part place h.2)
part_stop asked sides d mode text ps own q part place (Trailing k) h = h
part_stop asked sides d mode text ps own q part place Memory h = h
part_stop asked sides d mode text ps own q part place Reader h = h

module _ (asked : Asked) (choice : Choice) (mode : Mode) (text : List ℕ) (at number n : ℕ) (sides : List Side) (source : ℕ) (wanted : wants choice (1024 * number) n ≡ true) where
  module _ (one : n ≤ 1024) (kept : choice.chunks ≡ true) where
    pub chunk_passes : at + n ≤ length text → Meets asked (chunk_at mode number n text at) → Passes asked sides mode text at (at + n) (subtree_nodes choice number n sides source)
    chunk_passes there meets =
        let node : TreeNode = chunk_node number n sides source in
        subst (Passes asked sides mode text at (at + n)) (sym (leaf_nodes choice number n sides source wanted one kept))
        (record {
          ends = omega (arith, nodes_size-cons node []);
          good = (top_good asked sides mode text (at, node) [] [] (record { top = refl; near_on = tt; far_on = tt }) there meets, tt);
        })

    pub chunk_stops : (fault : CheckFault) → IsTopStop asked (chunk_at mode number n text at) text at (at + n) fault
        → Stops asked sides mode text (placed_nodes at (subtree_nodes choice number n sides source)) fault (at + n)
    chunk_stops fault h = search (arith, leaf_nodes, top_stops)

  module _ (more : 1024 < n) where
    abbrev parent : ℕ × TreeNode
    parent = (at, parent_node number n sides source)

    abbrev bytes : List ℕ
    bytes = take 64 (drop at text)

    abbrev near_nodes : List TreeNode
    near_nodes = subtree_nodes choice number (left_len n) (sides ++ left ∷ []) (source + 64)

    abbrev far_nodes : List TreeNode
    far_nodes = subtree_nodes choice (number + left_len n / 1024) (n - left_len n) (sides ++ right ∷ []) (source + 64 + subtree_size (left_len n))

    abbrev near : List (ℕ × TreeNode)
    near = placed_nodes (at + 64) near_nodes

    abbrev far : List (ℕ × TreeNode)
    far = placed_nodes (at + 64 + nodes_size near_nodes) far_nodes

    abbrev whole : List (ℕ × TreeNode)
    whole = parent ∷ (near ++ far)

    tree : Tree sides parent near far
    tree = subtree_Tree choice number n sides source at (at + 64 + nodes_size near_nodes)

    as_near : IsPart sides left whole parent near
    as_near = near_part sides parent near far tree

    as_far : IsPart sides right whole parent far
    as_far = far_part sides parent near far tree

    whole_stops : (fault : CheckFault) (end : ℕ) → Stops asked sides mode text (parent ∷ (near ++ far)) fault end
        → Stops asked sides mode text (placed_nodes at (subtree_nodes choice number n sides source)) fault end
    whole_stops fault end h = grind (arith, placed_nodes-parent)

    pub parent_stops : (fault : CheckFault) → IsTopStop asked (parent_at mode text at) text at (at + 64) fault
        → Stops asked sides mode text (placed_nodes at (subtree_nodes choice number n sides source)) fault (at + 64)
    parent_stops fault h = whole_stops fault (at + 64) (top_stops asked sides mode text parent (near ++ far) refl fault h)

    -- where the parent is there and has its value
    module _ (there : at + 64 ≤ length text) (meets : Meets asked (parent_at mode text at)) where
      top_is_good : IsGoodIn asked sides mode text (parent ∷ (near ++ far)) parent
      top_is_good = top_good asked sides mode text parent near far tree there meets

      -- a fault of the left part is one of the whole
      pub near_stops : (fault : CheckFault) (end : ℕ) → Stops (below left bytes) (sides ++ left ∷ []) mode text near fault end
          → Stops asked sides mode text (placed_nodes at (subtree_nodes choice number n sides source)) fault end
      near_stops fault end h =
          let P : ℕ × TreeNode → Type 0 = IsGoodIn asked sides mode text (parent ∷ (near ++ far)) in
          let own : ℕ × TreeNode → Type 0 = IsGoodIn (below left bytes) (sides ++ left ∷ []) mode text near in
          let there_near : (x : ℕ × TreeNode) → Contains h.good.earlier x → Contains near x = λ x member.
          subst (λ (ps : List (ℕ × TreeNode)). Contains ps x) (sym h.good.split) (Contains-append_left h.good.earlier (h.place ∷ h.good.later) x member) in
          whole_stops fault end (record {
            place = h.place;
            good = record {
              earlier = parent ∷ h.good.earlier;
              later = h.good.later ++ far;
              split = ap (λ (ps : List (ℕ × TreeNode)). parent ∷ (ps ++ far)) h.good.split
                  ∙ ap (λ (ps : List (ℕ × TreeNode)). parent ∷ ps) (append_assoc h.good.earlier (h.place ∷ h.good.later) far);
              good = (
                top_is_good,
                All-from_members P h.good.earlier
                    (λ x member. part_good asked sides left mode text whole near parent as_near x (there_near x member) (All-member own h.good.earlier h.good.good x member)),
              );
            };
            ends = h.ends;
            is = part_stop asked sides left mode text whole near parent as_near h.place fault h.is;
          })

      -- and so is one of the right part, where the left one is good
      pub far_stops : (fault : CheckFault) (end : ℕ) → AreGood (below left bytes) (sides ++ left ∷ []) mode text (at + 64) near_nodes
          → Stops (below right bytes) (sides ++ right ∷ []) mode text far fault end
          → Stops asked sides mode text (placed_nodes at (subtree_nodes choice number n sides source)) fault end
      far_stops fault end near_all h =
          let P : ℕ × TreeNode → Type 0 = IsGoodIn asked sides mode text (parent ∷ (near ++ far)) in
          let in_near : ℕ × TreeNode → Type 0 = IsGoodIn (below left bytes) (sides ++ left ∷ []) mode text near in
          let in_far : ℕ × TreeNode → Type 0 = IsGoodIn (below right bytes) (sides ++ right ∷ []) mode text far in
          let there_far : (x : ℕ × TreeNode) → Contains h.good.earlier x → Contains far x = λ x member.
          subst (λ (ps : List (ℕ × TreeNode)). Contains ps x) (sym h.good.split) (Contains-append_left h.good.earlier (h.place ∷ h.good.later) x member) in
          whole_stops fault end (record {
            place = h.place;
            good = record {
              earlier = parent ∷ (near ++ h.good.earlier);
              later = h.good.later;
              split = ap (λ (ps : List (ℕ × TreeNode)). parent ∷ (near ++ ps)) h.good.split
                  ∙ ap (λ (ps : List (ℕ × TreeNode)). parent ∷ ps) (sym (append_assoc near h.good.earlier (h.place ∷ h.good.later)));
              good = (
                top_is_good,
                All-append P near h.good.earlier
                    (All-from_members P near (λ x member. part_good asked sides left mode text whole near parent as_near x member (All-member in_near near near_all x member)))
                    (All-from_members P h.good.earlier
                    (λ x member. part_good asked sides right mode text whole far parent as_far x (there_far x member) (All-member in_far h.good.earlier h.good.good x member))),
              );
            };
            ends = h.ends;
            is = part_stop asked sides right mode text whole far parent as_far h.place fault h.is;
          })

      pub both_passes : (middle end : ℕ) → Passes (below left bytes) (sides ++ left ∷ []) mode text (at + 64) middle near_nodes
          → Passes (below right bytes) (sides ++ right ∷ []) mode text middle end far_nodes → Passes asked sides mode text at end (subtree_nodes choice number n sides source)
      both_passes middle end first second = search (arith, nodes_size-parts, AreGood-join)

-- no nodes
pub none_passes : (asked : Asked) (sides : List Side) (mode : Mode) (text : List ℕ) (at : ℕ) (nodes : List TreeNode) → nodes ≡ [] → Passes asked sides mode text at at nodes
none_passes asked sides mode text at nodes none = subst (Passes asked sides mode text at at) (sym none) (record { ends = omega arith; good = tt })

-- In the parents of a tree each chunk has one value.
use Rattle.std.proofs.Common.{◌≡◌, ℕ, zero, suc, ◌+◌, ◌-◌, ◌*◌, ◌/◌, ◌<◌, ◌≤◌, List, [], ◌∷◌, ◌++◌, length, take, drop, false, if◌then◌else◌, refl, sym, subst, ◌∙◌, arith, inl, inr}
use Rattle.std.specs.Prelude.{nat_le, nat_lt}
use Rattle.std.specs.List.{Contains}
use Rattle.std.proofs.lemmas.Bool.{cases_Bool, cases_lt, le-leb, le-ltb, lt-leb, lt-ltb}
use Rattle.std.proofs.lemmas.List.Elements.{Contains-append_cases, Contains-append_left, Contains-append_right}
use Rattle.b3tree.specs.declared.mode.Mode.{Mode}
use Rattle.b3tree.specs.Tree.{left_len}
use Rattle.bao_text.specs.declared.choice.Choice.{Choice}
use Rattle.bao_text.specs.Choice.{chunk_count, of_outboard}
use Rattle.bao_text.specs.Cut.{claimed}
use Rattle.bao_text.specs.Nodes.{TreeNode, Side, left, placed_nodes, right, subtree_nodes, subtree_size}
use Rattle.bao_text.proofs.Halves.{far_nodes, near_nodes}
use Rattle.bao_text.proofs.SubtreeNodes.{parent_node, subtree_nodes-unwanted}
use Rattle.bao_text.proofs.SubtreeText.{Parts, left_len-Parts}
use Rattle.bao_check.specs.Accepted.{IsAccepted, bytes_at, outboard_nodes, part_value, places_of}
use Rattle.bao_check.specs.Leaves.{WantsParents}
use Rattle.bao_check.specs.Pieces.{HasLeaf, IsLeafValue}
use Rattle.bao_check.proofs.EachNode.{leaf_without}
use Rattle.bao_check.proofs.Lists.{Contains-cons_cases, Contains-head, Contains-tail, nodes_size}
use Rattle.bao_check.proofs.Parts.{placed_nodes-parent}
use Rattle.bao_check.proofs.Sizes.{nodes_size-without_chunks, wants_whole}

-- the choice has all parents of both parts
pub near-WantsParents : (choice : Choice) (number n : ℕ) → 1024 < n → WantsParents choice number n → WantsParents choice number (left_len n)
near-WantsParents choice number n more all =
    let parts : Parts n (left_len n) = left_len-Parts n more in
    record { start = all.start; end = omega (arith, parts.below, all.end); without = all.without }

pub far-WantsParents : (choice : Choice) (number n : ℕ) → 1024 < n → WantsParents choice number n → WantsParents choice (number + left_len n / 1024) (n - left_len n)
far-WantsParents choice number n more all = search (arith, left_len-Parts, more)

-- how many bytes they are
pub near-size : (choice : Choice) (number n : ℕ) (sides : List Side) (source : ℕ) → 1024 < n → WantsParents choice number n
    → nodes_size (near_nodes choice number n sides source) + 64 ≡ 64 * (left_len n / 1024)
near-size choice number n sides source more all = grind (arith, left_len-Parts, more, nodes_size-without_chunks)

-- the places of a subtree of more than one chunk: its parent's, and those of its two parts
parent-places : (choice : Choice) (number n : ℕ) (sides : List Side) (source at : ℕ) → 1024 < n → WantsParents choice number n
    → placed_nodes at (subtree_nodes choice number n sides source)
    ≡ (at, parent_node number n sides source)
    ∷ (placed_nodes (at + 64) (near_nodes choice number n sides source) ++ placed_nodes (at + 64 * (left_len n / 1024)) (far_nodes choice number n sides source))
parent-places choice number n sides source at more all = grind (arith, near-size, more, placed_nodes-parent, wants_whole)

-- the parent at the top has a chunk's value on a side
pub leaf-top : (text : List ℕ) (i : ℕ) (choice : Choice) (number n : ℕ) (sides : List Side) (source at : ℕ) (side : Side) → 1024 < n → WantsParents choice number n
    → HasLeaf side (parent_node number n sides source) i
    → IsLeafValue text (placed_nodes at (subtree_nodes choice number n sides source)) i (part_value side (take 64 (drop at text)))
leaf-top text i choice number n sides source at side more all over =
    let top : ℕ × TreeNode = (at, parent_node number n sides source) in
    let near : List (ℕ × TreeNode) = placed_nodes (at + 64) (near_nodes choice number n sides source) in
    let far : List (ℕ × TreeNode) = placed_nodes (at + 64 * (left_len n / 1024)) (far_nodes choice number n sides source) in
    subst (λ (ps : List (ℕ × TreeNode)). IsLeafValue text ps i (part_value side (take 64 (drop at text)))) (sym (parent-places choice number n sides source at more all))
    (record { parent = top; side = side; there = Contains-head (near ++ far) top; over = over; value_is = refl })

-- or a parent of one of the parts has it
leaf-among : (text : List ℕ) (i : ℕ) (value : List ℕ) (own all : List (ℕ × TreeNode)) → ((p : ℕ × TreeNode) → Contains own p → Contains all p) → IsLeafValue text own i value → IsLeafValue text all i value
leaf-among text i value own all more h = record { parent = h.parent; side = h.side; there = more h.parent h.there; over = h.over; value_is = h.value_is }

pub leaf-near : (text : List ℕ) (i : ℕ) (value : List ℕ) (choice : Choice) (number n : ℕ) (sides : List Side) (source at : ℕ) → 1024 < n → WantsParents choice number n
    → IsLeafValue text (placed_nodes (at + 64) (near_nodes choice number n sides source)) i value
    → IsLeafValue text (placed_nodes at (subtree_nodes choice number n sides source)) i value
leaf-near text i value choice number n sides source at more all = search (arith, leaf-among, parent-places, more, Contains-tail, Contains-append_left)

pub leaf-far : (text : List ℕ) (i : ℕ) (value : List ℕ) (choice : Choice) (number n : ℕ) (sides : List Side) (source at : ℕ) → 1024 < n → WantsParents choice number n
    → IsLeafValue text (placed_nodes (at + 64 * (left_len n / 1024)) (far_nodes choice number n sides source)) i value
    → IsLeafValue text (placed_nodes at (subtree_nodes choice number n sides source)) i value
leaf-far text i value choice number n sides source at more all = search (arith, leaf-among, parent-places, more, Contains-tail, Contains-append_right)

-- the value of chunk i in a subtree of at most so many levels of parents
leaf_within : ℕ → List ℕ → ℕ → ℕ → ℕ → ℕ → List ℕ
leaf_within zero text i number n at = []
leaf_within (suc levels) text i number n at =
    let l = left_len n in
    if nat_lt i (number + l / 1024) then
    (if nat_le l 1024 then part_value left (take 64 (drop at text)) else leaf_within levels text i number l (at + 64))
    else
    (if nat_le (n - l) 1024 then part_value right (take 64 (drop at text))
    else leaf_within levels text i (number + l / 1024) (n - l) (at + 64 * (l / 1024)))

-- chunk i is one of the subtree's, and this is that value
record IsWithin (levels : ℕ) (text : List ℕ) (i number n at : ℕ) (value : List ℕ) : Type 0 where
  more : 1024 < n
  first : number ≤ i
  last : i < number + chunk_count n
  is : value ≡ leaf_within levels text i number n at

within-top : (levels : ℕ) (text : List ℕ) (i number n : ℕ) (sides : List Side) (source at : ℕ) (side : Side) → 1024 < n → HasLeaf side (parent_node number n sides source) i
    → IsWithin (suc levels) text i number n at (part_value side (take 64 (drop at text)))
unfolding leaf_within
within-top levels text i number n sides source at left more over =
    let parts : Parts n (left_len n) = left_len-Parts n more in
    let below : i < number + left_len n / 1024 = omega (arith, over.0, over.1) in
    let one : left_len n ≤ 1024 = omega (arith, over.0) in
    record {
      more = more;
      first = omega (arith, over.1);
      last = omega (arith, over.1);
      is = rw (lt-ltb i (number + left_len n / 1024) below, le-leb (left_len n) 1024 one) refl;
    }
within-top levels text i number n sides source at right more over =
    let parts : Parts n (left_len n) = left_len-Parts n more in
    let above : number + left_len n / 1024 ≤ i = omega (arith, over.1) in
    let one : n - left_len n ≤ 1024 = omega (arith, over.0) in
    record {
      more = more;
      first = omega (arith, over.1);
      last = omega (arith, over.1, parts.below, parts.whole);
      is = rw (le-ltb i (number + left_len n / 1024) above, le-leb (n - left_len n) 1024 one) refl;
    }

within-near : (levels : ℕ) (text : List ℕ) (i number n at : ℕ) (value : List ℕ) → 1024 < n → IsWithin levels text i number (left_len n) (at + 64) value
    → IsWithin (suc levels) text i number n at value
unfolding leaf_within
within-near levels text i number n at value more h =
    let parts : Parts n (left_len n) = left_len-Parts n more in
    let below : i < number + left_len n / 1024 = omega (arith, h.last, parts.whole, parts.some) in
    record {
      more = more;
      first = h.first;
      last = omega (arith, parts.below);
      is = rw (lt-ltb i (number + left_len n / 1024) below, lt-leb (left_len n) 1024 h.more) h.is;
    }

within-far : (levels : ℕ) (text : List ℕ) (i number n at : ℕ) (value : List ℕ) → 1024 < n
    → IsWithin levels text i (number + left_len n / 1024) (n - left_len n) (at + 64 * (left_len n / 1024)) value
    → IsWithin (suc levels) text i number n at value
unfolding leaf_within
within-far levels text i number n at value more h =
    let parts : Parts n (left_len n) = left_len-Parts n more in
    record {
      more = more;
      first = omega (arith, h.first);
      last = omega (arith, h.last, h.more, parts.below, parts.whole);
      is = rw (le-ltb i (number + left_len n / 1024) h.first, lt-leb (n - left_len n) 1024 h.more) h.is;
    }

-- so no place is among them
none_there : (choice : Choice) (number n : ℕ) (sides : List Side) (source at : ℕ) (place : ℕ × TreeNode) → n ≤ 1024 → choice.chunks ≡ false
    → Contains (placed_nodes at (subtree_nodes choice number n sides source)) place → ⊥
none_there choice number n sides source at place one without there = grind (arith, cases_Bool, subtree_nodes-unwanted, leaf_without)

-- a parent of the subtree has no other value for chunk i
leaf-is : (levels : ℕ) (text : List ℕ) (i : ℕ) (choice : Choice) (number n : ℕ) (sides : List Side) (source at : ℕ) (place : ℕ × TreeNode) (side : Side) → n ≤ 1024 * levels + 1024
    → WantsParents choice number n → Contains (placed_nodes at (subtree_nodes choice number n sides source)) place → HasLeaf side place.1 i
    → IsWithin levels text i number n at (part_value side (bytes_at text place))
leaf-is zero text i choice number n sides source at place side hn all there over = search (arith, none_there)
leaf-is (suc levels) text i choice number n sides source at place side hn all there over = elim (cases_lt 1024 n) [
  | inr one ↦ absurd (none_there choice number n sides source at place one all.without there)
  | inl more ↦
      let parts : Parts n (left_len n) = left_len-Parts n more in
      let top : ℕ × TreeNode = (at, parent_node number n sides source) in
      let near : List (ℕ × TreeNode) = placed_nodes (at + 64) (near_nodes choice number n sides source) in
      let far : List (ℕ × TreeNode) = placed_nodes (at + 64 * (left_len n / 1024)) (far_nodes choice number n sides source) in
      let split : Contains (top ∷ (near ++ far)) place = subst (λ (ps : List (ℕ × TreeNode)). Contains ps place) (parent-places choice number n sides source at more all) there in
      elim (Contains-cons_cases (near ++ far) top place split) [
        | inl same ↦
            subst (λ (p : ℕ × TreeNode). IsWithin (suc levels) text i number n at (part_value side (bytes_at text p))) (sym same)
            (within-top levels text i number n sides source at side more (subst (λ (p : ℕ × TreeNode). HasLeaf side p.1 i) same over))
        | inr rest ↦
            elim (Contains-append_cases near far place rest) [
              | inl own ↦
                  within-near levels text i number n at (part_value side (bytes_at text place)) more
                  (leaf-is levels text i choice number (left_len n) (sides ++ left ∷ []) (source + 64) (at + 64) place side (omega (arith, parts.whole, parts.below))
                  (near-WantsParents choice number n more all) own over)
              | inr own ↦
                  within-far levels text i number n at (part_value side (bytes_at text place)) more
                  (leaf-is levels text i choice (number + left_len n / 1024) (n - left_len n) (sides ++ right ∷ []) (source + 64 + subtree_size (left_len n))
                  (at + 64 * (left_len n / 1024)) place side (omega (arith, parts.some)) (far-WantsParents choice number n more all) own over)
            ]
      ]
]

-- an outboard encoding has all parents
pub outboard-WantsParents : (total : ℕ) → WantsParents (of_outboard total) 0 total
outboard-WantsParents total = record { start = omega arith; end = omega arith; without = refl }

-- two values that the parents of an outboard encoding have for one chunk are the same
pub leaf-unique : (text : List ℕ) (i : ℕ) (v w : List ℕ) → IsLeafValue text (places_of (outboard_nodes text)) i v → IsLeafValue text (places_of (outboard_nodes text)) i w → v ≡ w
leaf-unique text i v w h k =
    let total : ℕ = claimed text in
    let all : WantsParents (of_outboard total) 0 total = outboard-WantsParents total in
    let ours : IsWithin total text i 0 total 8 (part_value h.side (bytes_at text h.parent)) =
    leaf-is total text i (of_outboard total) 0 total [] 8 8 h.parent h.side (omega arith) all h.there h.over in
    let theirs : IsWithin total text i 0 total 8 (part_value k.side (bytes_at text k.parent)) =
    leaf-is total text i (of_outboard total) 0 total [] 8 8 k.parent k.side (omega arith) all k.there k.over in
    h.value_is ∙ ours.is ∙ sym theirs.is ∙ sym k.value_is

-- all parents of an accepted outboard encoding are there
pub outboard-fits : (mode : Mode) (root text : List ℕ) → IsAccepted mode root text (outboard_nodes text) → 8 + 64 * (chunk_count (claimed text) - 1) ≤ length text
outboard-fits mode root text accepted = grind (arith, nodes_size-without_chunks)

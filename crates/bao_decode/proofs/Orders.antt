-- Of the nodes of an encoding each comes after the parents above it.
use Rattle.std.specs.List.{AllByRecursion, Contains}
use Rattle.std.proofs.Common.{◌≡◌, ℕ, ◌+◌, ◌<◌, ◌≤◌, List, [], ◌∷◌, ◌++◌, length, refl, sym, ap, subst, ◌∙◌, arith, inl, inr, length-append}
use Rattle.std.proofs.lemmas.Bool.{cases_Bool}
use Rattle.std.proofs.lemmas.List.{append-nil}
use Rattle.std.proofs.lemmas.List.Elements.{Contains-append_cases, Contains-append_right}
use Rattle.bao_text.specs.declared.choice.Choice.{Choice}
use Rattle.bao_text.specs.Nodes.{TreeNode, Side, left, right, placed_nodes, subtree_nodes}
use Rattle.bao_text.proofs.Halves.{far_nodes, near_nodes}
use Rattle.bao_text.proofs.SubtreeNodes.{parent_node}
use Rattle.bao_check.proofs.Lists.{All-append, All-from_members, All-member, Contains-cons_cases, Contains-head, Contains-tail, nodes_size, placed_nodes-append}
use Rattle.bao_check.proofs.EachNode.{by_nodes}
use Rattle.bao_check.proofs.Parts.{Extends, Extends-further, apart, left_right}

-- the one place is right below the other
abbrev pub IsBelow : ℕ × TreeNode → ℕ × TreeNode → Type 0
IsBelow place above = (side : Side) × (place.1.sides ≡ above.1.sides ++ side ∷ [])

-- none is below one that isn't before it
abbrev pub AreInOrder : List (ℕ × TreeNode) → Type 0
AreInOrder [] = Unit {0}
AreInOrder (p ∷ ps) = ((a : ℕ × TreeNode) → Contains (p ∷ ps) a → ¬ IsBelow p a) × AreInOrder ps

in_order-append : (xs ys : List (ℕ × TreeNode)) → AreInOrder xs → AreInOrder ys → ((x a : ℕ × TreeNode) → Contains xs x → Contains ys a → ¬ IsBelow x a) → AreInOrder (xs ++ ys)
in_order-append [] ys first second between = second
in_order-append (x ∷ xs) ys first second between = (
  λ a there. elim (Contains-append_cases (x ∷ xs) ys a there) [
    | inl here ↦ first.0 a here
    | inr far ↦ between x a (Contains-head xs x) far
  ],
  in_order-append xs ys first.1 second (λ z a here far. between z a (Contains-tail xs x z here) far),
)

-- what is below a place of the front, or below the one after it, is in the front
pub in_order-front : (front later : List (ℕ × TreeNode)) (x a : ℕ × TreeNode) → AreInOrder (front ++ later) → Contains front x → Contains later a → ¬ IsBelow x a
in_order-front [] later x a order here far = let none : 0 < 0 = omega (arith, here.1) in absurd (omega arith)
in_order-front (y ∷ front) later x a order here far = elim (Contains-cons_cases front y x here) [
  | inl same ↦ λ below. order.0 a (Contains-tail (front ++ later) y a (Contains-append_right front later a far)) (subst (λ (p : ℕ × TreeNode). IsBelow p a) same below)
  | inr rest ↦ in_order-front front later x a order.1 rest far
]

pub in_order-next : (front later : List (ℕ × TreeNode)) (p a : ℕ × TreeNode) → AreInOrder (front ++ p ∷ later) → Contains (p ∷ later) a → ¬ IsBelow p a
in_order-next [] later p a order there = order.0 a there
in_order-next (y ∷ front) later p a order there = in_order-next front later p a order.1 there

-- a way that goes on is no shorter
longer : (sides more : List Side) → Extends sides more → length sides ≤ length more
longer sides more on = omega (arith, ap length on.is, length-append sides on.tail)

not_below_longer : (p a : ℕ × TreeNode) → length p.1.sides ≤ length a.1.sides → ¬ IsBelow p a
not_below_longer p a less (side, is) = omega (arith, less, ap length is, length-append a.1.sides (side ∷ []))

-- the places of a subtree: their ways go on from its own, and they are in order
record IsTree (sides : List Side) (places : List (ℕ × TreeNode)) : Type 0 where
  on : AllByRecursion (λ place. Extends sides place.1.sides) places
  order : AreInOrder places

tree_none : (sides : List Side) → IsTree sides []
tree_none sides = record { on = tt; order = tt }

tree_one : (sides : List Side) (p : ℕ × TreeNode) → p.1.sides ≡ sides → IsTree sides (p ∷ [])
tree_one sides p is = record {
  on = (record { tail = []; is = is ∙ sym (append-nil sides) }, tt);
  order = (
    λ a there. elim (Contains-cons_cases [] p a there) [
      | inl same ↦ not_below_longer p a (omega (arith, ap (λ (x : ℕ × TreeNode). length x.1.sides) same))
      | inr rest ↦ let none : 0 < 0 = omega (arith, rest.1) in absurd (omega arith)
    ],
    tt,
  );
}

tree_of_parts : (sides : List Side) (p : ℕ × TreeNode) (near far : List (ℕ × TreeNode)) → p.1.sides ≡ sides → IsTree (sides ++ left ∷ []) near → IsTree (sides ++ right ∷ []) far
    → IsTree sides (p ∷ (near ++ far))
tree_of_parts sides p near far is one other =
    let E : ℕ × TreeNode → Type 0 = λ place. Extends sides place.1.sides in
    let near_on = All-from_members E near (λ x h. Extends-further sides left x.1.sides (All-member (λ place. Extends (sides ++ left ∷ []) place.1.sides) near one.on x h)) in
    let far_on = All-from_members E far (λ x h. Extends-further sides right x.1.sides (All-member (λ place. Extends (sides ++ right ∷ []) place.1.sides) far other.on x h)) in
    let all_on : AllByRecursion E (p ∷ (near ++ far)) = (record { tail = []; is = is ∙ sym (append-nil sides) }, All-append E near far near_on far_on) in
    record {
      on = all_on;
      order = (
        λ a there. not_below_longer p a (omega (arith, ap length is, longer sides a.1.sides (All-member E (p ∷ (near ++ far)) all_on a there))),
        in_order-append near far one.order other.order
            (λ x a here there below. left_right (apart sides left right below.0 x.1.sides a.1.sides
            (All-member (λ place. Extends (sides ++ left ∷ []) place.1.sides) near one.on x here)
            (All-member (λ place. Extends (sides ++ right ∷ []) place.1.sides) far other.on a there) below.1)),
      );
    }

tree : (choice : Choice) (number n : ℕ) (sides : List Side) (source at : ℕ) → IsTree sides (placed_nodes at (subtree_nodes choice number n sides source))
tree choice = by_nodes choice (λ number n sides source nodes. (at : ℕ) → IsTree sides (placed_nodes at nodes))
    (λ number n sides source skipped at. tree_none sides)
    (λ number n sides source wanted one at. elim (cases_Bool choice.chunks) [ inl there ↦ rw there (tree_one sides _ refl) | inr gone ↦ rw gone (tree_none sides) ])
    (λ number n sides source wanted more parts in_near in_far at.
    let near : List TreeNode = near_nodes choice number n sides source in
    let far : List TreeNode = far_nodes choice number n sides source in
    let q : ℕ × TreeNode = (at, parent_node number n sides source) in
    subst (λ (ps : List (ℕ × TreeNode)). IsTree sides (q ∷ ps)) (sym (placed_nodes-append (at + 64) near far))
    (tree_of_parts sides q (placed_nodes (at + 64) near) (placed_nodes (at + 64 + nodes_size near) far) refl (in_near (at + 64)) (in_far (at + 64 + nodes_size near))))

pub in_order : (choice : Choice) (number n : ℕ) (sides : List Side) (source at : ℕ) → AreInOrder (placed_nodes at (subtree_nodes choice number n sides source))
in_order choice number n sides source at = (tree choice number n sides source at).order

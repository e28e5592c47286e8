-- A walk over nodes that marks the groups of their boundaries.
use Rattle.gather.proofs.Common.{◌≡◌, ◌∙◌, ◌⊎◌, ℕ, ◌+◌, ◌/◌, ◌<◌, ◌≤◌, ◌==◌, cases_lt, Piece, ◌||◌, Bool, true, false, List, [], ◌∷◌, length, map, is_some, ap, arith, inl, inr, eq-eqb, eqb-true, cases_Bool, replicate, get_or-replicate, length-replicate, slice_index_or, Checked, piece_nodes, piece_text, piece_of, name, Node}
use Rattle.std.proofs.lemmas.Bool.{or_left, or_right}
use Rattle.bao_check.specs.Parents.{parent_in}
use Rattle.bao_text.specs.NodeNames.{boundary}
use Rattle.bao_text.specs.Nodes.{TreeNode, placed_nodes, size}
use Rattle.gather.specs.Counts.{HasFailedSince}
use Rattle.gather.specs.Groups.{AreGroups, has_in, is_in}
use Rattle.holders.specs.Pieces.{holds_parent}
use Rattle.gather.specs.declared.report.Report.{Report}

-- the groups that have a boundary among all nodes are those that are marked, and those of the nodes that are left
pub record AreMarked (all rest : List Node) (groups : List Bool) : Type 0 where
  pub count : length groups ≡ 1024
  pub each : (g : ℕ) → g < 1024 → (slice_index_or groups g false || has_in rest g) ≡ has_in all g

pub marked_begun : (all : List Node) → AreMarked all all (replicate 1024 false)
marked_begun all = record {
  count = length-replicate 1024 false;
  each = λ g low. ap (λ (b : Bool). b || has_in all g) (get_or-replicate 1024 g false false low);
}

-- a parent that an encoding has is in its group
one_in_group : (text : List ℕ) (at : ℕ) (node : TreeNode) (rest : List (ℕ × TreeNode)) (m : ℕ) → is_some (parent_in text ((at, node) ∷ rest) m) ≡ true
    → (is_in (m / 64) (name node) ≡ true) ⊎ (is_some (parent_in text rest m) ≡ true)
one_in_group text at node rest m is = elim (cases_Bool node.is_chunk) [
  | inl chunk ↦ inr (rw chunk at is)
  | inr parent ↦ elim (cases_Bool (boundary node == m)) [
    | inl here ↦
        let same : boundary node ≡ m = eqb-true (boundary node) m here in
        let hit : (boundary node / 64 == m / 64) ≡ true = eq-eqb (boundary node / 64) (m / 64) (ap (λ (k : ℕ). k / 64) same) in
        inl (rw parent hit)
    | inr other ↦ inr (rw (parent, other) at is)
  ]
]

parent_in_group : (text : List ℕ) (at : ℕ) (nodes : List TreeNode) (m : ℕ) → is_some (parent_in text (placed_nodes at nodes) m) ≡ true → has_in (map name nodes) (m / 64) ≡ true
parent_in_group text at [] m is = let no : false ≡ true = is in cc
parent_in_group text at (node ∷ nodes) m is = elim (one_in_group text at node (placed_nodes (at + size node) nodes) m is) [
  | inl hit ↦ or_left (is_in (m / 64) (name node)) (has_in (map name nodes) (m / 64)) hit
  | inr rest ↦ or_right (is_in (m / 64) (name node)) (has_in (map name nodes) (m / 64)) (parent_in_group text (at + size node) nodes m rest)
]

-- so each group that has a parent of the piece is marked
pub parent_marked : (piece : Checked) (groups : List Bool) (base m : ℕ) → AreGroups (map name (piece_nodes piece)) groups → m < 65536 → holds_parent (piece_of base piece) m ≡ true
    → slice_index_or groups (m / 64) false ≡ true
parent_marked piece groups base m marked low has =
    marked (m / 64) (omega (arith, low)) ∙ parent_in_group (piece_text piece) 8 (piece_nodes piece) m has

-- all parents of a piece below a group are held, and those of the group are then: those of the groups between aren't the piece's
pub held_below : {S : Type 0} (has_parent : S → ℕ → Type 0) (old new : S) (piece : Piece) (from group : ℕ) (first report report' : Report) → (HasFailedSince first report → HasFailedSince first report')
    → ((m : ℕ) → has_parent old m → has_parent new m)
    → ((m : ℕ) → from ≤ m / 64 → m / 64 < group → m < 65536 → holds_parent piece m ≡ true → ⊥)
    → HasFailedSince first report' ⊎ ((m : ℕ) → m / 64 ≡ group → holds_parent piece m ≡ true → has_parent new m)
    → HasFailedSince first report ⊎ ((m : ℕ) → m / 64 < from → m < 65536 → holds_parent piece m ≡ true → has_parent old m)
    → HasFailedSince first report' ⊎ ((m : ℕ) → m / 64 < group + 1 → m < 65536 → holds_parent piece m ≡ true → has_parent new m)
held_below has_parent old new piece from group first report report' on lasts none here before = elim before [
  | inl failed ↦ inl (on failed)
  | inr all ↦ elim here [
    | inl failed ↦ inl failed
    | inr at ↦ inr (λ m below low has. elim (cases_lt (m / 64) from) [
      | inl sooner ↦ lasts m (all m sooner low has)
      | inr late ↦ elim (cases_lt (m / 64) group) [
        | inl between ↦ absurd (none m (omega (arith, late)) between low has)
        | inr past ↦ at m (omega (arith, below, past)) has
      ]
    ])
  ]
]

-- The groups of 64 in which a piece has boundaries.
use Rattle.std.specs.Prelude.{◌≡◌, ℕ, ◌/◌, ◌<◌, ◌≤◌, ◌==◌, Bool, false, true, List, Option, None, Some}
use Rattle.std.specs.List.{list_any, slice_index_or}
use Rattle.bao_text.specs.declared.walk.Node.{Node}
use Rattle.bao_text.specs.declared.walk.Node.TheVariants.{Chunk, Parent}

-- the node is a parent whose boundary is of the group
abbrev pub is_in : ℕ → Node → Bool
is_in group (Parent m) = m / 64 == group
is_in group (Chunk c) = false

abbrev pub has_in : List Node → ℕ → Bool
has_in nodes group = list_any (is_in group) nodes

-- which of the groups that a store can have have a boundary among the nodes
abbrev pub AreGroups : List Node → List Bool → Type 0
AreGroups nodes groups = (group : ℕ) → group < 1024 → slice_index_or groups group false ≡ has_in nodes group

-- the least group from `from` on that is marked; or none is
abbrev pub IsNext : ℕ → List Bool → Option ℕ → Type 0
IsNext from groups (Some group) =
    (from ≤ group) × (group < 1024) × (slice_index_or groups group false ≡ true) × ((other : ℕ) → from ≤ other → other < group → slice_index_or groups other false ≡ false)
IsNext from groups None = (other : ℕ) → from ≤ other → other < 1024 → slice_index_or groups other false ≡ false

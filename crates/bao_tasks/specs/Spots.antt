-- Which bytes of a blob a node of its encoding covers.
use Rattle.std.specs.Prelude.{if◌then◌else◌, ◌≡◌, ℕ, ◌+◌, ◌*◌, ◌≤◌, nat_le, nat_lt, Bool, List, [], ◌∷◌, sum_by, Option, Some, None}
use Rattle.bao_text.specs.Nodes.{TreeNode, placed_nodes, size}
use Rattle.bao_tasks.specs.declared.spot.Spot.{Spot}
use Rattle.bao_tasks.specs.declared.spot.Walk.{Walk}
use Rattle.bao_tasks.specs.declared.spot.Walk.TheVariants.{Past, Met}

-- the range of n bytes from chunk `number` on, if the node that covers it begins at offset `at`: `here`, where it begins, isn't after that
abbrev pub spot_if : Bool → ℕ → ℕ → ℕ → ℕ → Option Spot
spot_if is_chunk number n here at =
    if nat_le here at then Some (record { is_chunk = is_chunk; bytes = record { at = 1024 * number; end = 1024 * number + n } }) else None

-- What is met at an offset: nothing, if all of these nodes begin before it; otherwise the first that doesn't, if it begins exactly there.
abbrev pub met : ℕ → List (ℕ × TreeNode) → Option (Option Spot)
met at [] = None
met at (place ∷ rest) = if nat_lt place.0 at then met at rest else Some (spot_if place.1.is_chunk place.1.number place.1.len place.0 at)

abbrev pub or_none : Option (Option Spot) → Option Spot
or_none None = None
or_none (Some spot) = spot

-- what the node at this offset covers; the nodes are in order
abbrev pub spot_at : ℕ → List (ℕ × TreeNode) → Option Spot
spot_at at places = or_none (met at places)

-- the walk met this among these nodes, the first of which is at `here`
abbrev pub IsMet : ℕ → ℕ → List TreeNode → Walk → Type 0
IsMet at here nodes (Past after) = (met at (placed_nodes here nodes) ≡ None) × (after ≡ here + sum_by size nodes)
IsMet at here nodes (Met spot) = met at (placed_nodes here nodes) ≡ Some spot

-- if all of them begin before the offset that is looked for, they end at `most` or before
abbrev pub EndsBy : ℕ → Walk → Type 0
EndsBy most (Past after) = after ≤ most
EndsBy most (Met spot) = Unit {0}

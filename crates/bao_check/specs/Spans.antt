-- Where an encoding has its chunks.
use Rattle.std.specs.Prelude.{ℕ, ◌==◌, ◌&&◌, List, [], ◌∷◌, Option, None, Some, if◌then◌else◌}
use Rattle.bao_text.specs.Nodes.{TreeNode}
use Rattle.bao_check.specs.declared.locate.Span.{Span}

-- where chunk `number` is in the encoding, if it is one of the places
abbrev pub chunk_place : List (ℕ × TreeNode) → ℕ → Option Span
chunk_place [] number = None
chunk_place (place ∷ places) number =
    if place.1.is_chunk && (place.1.number == number) then Some (record { at = place.0; len = place.1.len }) else chunk_place places number

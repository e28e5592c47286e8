-- Bytes that are read in order.
use Rattle.std.specs.Prelude.{◌⊎◌, ℕ, ◌≤◌, List, Option, IfSome, length}

-- a read at this offset returns the bytes there: one anywhere does, or they have so many bytes before it
abbrev pub Reaches : Option (List ℕ) → Type 0 → ℕ → Type 0
Reaches contents anywhere at = anywhere ⊎ IfSome contents (λ s. at ≤ length s)

-- Which numbers are words.
use Rattle.std.specs.Prelude.{ℕ, ◌^◌, ◌<◌, List, slice_index}

-- each of them is a word
pub record AreWords (ws : List ℕ) : Type 0 where
  pub at : (k : ℕ) → slice_index ws k < 2 ^ 32

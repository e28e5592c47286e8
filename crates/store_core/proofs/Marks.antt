-- Marks of written words in a list.
use Rattle.std.proofs.Common.{◌≡◌, ℕ, ◌+◌, ◌*◌, ◌<◌, ◌≤◌, Bool, false, List, get_or}

-- the first j words of chunk n are not marked, and the other marks stay
pub record IsUnmarked (n j : ℕ) (old now : List Bool) : Type 0 where
  pub gone : (k : ℕ) → 129 * n ≤ k → k < 129 * n + j → get_or now k false ≡ false
  pub before : (k : ℕ) → k < 129 * n → get_or now k false ≡ get_or old k false
  pub after : (k : ℕ) → 129 * n + j ≤ k → get_or now k false ≡ get_or old k false

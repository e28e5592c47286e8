-- A mode is its key words and flags, whichever way its invariant is shown.
use Rattle.std.proofs.Common.{◌≡◌, ℕ, ◌%◌, List, ap}
use Rattle.std.proofs.Math.Nat.{ℕ_set}
use Rattle.b3tree.specs.Modes.{mode_with}

pub same_mode : (key : List ℕ) (flags : ℕ) (a b : flags % 16 ≡ 0) → mode_with key flags a ≡ mode_with key flags b
same_mode key flags a b = ap (mode_with key flags) (ℕ_set _ _ a b)

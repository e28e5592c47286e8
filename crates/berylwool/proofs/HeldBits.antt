-- Bits of a mask that are found one after another.
use Rattle.std.proofs.Common.{◌≡◌, ℕ, ◌+◌, ◌*◌, ◌^◌, ◌<◌, ◌≤◌, arith}
use Rattle.std.proofs.lemmas.Nat.{pow-add}

pub next_bits : (j mask bit : ℕ) → mask < 2 ^ j → bit ≤ 2 ^ j → mask + bit < 2 ^ (j + 1)
next_bits j mask bit below one = let twice : 2 ^ (j + 1) ≡ 2 ^ j * 2 = pow-add 2 j 1 in omega (arith, below, one, twice)

-- Stores that have one root, mode, capacity and first chunk.
use Rattle.std.proofs.Common.{◌≡◌}
use Rattle.holders.specs.declared.fixed.Fixed.{Fixed}

pub same_fixed : (one other : Fixed) → one.root ≡ other.root → one.mode ≡ other.mode → one.capacity ≡ other.capacity → one.base ≡ other.base → one ≡ other
same_fixed one other root mode capacity base = λ i. record { root = root i; mode = mode i; capacity = capacity i; base = base i }

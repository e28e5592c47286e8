-- A worker's calls one after another: what they gain, and what they claim.
use Rattle.gather.proofs.Common.{◌≡◌, ℕ, ◌<◌, Bool, ◌&&◌, not, inl, inr, both_ways, has_bit}
use Rattle.gather.proofs.Bits.{in_mask_zero, in_without}
use Rattle.gather.specs.Claims.{Among, AmongAnd, Without}

pub among_onward : (r s t : ℕ → Bool) → Among r s → Among s t → Among r t
among_onward r s t first second c is = first c (second c is)

pub among_and_onward : (before s t : ℕ → Bool) (group mask : ℕ) → AmongAnd before group mask s → Among s t → AmongAnd before group mask t
among_and_onward before s t group mask first second c is = first c (second c is)

-- claims of an empty mask, or those of a mask that are given back
pub among_and_none : (old new : ℕ → Bool) (group : ℕ) → AmongAnd old group 0 new → Among old new
among_and_none old new group among c is = elim (among c is) [
  | inl claimed ↦ claimed
  | inr in_none ↦ absurd (both_ways _ (in_mask_zero group c) in_none)
]

pub among_given : (old now new : ℕ → Bool) (group mask : ℕ) → AmongAnd old group mask now → Without now group mask new → Among old new
among_given old now new group mask among without c is = elim (among c (without c is).0) [
  | inl claimed ↦ claimed
  | inr in_rest ↦ absurd (both_ways _ (without c is).1 in_rest)
]

-- a commit's chunks are left no more
pub among_committed : (before old new : ℕ → Bool) (group left committed rest : ℕ) → ((j : ℕ) → j < 64 → has_bit rest j ≡ (has_bit left j && not (has_bit committed j)))
    → AmongAnd before group left old → Without old group committed new → AmongAnd before group rest new
among_committed before old new group left committed rest bits among without c is = elim (among c (without c is).0) [
  | inl claimed ↦ inl claimed
  | inr in_left ↦ inr (in_without group left committed rest c bits in_left (without c is).1)
]

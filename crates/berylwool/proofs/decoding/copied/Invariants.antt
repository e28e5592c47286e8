use Rattle.std.proofs.Common.{◌≡◌, ℕ, ◌+◌, ◌-◌, ◌<◌, ◌≤◌, drop, length, slice_get}
use Rattle.holders.specs.Pieces.{piece_of}
use Rattle.berylwool.specs.Decoding.{byte_of}
use Rattle.berylwool.proofs.decoding.copied.Given as goal

abbrev pub invariant-loop-bytes : goal.invariant-loop-bytes
invariant-loop-bytes l = (l.filled ≤ length l.out) × (length l.out ≡ length l.fn.out)
    × ((i : ℕ) → i < l.filled → byte_of (piece_of 0 l.piece) (l.fn.start + i) ≡ slice_get l.out i)
    × (drop l.filled l.out ≡ drop l.filled l.fn.out)

abbrev pub decreases-loop-bytes : goal.decreases-loop-bytes
decreases-loop-bytes l = length l.out - l.filled

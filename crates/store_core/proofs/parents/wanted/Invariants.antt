use Rattle.std.proofs.Common.{is_some, not, ◌&&◌}
use Rattle.holders.specs.Pieces.{holds_parent, piece_of}
use Rattle.store_core.specs.Slots.{parent_among}
use Rattle.store_core.proofs.Choosing.{IsMaskUpTo}
use Rattle.store_core.proofs.parents.wanted.Given as goal

abbrev pub invariant-loop-j : goal.invariant-loop-j
invariant-loop-j l = IsMaskUpTo l.group l.mask l.j (λ m. holds_parent (piece_of 0 l.piece) m && not (is_some (parent_among l.parents m)))

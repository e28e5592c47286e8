use Rattle.std.proofs.Common.{ℕ, ◌+◌, ◌*◌, List, Option, None}
use Rattle.holders.specs.Pieces.{parent_bytes, piece_of}
use Rattle.store_core.proofs.Putting.{IsPutBelow}
use Rattle.store_core.proofs.parents.put_parents.Given as goal

abbrev pub invariant-loop-j : goal.invariant-loop-j
invariant-loop-j l =
    IsPutBelow (Option (List ℕ)) None l.group l.mask l.j (λ j. parent_bytes (piece_of 0 l.piece) (64 * l.group + j)) l.initial.parents l.parents

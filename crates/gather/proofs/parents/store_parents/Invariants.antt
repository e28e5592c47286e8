use Rattle.gather.proofs.Common.{◌≡◌, ◌⊎◌, ℕ, ◌-◌, ◌/◌, ◌<◌, true, IsOf, length_of, piece_of}
use Rattle.holders.specs.Pieces.{holds_parent}
use Rattle.gather.specs.Filled.{Keeps}
use Rattle.gather.specs.Claims.{Among}
use Rattle.gather.specs.Counts.{HasFailedSince, Reports}
use Rattle.holders.specs.Holders.{IsIt}
use Rattle.gather.proofs.parents.store_parents.Given as goal

abbrev pub invariant-loop-group : goal.invariant-loop-group
invariant-loop-group g l = g.S.Shelf.has l.shelf l.seat
    × Reports g.S.Shelf.fixed_of g.S.Shelf.gained l.fn.seat l.seat (IsIt (piece_of (g.S.Shelf.fixed_of l.fn.seat).base l.piece)) (IsIt (piece_of (g.S.Shelf.fixed_of l.fn.seat).base l.piece)) 0 0 l.fn.report l.report
    × Among (g.S.Shelf.claims l.fn.seat) (g.S.Shelf.claims l.seat)
    × Keeps (g.S.Shelf.claims l.fn.seat) (g.S.Shelf.claims l.seat)
    × (IsOf (g.S.Shelf.fixed_of l.fn.seat) l.piece → g.S.Shelf.records l.fn.seat (length_of (piece_of (g.S.Shelf.fixed_of l.fn.seat).base l.piece))
    → HasFailedSince l.fn.report l.report ⊎ ((m : ℕ) → m / 64 < l.from → m < 65536 → holds_parent (piece_of (g.S.Shelf.fixed_of l.fn.seat).base l.piece) m ≡ true → g.S.Shelf.has_parent l.seat m))

abbrev pub decreases-loop-group : goal.decreases-loop-group
decreases-loop-group g l = 1024 - l.from

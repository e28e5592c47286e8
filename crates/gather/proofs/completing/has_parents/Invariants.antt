use Rattle.gather.proofs.Common.{◌≡◌, ℕ, ◌/◌, ◌<◌, ◌≤◌}
use Rattle.gather.specs.Counts.{Still}
use Rattle.holders.specs.Holders.{IsNone}
use Rattle.gather.proofs.completing.has_parents.Given as goal

abbrev pub invariant-loop-boundary : goal.invariant-loop-boundary
invariant-loop-boundary g l = g.S.Shelf.has l.shelf l.seat
    × Still (g.S.Shelf.gained IsNone) g.S.Shelf.claims l.fn.seat l.seat
    × (l.chunks ≤ (g.S.Shelf.fixed_of l.seat).capacity)
    × ((m : ℕ) → 0 < m → m / 64 ≡ l.group → m < l.boundary → g.S.Shelf.has_parent l.seat m)

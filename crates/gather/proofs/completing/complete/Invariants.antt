use Rattle.holders.specs.Forms.{made_of}
use Rattle.holders.specs.Parts.{HaveParts, IsFor}
use Rattle.gather.specs.Claims.{Among}
use Rattle.gather.proofs.Common.{sum_by, ◌≡◌, ◌⊎◌, ℕ, ◌/◌, ◌<◌, ◌≤◌, List, length, chunk_count}
use Rattle.gather.specs.Counts.{HasFailedSince, Reports}
use Rattle.holders.specs.Holders.{AreLater, IsHanded}
use Rattle.gather.proofs.completing.complete.Given as goal
use Rattle.holders.specs.declared.grain.Grain.TheVariants.{Group as ByGroup}
use Rattle.holders.specs.Available.{IsServed}

abbrev pub invariant-loop-number : goal.invariant-loop-number
invariant-loop-number g l = g.S.Shelf.has l.shelf l.seat
    × Reports g.S.Shelf.fixed_of g.S.Shelf.gained l.fn.seat l.seat (IsHanded (made_of l.form g.H.Holder.gives) l.fn.holders) (IsHanded (made_of l.form g.H.Holder.gives) l.holders) (sum_by g.H.Holder.count l.fn.holders) (sum_by g.H.Holder.count l.holders) l.fn.report l.report
    × Among (g.S.Shelf.claims l.fn.seat) (g.S.Shelf.claims l.seat)
    × AreLater (made_of l.form g.H.Holder.gives) l.fn.holders l.holders
    × (l.chunks ≤ (g.S.Shelf.fixed_of l.seat).capacity)
    × ((blob : List ℕ) → IsFor l.form (g.S.Shelf.fixed_of l.fn.seat) blob → IsServed (g.S.Shelf.fixed_of l.fn.seat) blob → HaveParts l.form ByGroup g.H.Holder.gives (g.S.Shelf.fixed_of l.fn.seat).mode blob l.fn.holders
    → g.S.Shelf.records l.fn.seat (length blob) → l.length ≡ length blob
    → HasFailedSince l.fn.report l.report ⊎ ((m : ℕ) → 0 < m → m / 64 < l.number → m < chunk_count (length blob) → g.S.Shelf.has_parent l.seat m))

use Rattle.holders.specs.Forms.{made_of}
use Rattle.gather.specs.Asked.{checked_len}
use Rattle.holders.specs.Parts.{IsFor}
use Rattle.gather.specs.Claims.{Among}
use Rattle.gather.proofs.Common.{sum_by, ◌≡◌, ◌⊎◌, ℕ, ◌/◌, ◌<◌, ◌≤◌, List, length, slice_get, true}
use Rattle.gather.specs.Counts.{HasFailedSince, Reports}
use Rattle.holders.specs.Holders.{AreLater, IsHanded}
use Rattle.gather.proofs.completing.complete_group.Given as goal
use Rattle.holders.specs.Available.{HasSlice, IsServed, slice_of}
use Rattle.holders.specs.Pieces.{holds_parent}

abbrev pub invariant-loop-holder : goal.invariant-loop-holder
invariant-loop-holder g l = g.S.Shelf.has l.shelf l.seat
    × Reports g.S.Shelf.fixed_of g.S.Shelf.gained l.fn.seat l.seat (IsHanded (made_of l.form g.H.Holder.gives) l.fn.holders) (IsHanded (made_of l.form g.H.Holder.gives) l.holders) (sum_by g.H.Holder.count l.fn.holders) (sum_by g.H.Holder.count l.holders) l.fn.report l.report
    × Among (g.S.Shelf.claims l.fn.seat) (g.S.Shelf.claims l.seat)
    × AreLater (made_of l.form g.H.Holder.gives) l.fn.holders l.holders
    × ((k : ℕ) → l.holder-index ≤ k → slice_get l.holders k ≡ slice_get l.fn.holders k)
    × (l.chunks ≤ (g.S.Shelf.fixed_of l.seat).capacity)
    × (l.done ≡ true → (m : ℕ) → 0 < m → m / 64 ≡ l.group → m < l.chunks → g.S.Shelf.has_parent l.seat m)
    × ((blob : List ℕ) → IsFor l.form (g.S.Shelf.fixed_of l.fn.seat) blob → IsServed (g.S.Shelf.fixed_of l.fn.seat) blob → g.S.Shelf.records l.fn.seat (length blob)
    → (has : HasSlice (made_of l.form g.H.Holder.gives) (g.S.Shelf.fixed_of l.fn.seat).mode blob l.part.start (checked_len l.form l.part) l.fn.holders) → has.place < l.holder-index
    → ((m : ℕ) → 0 < m → m / 64 ≡ l.group → m < l.chunks → (m < 65536) × (holds_parent (slice_of (g.S.Shelf.fixed_of l.fn.seat) blob l.part.start (checked_len l.form l.part)) m ≡ true))
    → HasFailedSince l.fn.report l.report ⊎ ((m : ℕ) → 0 < m → m / 64 ≡ l.group → m < l.chunks → g.S.Shelf.has_parent l.seat m))

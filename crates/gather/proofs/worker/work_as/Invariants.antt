use Rattle.holders.specs.Forms.{made_of}
use Rattle.holders.specs.Parts.{HaveParts, IsFor}
use Rattle.gather.specs.Claims.{Among}
use Rattle.gather.proofs.Common.{sum_by, ◌≡◌, ◌⊎◌, ℕ, ◌+◌, ◌/◌, ◌%◌, ◌<◌, List, length, chunk_count}
use Rattle.gather.specs.Counts.{Reports}
use Rattle.holders.specs.Holders.{AreLater, IsHanded}
use Rattle.gather.proofs.worker.work_as.Given as goal
use Rattle.holders.specs.declared.grain.Grain.TheVariants.{Group as ByGroup}
use Rattle.holders.specs.Available.{IsServed}
use Rattle.gather.specs.Counts.{HasFailedSince}

abbrev pub invariant-loop-step : goal.invariant-loop-step
invariant-loop-step g l = g.S.Shelf.has l.shelf l.seat
    × Reports g.S.Shelf.fixed_of g.S.Shelf.gained l.fn.seat l.seat (IsHanded (made_of l.form g.H.Holder.gives) l.fn.holders) (IsHanded (made_of l.form g.H.Holder.gives) l.holders) (sum_by g.H.Holder.count l.fn.holders) (sum_by g.H.Holder.count l.holders) l.fn.report l.report
    × Among (g.S.Shelf.claims l.fn.seat) (g.S.Shelf.claims l.seat)
    × AreLater (made_of l.form g.H.Holder.gives) l.fn.holders l.holders
    × ((blob : List ℕ) → IsFor l.form (g.S.Shelf.fixed_of l.fn.seat) blob → IsServed (g.S.Shelf.fixed_of l.fn.seat) blob → HaveParts l.form ByGroup g.H.Holder.gives (g.S.Shelf.fixed_of l.fn.seat).mode blob l.fn.holders → l.length ≡ length blob
    → HasFailedSince l.fn.report l.report ⊎ ((k c : ℕ) → k < l.step → c / 64 ≡ (l.first + k) % l.groups → c < chunk_count (length blob) → g.S.Shelf.holds l.seat c ⊎ g.S.Shelf.busy l.fn.seat l.seat c))
    × g.S.Shelf.records l.seat l.length

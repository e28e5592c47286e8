use Rattle.holders.specs.Forms.{made_of}
use Rattle.holders.specs.Parts.{HaveParts, IsFor}
use Rattle.gather.specs.Claims.{Among}
use Rattle.gather.proofs.Common.{sum_by, ◌≡◌, ◌⊎◌, ℕ, ◌<◌, List, length, chunk_count}
use Rattle.gather.specs.Counts.{HasFailedSince, Reports}
use Rattle.holders.specs.Holders.{AreLater, IsHanded}
use Rattle.holders.specs.declared.grain.Grain.TheVariants.{Chunk as ByChunk}
use Rattle.holders.specs.Available.{IsServed}
use Rattle.gather.proofs.salvaging.salvage.Given as goal

abbrev pub invariant-loop-chunk : goal.invariant-loop-chunk
invariant-loop-chunk g l = g.S.Shelf.has l.shelf l.seat
    × Reports g.S.Shelf.fixed_of g.S.Shelf.gained l.fn.seat l.seat (IsHanded (made_of l.form g.H.Holder.gives) l.fn.holders) (IsHanded (made_of l.form g.H.Holder.gives) l.holders) (sum_by g.H.Holder.count l.fn.holders) (sum_by g.H.Holder.count l.holders) l.fn.report l.report
    × Among (g.S.Shelf.claims l.fn.seat) (g.S.Shelf.claims l.seat)
    × AreLater (made_of l.form g.H.Holder.gives) l.fn.holders l.holders
    × ((blob : List ℕ) → IsFor l.form (g.S.Shelf.fixed_of l.fn.seat) blob → IsServed (g.S.Shelf.fixed_of l.fn.seat) blob → HaveParts l.form ByChunk g.H.Holder.gives (g.S.Shelf.fixed_of l.fn.seat).mode blob l.fn.holders → l.length ≡ length blob
    → HasFailedSince l.fn.report l.report ⊎ ((c : ℕ) → c < l.chunk → c < chunk_count (length blob) → g.S.Shelf.holds l.seat c ⊎ g.S.Shelf.busy l.fn.seat l.seat c))
    × g.S.Shelf.records l.seat l.length

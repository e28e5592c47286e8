use Rattle.holders.specs.Forms.{made_of}
use Rattle.holders.specs.Parts.{IsEndIn, IsFor}
use Rattle.gather.specs.Claims.{Among}
use Rattle.gather.proofs.Common.{sum_by, ◌≡◌, ◌⊎◌, ℕ, ◌<◌, ◌≤◌, List, IfSome, IsSome, IsTrue, slice_get}
use Rattle.gather.specs.Counts.{IsToldTooLarge, Reports}
use Rattle.holders.specs.Holders.{AreLater, IsHanded}
use Rattle.gather.proofs.worker.agree.Given as goal
use Rattle.holders.specs.Available.{HasSlice, IsServed}
use Rattle.gather.specs.Counts.{HasFailedSince}

abbrev pub invariant-loop-holder : goal.invariant-loop-holder
invariant-loop-holder g l = g.S.Shelf.has l.shelf l.seat
    × Reports g.S.Shelf.fixed_of g.S.Shelf.gained l.fn.seat l.seat (IsHanded (made_of l.form g.H.Holder.gives) l.fn.holders) (IsHanded (made_of l.form g.H.Holder.gives) l.holders) (sum_by g.H.Holder.count l.fn.holders) (sum_by g.H.Holder.count l.holders) l.fn.report l.report
    × Among (g.S.Shelf.claims l.fn.seat) (g.S.Shelf.claims l.seat)
    × AreLater (made_of l.form g.H.Holder.gives) l.fn.holders l.holders
    × ((k : ℕ) → l.holder-index ≤ k → slice_get l.holders k ≡ slice_get l.fn.holders k)
    × IfSome l.length (λ n. g.S.Shelf.records l.seat n)
    × (IsTrue l.too_large → IsToldTooLarge l.report (IsHanded (made_of l.form g.H.Holder.gives) l.fn.holders) (g.S.Shelf.fixed_of l.fn.seat))
    × ((blob : List ℕ) (start len : ℕ) → IsFor l.form (g.S.Shelf.fixed_of l.fn.seat) blob → IsServed (g.S.Shelf.fixed_of l.fn.seat) blob → IsEndIn l.form start len
    → (has : HasSlice (made_of l.form g.H.Holder.gives) (g.S.Shelf.fixed_of l.fn.seat).mode blob start len l.fn.holders) → has.place < l.holder-index
    → HasFailedSince l.fn.report l.report ⊎ IsToldTooLarge l.report (IsHanded (made_of l.form g.H.Holder.gives) l.fn.holders) (g.S.Shelf.fixed_of l.fn.seat) ⊎ IsSome l.length)

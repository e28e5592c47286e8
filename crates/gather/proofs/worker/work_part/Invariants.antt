use Rattle.holders.specs.Forms.{made_of}
use Rattle.gather.specs.Asked.{checked_len}
use Rattle.holders.specs.Parts.{IsFor}
use Rattle.gather.specs.Claims.{AmongAnd}
use Rattle.gather.proofs.Common.{sum_by, ◌≡◌, ◌⊎◌, ℕ, ◌<◌, ◌≤◌, List, true, false, slice_get, holds_chunk, in_mask}
use Rattle.gather.specs.Counts.{Reports}
use Rattle.holders.specs.Holders.{AreLater, IsHanded}
use Rattle.gather.proofs.worker.work_part.Given as goal
use Rattle.gather.specs.Filled.{IsWanted}
use Rattle.holders.specs.Available.{HasSlice, IsServed, slice_of}
use Rattle.gather.specs.Counts.{HasFailedSince}

abbrev pub invariant-loop-holder : goal.invariant-loop-holder
invariant-loop-holder g l = g.S.Shelf.has l.shelf l.seat
    × Reports g.S.Shelf.fixed_of g.S.Shelf.gained l.fn.seat l.seat (IsHanded (made_of l.form g.H.Holder.gives) l.fn.holders) (IsHanded (made_of l.form g.H.Holder.gives) l.holders) (sum_by g.H.Holder.count l.fn.holders) (sum_by g.H.Holder.count l.holders) l.fn.report l.report
    × AmongAnd (g.S.Shelf.claims l.fn.seat) l.group l.left (g.S.Shelf.claims l.seat)
    × AreLater (made_of l.form g.H.Holder.gives) l.fn.holders l.holders
    × ((k : ℕ) → l.holder-index ≤ k → slice_get l.holders k ≡ slice_get l.fn.holders k)
    × ((c : ℕ) → in_mask l.group l.left c ≡ true → in_mask l.group l.granted c ≡ true)
    × ((c : ℕ) → in_mask l.group l.granted c ≡ true → ((in_mask l.group l.left c ≡ true) × (g.S.Shelf.claims l.seat c ≡ true)) ⊎ ((in_mask l.group l.left c ≡ false) × g.S.Shelf.holds l.seat c))
    × ((blob : List ℕ) → IsFor l.form (g.S.Shelf.fixed_of l.fn.seat) blob → IsServed (g.S.Shelf.fixed_of l.fn.seat) blob
    → (has : HasSlice (made_of l.form g.H.Holder.gives) (g.S.Shelf.fixed_of l.fn.seat).mode blob l.part.start (checked_len l.form l.part) l.fn.holders) → has.place < l.holder-index
    → ((c : ℕ) → in_mask l.group l.granted c ≡ true → holds_chunk (slice_of (g.S.Shelf.fixed_of l.fn.seat) blob l.part.start (checked_len l.form l.part)) c ≡ true) → HasFailedSince l.fn.report l.report ⊎ ((c : ℕ) → in_mask l.group l.left c ≡ false))
    × ((c : ℕ) → IsWanted l.group l.want c → c < (g.S.Shelf.fixed_of l.fn.seat).capacity → (in_mask l.group l.granted c ≡ true) ⊎ g.S.Shelf.holds l.seat c ⊎ g.S.Shelf.busy l.fn.seat l.seat c)

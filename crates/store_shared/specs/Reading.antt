-- A read of a shared store is an event of its history.
use Rattle.std.specs.Prelude.{◌≡◌, ◌⊎◌, ℕ, ◌+◌, ◌*◌, ◌<◌, ◌++◌, List, length, drop, Option, Some, slice_get, slice_index}
use Rattle.store_core.specs.declared.history.Call.TheVariants.{Read}
use Rattle.store_core.specs.declared.view.SeatView.{SeatView}
use Rattle.store_core.specs.Laws.{ByteFrom}
use Rattle.holders.specs.Blobs.{IsBlob, CollidesWith}
use Rattle.store_core.specs.Stores.{AnswersRead}
use Rattle.store_core.specs.Knowledge.{Called}

-- A read is an event of the store, the last in what the seat has seen. Its bytes fill the buffer from the
-- front, and the rest of the buffer is unchanged.
pub record SeatDidRead (old new : SeatView) (at : ℕ) (before after : List ℕ) (missing : Option ℕ) : Type 0 where
  pub bytes : List ℕ
  pub called : Called (Read at (length before) bytes) old new
  pub filled : after ≡ bytes ++ drop (length bytes) before
  pub answer : AnswersRead at (length before) bytes missing

-- For every blob with the store's root, each byte filled in is the blob's byte there, counted from the base; or
-- a collision is exhibited between the blob and the slice from which a Commit, in what the seat has seen, took
-- the byte's chunk.
abbrev pub SeatReadBinds : SeatView → ℕ → List ℕ → ℕ → Type 0
SeatReadBinds view at bytes count = (blob : List ℕ) → IsBlob view.fixed blob → (i : ℕ) → i < count
    → (slice_get blob (1024 * view.fixed.base + (at + i)) ≡ Some (slice_index bytes i))
    ⊎ ((from : ByteFrom view.fixed view.seen (at + i) (slice_index bytes i)) × CollidesWith view.fixed blob from.chunk.piece)

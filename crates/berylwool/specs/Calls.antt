-- The results of a seat's calls: slices that C passes to a store, and what the store returns.
use Rattle.std.specs.Prelude.{◌≡◌, ◌⊎◌, ℕ, ◌+◌, ◌-◌, ◌*◌, ◌^◌, ◌<◌, ◌≤◌, List, length, min, Option, Some, slice_get, slice_index}
use Rattle.bao_check.specs.Accepted.{IsAccepted, slice_nodes}
use Rattle.store_core.specs.declared.history.Call.TheVariants.{Serve, Settle}
use Rattle.holders.specs.declared.piece.Piece.{Piece}
use Rattle.store_core.specs.declared.history.Serving.{Serving}
use Rattle.store_core.specs.declared.history.Serving.TheVariants.{Text}
use Rattle.store_core.specs.declared.history.Settling.TheVariants.{Known, Settled}
use Rattle.store_core.specs.declared.view.SeatView.{SeatView}
use Rattle.holders.specs.Blobs.{IsBlob, CollidesWith}
use Rattle.store_core.specs.Laws.{ByteFrom}
use Rattle.store_core.specs.Stores.{filled_count}
use Rattle.store_shared.specs.Reading.{SeatDidRead, SeatReadBinds}
use Rattle.store_shared.specs.Serving.{SeatSliceBinds, SeatSliceIsAccepted}
use Rattle.store_shared.specs.Calls.{HasSliceHeld}
use Rattle.store_shared.specs.declared.assembly.Assembly.{Assembly}
use Rattle.store_shared.specs.Seats.{Gripped, fixed_of}
use Rattle.store_core.specs.Knowledge.{Called}
use Rattle.berylwool.specs.Status.{IsRefused}

-- the accepted slice (start, len) that an encoding is, in a store from chunk `base` of the blob on
abbrev pub slice_piece : ℕ → List ℕ → ℕ → ℕ → Piece
slice_piece base text start len = record { base = base; start = start; len = len; text = text }

-- the encoding is accepted as this slice, under the store's root
abbrev pub IsSliceOf : Assembly → List ℕ → ℕ → ℕ → Type 0
IsSliceOf store text start len = IsAccepted (fixed_of store).mode (fixed_of store).root.0 text (slice_nodes text start len)

-- the status and the offset are those of the encoding's first fault as this slice
abbrev pub IsNoSliceOf : Assembly → List ℕ → ℕ → ℕ → ℕ → ℕ → Type 0
IsNoSliceOf store text start len status at = IsRefused (fixed_of store).mode (fixed_of store).root.0 text (slice_nodes text start len) status at

-- the length of the slice is recorded, by this call or before
abbrev pub HasSettled : Piece → SeatView → SeatView → Type 0
HasSettled piece old new = Called (Settle piece Settled) old new ⊎ Called (Settle piece Known) old new

-- A read fills a buffer: an event of the store; and for each blob with its root the bytes are the blob's, or a
-- collision is exhibited.
pub record Reads (at : ℕ) (before after : List ℕ) (missing : Option ℕ) (old new : Gripped) : Type 0 where
  pub did : SeatDidRead old.view new.view at before after missing
  pub binds : SeatReadBinds new.view at after (filled_count at (length before) missing)

-- For every blob with the store's root, the first `count` bytes are the blob's from byte `at` on; or a collision is
-- exhibited between the blob and the slice from which a Commit, in what the seat has seen, took the byte's chunk.
-- The store's first chunk is chunk `base` of the blob.
abbrev pub AreOfBlob : ℕ → SeatView → ℕ → List ℕ → ℕ → Type 0
AreOfBlob base view at bytes count = (blob : List ℕ) → IsBlob view.fixed blob → (i : ℕ) → i < count
    → (slice_get blob (at + i) ≡ Some (slice_index bytes i))
    ⊎ ((from : ByteFrom view.fixed view.seen (at - 1024 * base + i) (slice_index bytes i)) × CollidesWith view.fixed blob from.chunk.piece)

-- A read from byte `at` of the blob on fills a buffer, in a store from chunk `base` on: an event of the store, where
-- `missing` is counted from its first chunk; and the bytes are the blob's, or a collision is exhibited.
pub record ReadsAt (base at : ℕ) (before after : List ℕ) (missing : Option ℕ) (old new : Gripped) : Type 0 where
  pub within : 1024 * base ≤ at
  pub did : SeatDidRead old.view new.view (at - 1024 * base) before after missing
  pub binds : AreOfBlob base new.view at after (filled_count (at - 1024 * base) (length before) missing)

-- Of such a read byte `missing` of the blob is the first that isn't held. If byte `at` is below the store, it is that
-- byte, and there is no event. No blob has a byte 2^64 - 1.
abbrev pub LacksAt : ℕ → ℕ → List ℕ → List ℕ → ℕ → Gripped → Gripped → Type 0
LacksAt base at before after missing old new =
    ((at < 1024 * base) × (missing ≡ at) × (after ≡ before) × (new ≡ old))
    ⊎ ((position : ℕ) × ReadsAt base at before after (Some position) old new × (missing ≡ min (1024 * base + position) (2 ^ 64 - 1)))

-- A slice is served: an event of the store; and for each blob with its root the encoding is the blob's slice,
-- or a collision is exhibited. Whether or not the root is a blob's hash, the encoding is accepted under it, or
-- two accepted slices that it was assembled from clash.
pub record Serves (start len : ℕ) (text : List ℕ) (old new : Gripped) : Type 0 where
  pub called : Called (Serve start len (Text text)) old.view new.view
  pub binds : SeatSliceBinds new.view start len text
  pub accepted : SeatSliceIsAccepted new.view start len text

-- A slice isn't served, because a length or a node is missing: an event of the store. The seat had not seen all
-- of the slice held.
pub record LacksSlice (start len : ℕ) (answer : Serving) (old new : Gripped) : Type 0 where
  pub called : Called (Serve start len answer) old.view new.view
  pub some : ¬ HasSliceHeld old.view start len

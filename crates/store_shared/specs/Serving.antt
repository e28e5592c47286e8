-- Serving a slice from a shared store is an event of its history.
use Rattle.std.specs.Prelude.{◌≡◌, ◌⊎◌, ℕ, List}
use Rattle.bao_text.specs.declared.walk.Node.{Node}
use Rattle.bao_text.specs.declared.walk.Node.TheVariants.{Chunk, Parent}
use Rattle.bao_text.specs.Texts.{slice_text}
use Rattle.bao_check.specs.Accepted.{IsAccepted, slice_nodes}
use Rattle.store_core.specs.declared.fault.ServeFault.{ServeFault}
use Rattle.store_core.specs.declared.fault.ServeFault.TheVariants as refused
use Rattle.store_core.specs.declared.history.Call.TheVariants.{Serve}
use Rattle.store_core.specs.declared.history.Serving.TheVariants.{Lacking, NoLength}
use Rattle.store_core.specs.declared.view.SeatView.{SeatView}
use Rattle.store_core.specs.Histories.{state_after}
use Rattle.store_core.specs.Knowledge.{Called, Sees}
use Rattle.store_core.specs.Laws.{IsServed, CollisionOf, PiecesClash}
use Rattle.holders.specs.Blobs.{IsBlob}

-- the greatest length in bytes of a node
abbrev pub room_of : Node → ℕ
room_of (Chunk c) = 1024
room_of (Parent m) = 64

-- The meaning of a refused slice: if no length is recorded or a node isn't held, it is an event of the store;
-- for lack of memory it is none.
abbrev pub SeatIsRefused : ℕ → ℕ → ServeFault → SeatView → SeatView → Type 0
SeatIsRefused start len refused.NoLength old new = Called (Serve start len NoLength) old new
SeatIsRefused start len (refused.Lacking node) old new = Called (Serve start len (Lacking node)) old new
SeatIsRefused start len refused.Memory old new = Sees old new

-- For every blob with the store's root, a served encoding is the blob's slice; or a collision is exhibited
-- between the blob and a slice, in what the seat has seen, from which a node or the length came.
abbrev pub SeatSliceBinds : SeatView → ℕ → ℕ → List ℕ → Type 0
SeatSliceBinds view start len text =
    (blob : List ℕ) → IsBlob view.fixed blob → (text ≡ slice_text view.fixed.mode blob start len) ⊎ CollisionOf view.fixed view.seen blob (IsServed (state_after view.seen) start len)

-- It is accepted under the store's root, a blob's hash or not; or two such slices contradict each other.
abbrev pub SeatSliceIsAccepted : SeatView → ℕ → ℕ → List ℕ → Type 0
SeatSliceIsAccepted view start len text =
    IsAccepted view.fixed.mode view.fixed.root.0 text (slice_nodes text start len) ⊎ PiecesClash view.fixed view.seen (IsServed (state_after view.seen) start len)

-- What a seat that is alone stores of a piece, which slices it serves then, and what crews leave in a store.
use Rattle.std.specs.Prelude.{◌≡◌, ◌⊎◌, ℕ, ◌/◌, ◌<◌, true, List, length, Contains, Some, is_some}
use Rattle.bao_text.specs.Choice.{chunk_count}
use Rattle.bao_text.specs.declared.walk.Node.{Node}
use Rattle.bao_text.specs.declared.walk.Node.TheVariants.{Chunk, Parent}
use Rattle.bao_text.specs.NodeNames.{slice_names}
use Rattle.gather.specs.declared.crew.Crew.{Crew}
use Rattle.gather.specs.Filling.{IsOfNone}
use Rattle.gather.specs.SeatLasting.{IsAlone, IsClaimedMeanwhile}
use Rattle.holders.specs.declared.piece.Piece.{Piece}
use Rattle.store_core.specs.declared.view.SeatView.{SeatView}
use Rattle.store_core.specs.Histories.{state_after}
use Rattle.holders.specs.Pieces.{holds_chunk, holds_parent, length_of}
use Rattle.store_core.specs.Serves.{node_held}
use Rattle.store_core.specs.States.{State, is_held}

-- a chunk's number, or a parent's boundary
abbrev pub number_of : Node → ℕ
number_of (Chunk c) = c
number_of (Parent m) = m

-- the piece has this node
abbrev pub HasNode : Piece → Node → Type 0
HasNode piece (Chunk c) = holds_chunk piece c ≡ true
HasNode piece (Parent m) = holds_parent piece m ≡ true

-- it has all nodes of the slice (start, len) of a blob of the length that it claims
abbrev pub HasSliceOf : Piece → ℕ → ℕ → Type 0
HasSliceOf piece start len = (node : Node) → Contains (slice_names (length_of piece) start len) node → HasNode piece node

-- The seat is alone, and has seen the length recorded that the piece claims.
pub record IsReady (view : SeatView) (piece : Piece) : Type 0 where
  pub alone : IsAlone view
  pub recorded : (state_after view.seen).recorded ≡ Some (length_of piece)

-- It has seen held all that the piece has of groups below `end`, as far as there is room.
abbrev pub AreStored : SeatView → Piece → ℕ → Type 0
AreStored view piece end = (node : Node) → HasNode piece node → number_of node < view.fixed.capacity → number_of node / 64 < end
    → is_some (node_held (state_after view.seen) node) ≡ true

-- A store has every node of a blob: the blob's length is recorded, and each of its chunks and of its parents is held.
pub record HasEveryNode (s : State) (blob : List ℕ) : Type 0 where
  pub recorded : s.recorded ≡ Some (length blob)
  pub chunks : (c : ℕ) → c < chunk_count (length blob) → is_held s c ≡ true
  pub parents : (m : ℕ) → 0 < m → m < chunk_count (length blob) → is_some (s.parents m) ≡ true

-- A seat has seen the blob's length recorded, and each of the blob's chunks held, or claimed by somebody outside the crews while it
-- went on.
pub record HasChunksBeside {H : Type 0} (crews : List (Crew H)) (old new : SeatView) (blob : List ℕ) : Type 0 where
  pub recorded : (state_after new.seen).recorded ≡ Some (length blob)
  pub chunks : (c : ℕ) → c < chunk_count (length blob) → (is_held (state_after new.seen) c ≡ true) ⊎ IsClaimedMeanwhile (IsOfNone crews) old new c

-- any node
abbrev pub IsAnyNode : Node → Type 0
IsAnyNode node = Unit {0}

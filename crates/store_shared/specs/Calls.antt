-- Calls of a shared store: each is an event of its history.
use Rattle.std.specs.Prelude.{◌≡◌, ◌⊎◌, ℕ, ◌/◌, false, true, List, Contains, Some, is_some, length}
use Rattle.bao_text.specs.declared.walk.Node.{Node}
use Rattle.bao_text.specs.NodeNames.{slice_names}
use Rattle.bao_check.specs.declared.checked.Checked.{Checked}
use Rattle.holders.specs.declared.fixed.Fixed.{Fixed}
use Rattle.store_core.specs.declared.history.Call.TheVariants.{Parents, Settle}
use Rattle.holders.specs.declared.piece.Piece.{Piece}
use Rattle.store_core.specs.declared.history.Settling.{Settling}
use Rattle.store_core.specs.declared.history.Settling.TheVariants.{Settled, Known, Differs, OtherRoot, TooLarge}
use Rattle.store_core.specs.declared.history.Storing.TheVariants as storing
use Rattle.store_core.specs.declared.view.SeatView.{SeatView}
use Rattle.holders.specs.Room.{has_room}
use Rattle.store_core.specs.Histories.{state_after}
use Rattle.store_core.specs.Laws.{IsSettled}
use Rattle.holders.specs.Blobs.{CollidesWith, IsBlob}
use Rattle.holders.specs.Pieces.{holds_parent, length_of, piece_of}
use Rattle.store_core.specs.Serves.{node_held}
use Rattle.store_core.specs.Stores.{IsOf}
use Rattle.store_shared.specs.declared.fault.ParentsFault.{ParentsFault}
use Rattle.store_shared.specs.declared.fault.ParentsFault.TheVariants as unstored
use Rattle.store_shared.specs.Seats.{Gripped}
use Rattle.store_core.specs.Knowledge.{Called}

-- the slice is of the store's root and mode, and the length that it certifies fits the store
pub record MaySettle (fixed : Fixed) (piece : Checked) : Type 0 where
  pub of : IsOf fixed piece
  pub fits : has_room fixed (length_of (piece_of fixed.base piece)) ≡ true

-- The result of settling a length. If the slice is of another root or mode, or the length is too large, there
-- is no event.
abbrev pub SeatSettles : Fixed → Gripped → Gripped → Checked → Settling → Type 0
SeatSettles fixed old new piece OtherRoot = (¬ IsOf fixed piece) × (new ≡ old)
SeatSettles fixed old new piece TooLarge = IsOf fixed piece × (has_room fixed (length_of (piece_of fixed.base piece)) ≡ false) × (new ≡ old)
SeatSettles fixed old new piece Settled = MaySettle fixed piece × Called (Settle (piece_of fixed.base piece) Settled) old.view new.view
SeatSettles fixed old new piece Known = MaySettle fixed piece × Called (Settle (piece_of fixed.base piece) Known) old.view new.view
SeatSettles fixed old new piece Differs = MaySettle fixed piece × Called (Settle (piece_of fixed.base piece) Differs) old.view new.view

-- For every blob with the store's root, the length is the blob's; or a collision is exhibited between the blob
-- and the slice by which a Settle, in what the seat has seen, recorded it.
abbrev pub SeatLengthBinds : SeatView → ℕ → Type 0
SeatLengthBinds view l = (blob : List ℕ) → IsBlob view.fixed blob
    → (l ≡ length blob) ⊎ ((from : IsSettled view.fixed view.seen l) × CollidesWith view.fixed blob from.piece)

-- The seat has seen held each parent that the slice has at a boundary of the group.
abbrev pub AreParentsHeld : SeatView → ℕ → Piece → Type 0
AreParentsHeld view group piece = (m : ℕ) → m / 64 ≡ group → holds_parent piece m ≡ true → is_some ((state_after view.seen).parents m) ≡ true

-- The seat has seen a length recorded, and has seen held each node of that slice of a blob of this length.
pub record HasSliceHeld (view : SeatView) (start len : ℕ) : Type 0 where
  pub length : ℕ
  pub recorded : (state_after view.seen).recorded ≡ Some length
  pub held : (node : Node) → Contains (slice_names length start len) node → is_some (node_held (state_after view.seen) node) ≡ true

abbrev pub number_of : ParentsFault → ℕ
number_of unstored.OtherRoot = 804
number_of unstored.OtherLength = 807

-- The meaning of refused parents. If the slice is of another root or mode, there is no event; another length is
-- one.
abbrev pub SeatIsUnstored : Fixed → ℕ → Checked → ParentsFault → Gripped → Gripped → Type 0
SeatIsUnstored fixed group piece unstored.OtherRoot old new = new ≡ old
SeatIsUnstored fixed group piece unstored.OtherLength old new = Called (Parents group (piece_of fixed.base piece) storing.OtherLength) old.view new.view

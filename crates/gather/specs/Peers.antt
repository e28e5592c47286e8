-- What a peer is, and what a fetch from it does.
use Rattle.std.specs.Prelude.{◌≡◌, ◌⊎◌, ℕ, List, [], ◌++◌}
use Rattle.bao_text.specs.declared.walk.Node.{Node}
use Rattle.store_core.specs.declared.history.Call.TheVariants.{Serve}
use Rattle.store_core.specs.declared.history.Event.{Event}
use Rattle.store_core.specs.declared.history.Serving.{Serving}
use Rattle.store_core.specs.declared.history.Serving.TheVariants.{Lacking, NoLength, Text}
use Rattle.store_core.specs.declared.view.SeatView.{SeatView}
use Rattle.store_core.specs.Histories.{IsLegal, state_after}
use Rattle.store_core.specs.Serves.{serving}
use Rattle.store_shared.specs.Serving.{SeatSliceBinds, SeatSliceIsAccepted}
use Rattle.store_shared.specs.declared.assembly.Assembly.{Assembly}
use Rattle.store_shared.specs.Seats.{Gripped}
use Rattle.store_core.specs.Knowledge.{Called, Sees}

-- a store, and a seat of it
pub record Peered : Type 0 where
  pub assembly : Assembly
  pub seat : Gripped

-- the text of an answer: the slice, or nothing where the store has no length or lacks a node
abbrev pub text_of : Serving → List ℕ
text_of NoLength = []
text_of (Lacking node) = []
text_of (Text text) = text

-- What a peer may give as the slice (start, len): what its store answers after all that the peer's seat has seen and whatever
-- legally follows.
pub record MayServe (peer : Peered) (start len : ℕ) (text : List ℕ) : Type 0 where
  pub more : List Event
  pub legal : IsLegal peer.seat.view.fixed (peer.seat.view.seen ++ more)
  pub is : text ≡ text_of (serving (state_after (peer.seat.view.seen ++ more)) start len)

-- The call that stands behind a text: the slice was served, or there is no text, since the store has no length or lacks a
-- node.
abbrev pub IsFetchCall : ℕ → ℕ → List ℕ → SeatView → SeatView → Type 0
IsFetchCall start len text old new = Called (Serve start len (Text text)) old new
    ⊎ ((text ≡ []) × (Called (Serve start len NoLength) old new ⊎ ((node : Node) × Called (Serve start len (Lacking node)) old new)))

-- A text is appended. If it isn't empty it is the slice of each blob with the root, or a collision is exhibited; and it is accepted
-- under any root, or two pieces clash.
pub record Fetches (start len : ℕ) (before after : List ℕ) (old new : SeatView) : Type 0 where
  pub text : List ℕ
  pub is : after ≡ before ++ text
  pub served : IsFetchCall start len text old new
  pub binds : (text ≡ []) ⊎ SeatSliceBinds new start len text
  pub accepted : (text ≡ []) ⊎ SeatSliceIsAccepted new start len text

-- there was no memory for the slice, or for what it is appended to
abbrev pub Starves : ℕ → ℕ → SeatView → SeatView → Type 0
Starves start len old new = Sees old new ⊎ ((text : List ℕ) × Called (Serve start len (Text text)) old new)

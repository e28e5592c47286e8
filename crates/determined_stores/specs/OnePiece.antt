-- What is served of one piece alone.
use Rattle.std.specs.Prelude.{◌≡◌, ℕ, List}
use Rattle.bao_check.specs.Accepted.{IsAccepted, slice_nodes}
use Rattle.holders.specs.declared.fixed.Fixed.{Fixed}
use Rattle.store_core.specs.declared.history.Event.{Event}
use Rattle.holders.specs.declared.piece.Piece.{Piece}
use Rattle.store_core.specs.declared.history.Serving.TheVariants.{Text}
use Rattle.store_core.specs.Histories.{IsLegal, state_after}
use Rattle.store_core.specs.Laws.{IsServed, IsUsed}
use Rattle.store_core.specs.Serves.{serving}

-- Where all nodes of a slice and the recorded length are of one piece, the encoding that is served is accepted as that slice,
-- under whatever root.
abbrev pub OnePieceIsAccepted : Type 0
OnePieceIsAccepted = (fixed : Fixed) (history : List Event) (start len : ℕ) (text : List ℕ) (piece : Piece) → IsLegal fixed history
    → serving (state_after history) start len ≡ Text text
    → ((other : Piece) → IsUsed fixed history (IsServed (state_after history) start len) other → other ≡ piece)
    → IsAccepted fixed.mode fixed.root.0 text (slice_nodes text start len)

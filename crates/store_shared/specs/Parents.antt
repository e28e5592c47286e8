-- Storing parents, and what a seat's held parents are.
use Rattle.std.specs.Prelude.{◌≡◌, ◌⊎◌, ℕ, not, ◌&&◌, List, Some, is_some}
use Rattle.bao_text.specs.declared.walk.Node.TheVariants.{Parent}
use Rattle.bao_check.specs.Parents.{parent_of}
use Rattle.holders.specs.declared.piece.Piece.{Piece}
use Rattle.store_core.specs.declared.history.Storing.{Storing}
use Rattle.store_core.specs.declared.history.Storing.TheVariants.{OtherLength, Stored}
use Rattle.store_core.specs.declared.view.SeatView.{SeatView}
use Rattle.store_core.specs.Histories.{state_after}
use Rattle.store_core.specs.Laws.{CollisionOf}
use Rattle.holders.specs.Blobs.{IsBlob}
use Rattle.store_core.specs.Masks.{IsMaskOf}
use Rattle.holders.specs.Pieces.{holds_parent}

-- If a seat with all existing names stores parents, they are all that the slice has at boundaries of the group
-- and that the seat hasn't seen held.
abbrev pub AreAllParents : SeatView → ℕ → Piece → Storing → Type 0
AreAllParents view group piece OtherLength = Unit {0}
AreAllParents view group piece (Stored mask) = IsMaskOf group mask (λ m. holds_parent piece m && not (is_some ((state_after view.seen).parents m)))

-- For every blob with the store's root, each parent that the seat has seen held is the blob's at that boundary;
-- or a collision is exhibited between the blob and a slice, in what the seat has seen, from which this parent
-- or the length came.
abbrev pub SeatParentsBind : SeatView → Type 0
SeatParentsBind view = (blob : List ℕ) → IsBlob view.fixed blob → (m : ℕ) (bytes : List ℕ) → (state_after view.seen).parents m ≡ Some bytes
    → (parent_of view.fixed.mode blob m ≡ Some bytes) ⊎ CollisionOf view.fixed view.seen blob (λ node. node ≡ Parent m)

-- A worker's seat of a shared store: what it claims, and how what it has seen goes on.
use Rattle.std.specs.Prelude.{◌≡◌, ◌⊎◌, ℕ, ◌+◌, Bool, false, List, ◌++◌, Some}
use Rattle.std.specs.List.{AllByRecursion}
use Rattle.bao_check.specs.Pieces.{chunk_of}
use Rattle.holders.specs.declared.piece.Piece.{Piece}
use Rattle.gather.specs.Worked.{AreFrom, chunks_in, parents_in}
use Rattle.holders.specs.declared.fixed.Fixed.{Fixed}
use Rattle.store_core.specs.declared.history.Event.{Event}
use Rattle.store_core.specs.declared.view.SeatView.{SeatView}
use Rattle.store_core.specs.Histories.{AreOfOthers, state_after}
use Rattle.store_core.specs.Laws.{IsCommitted}
use Rattle.holders.specs.Blobs.{IsBlob, CollidesWith}
use Rattle.store_core.specs.Views.{mine, names_of, seat_claims}
use Rattle.store_shared.specs.Seats.{Gripped}

-- the root and the mode of the store's blob, how many chunks it has room for, and from which one on
abbrev pub fixed_of : Gripped → Fixed
fixed_of seat = seat.view.fixed

-- whether the seat claims a chunk
abbrev pub claims_of : Gripped → ℕ → Bool
claims_of seat c = seat_claims seat.view c

-- A seat went on, with the same names in the same store. It has seen all that it had seen, and more after it. Of its own
-- calls there are so many more, by these names and of pieces that were handed over, which store so many chunks and so many
-- parents.
pub record GoneOn (handed : Piece → Type 0) (old new : Gripped) (chunks parents : ℕ) : Type 0 where
  pub fixed_is : fixed_of new ≡ fixed_of old
  pub names_are : new.view.names ≡ old.view.names
  pub more : List Event
  pub seen_is : new.view.seen ≡ old.view.seen ++ more
  pub own : List Event
  pub by : AllByRecursion (λ (e : Event). e.who ≡ names_of old.view) own
  pub from : AreFrom handed own
  pub mine_is : mine new.view ≡ mine old.view ++ own
  pub counts : chunks ≡ chunks_in own
  pub counts_parents : parents ≡ parents_in own

-- Each chunk that is held after all that was seen is the one of that number, counted from the store's first, of each blob with the root; or a collision is
-- exhibited from that blob and from the piece by which the chunk was committed.
abbrev pub SeenBinds : SeatView → Type 0
SeenBinds view = (blob : List ℕ) → IsBlob view.fixed blob → (c : ℕ) (bytes : List ℕ) → (state_after view.seen).held c ≡ Some bytes
    → (chunk_of blob (view.fixed.base + c) ≡ Some bytes) ⊎ ((from : IsCommitted view.fixed view.seen c bytes) × CollidesWith view.fixed blob from.piece)

-- A new seat has seen what a seat had seen, and has neither calls nor claims.
pub record BeginsAfter (given new : SeatView) : Type 0 where
  pub fixed_is : new.fixed ≡ given.fixed
  pub seen_is : new.seen ≡ given.seen
  pub no_calls : AreOfOthers (names_of new) new.seen
  pub no_claims : (c : ℕ) → seat_claims new c ≡ false

-- A seat has the same names, so that its calls and its claims are the same, and has seen the same. More may have split off
-- from it.
pub record KeepsItsOwn (given stays : SeatView) : Type 0 where
  pub names_are : names_of stays ≡ names_of given
  pub rest_is : stays ≡ record given { names = stays.names }
